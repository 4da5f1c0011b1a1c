-- The laws of weights.
use Rattle.std.proofs.Common.{◌≡◌, ◌≤◌, ℤ, pos, neg_ℤ, ◌-ℤ◌, ◌<ℤ◌, ◌≤ℤ◌, refl, arith, inl, inr, Option, Some, None}
use Rattle.std.proofs.lemmas.Int.{ints}
use Rattle.pay_fixed.specs.declared.smooth.Smooth.TheVariants.{Rise, Peak}
use Rattle.pay_fixed.specs.Weights.{whole, rise, fall, climb, peak, weight_of}
use Rattle.pay_fixed.specs.WeightLaws.{WeightIsWithin, RiseIsSharpOutside, FallsTo, ClimbsFrom, PeakIsSharpOutside, WeightIsSharpOutside, RiseNeverFalls}
use Rattle.pay_fixed.proofs.Shares.{lt-cases, le-cases, eq-cases, share_within, share-rising}

rise-within : (low high x : ℤ) → rise low high x ≤ whole
rise-within low high x = elim (le-cases x low) [
  | inl under ↦ rw under.0 (omega arith)
  | inr past ↦ elim (le-cases high x) [
    | inl over ↦ rw (past.0, over.0) (omega arith)
    | inr before ↦ rw (past.0, before.0) (share_within (x -ℤ low) (high -ℤ low) (omega (arith, ints, past.1, before.1)) (omega (arith, ints, past.1)) (omega (arith, ints, before.1)))
  ]
]

fall-within : (above : Option ℤ) (x : ℤ) → pos 0 <ℤ x → fall above x ≤ whole
fall-within None x h = omega arith
fall-within (Some above) x h = elim (le-cases above x) [
  | inl over ↦ rw over.0 (omega arith)
  | inr before ↦ rw before.0 (share_within (above -ℤ x) above (omega (arith, ints, before.1)) (omega (arith, ints, before.1)) (omega (arith, ints)))
]

climb-within : (below : Option ℤ) (x : ℤ) → x ≤ℤ pos 0 → climb below x ≤ whole
climb-within None x h = omega arith
climb-within (Some below) x h = elim (le-cases x below) [
  | inl under ↦ rw under.0 (omega arith)
  | inr past ↦ rw past.0 (share_within (x -ℤ below) (neg_ℤ below) (omega (arith, ints, past.1)) (omega (arith, ints, past.1)) (omega (arith, ints)))
]

peak-within : (below above : Option ℤ) (x : ℤ) → peak below above x ≤ whole
peak-within below above x = elim (eq-cases x (pos 0)) [
  | inl centre ↦ rw centre.0 (omega arith)
  | inr beside ↦ elim (lt-cases (pos 0) x) [
    | inl positive ↦ rw (beside.0, positive.0) (fall-within above x positive.1)
    | inr negative ↦ rw (beside.0, negative.0) (climb-within below x negative.1)
  ]
]

pub weight_is_within : WeightIsWithin
unfolding weight_of
weight_is_within (Rise low high) x = rise-within low high x
weight_is_within (Peak below above) x = peak-within below above x

rise-under : (low high x : ℤ) → x ≤ℤ low → rise low high x ≡ 0
rise-under low high x h = elim (le-cases x low) [
  | inl under ↦ rw under.0 refl
  | inr past ↦ absurd (omega (arith, ints, past.1))
]

rise-over : (low high x : ℤ) → low <ℤ high → high ≤ℤ x → rise low high x ≡ whole
rise-over low high x h k = elim (le-cases x low) [
  | inl under ↦ absurd (omega (arith, ints, under.1))
  | inr past ↦ elim (le-cases high x) [
    | inl over ↦ rw (past.0, over.0) refl
    | inr before ↦ absurd (omega (arith, ints, before.1))
  ]
]

rise-sharp : (low high x : ℤ) → RiseIsSharpOutside low high x
unfolding weight_of
rise-sharp low high x = record { under = rise-under low high x; over = rise-over low high x }

peak-centre : (below above : Option ℤ) (x : ℤ) → x ≡ pos 0 → peak below above x ≡ whole
peak-centre below above x h = elim (eq-cases x (pos 0)) [
  | inl centre ↦ rw centre.0 refl
  | inr beside ↦ absurd (beside.1 h)
]

-- a peak falls above 0, and climbs below it
peak-falls : (below above : Option ℤ) (x : ℤ) → pos 0 <ℤ x → peak below above x ≡ fall above x
peak-falls below above x h = elim (eq-cases x (pos 0)) [
  | inl centre ↦ absurd (omega (arith, ints, centre.1))
  | inr beside ↦ elim (lt-cases (pos 0) x) [
    | inl positive ↦ rw (beside.0, positive.0) refl
    | inr negative ↦ absurd (omega (arith, ints, negative.1))
  ]
]

peak-climbs : (below above : Option ℤ) (x : ℤ) → x <ℤ pos 0 → peak below above x ≡ climb below x
peak-climbs below above x h = elim (eq-cases x (pos 0)) [
  | inl centre ↦ absurd (omega (arith, ints, centre.1))
  | inr beside ↦ elim (lt-cases (pos 0) x) [
    | inl positive ↦ absurd (omega (arith, ints, positive.1))
    | inr negative ↦ rw (beside.0, negative.0) refl
  ]
]

fall-over : (above x : ℤ) → above ≤ℤ x → fall (Some above) x ≡ 0
fall-over above x h = elim (le-cases above x) [
  | inl over ↦ rw over.0 refl
  | inr before ↦ absurd (omega (arith, ints, before.1))
]

climb-under : (below x : ℤ) → x ≤ℤ below → climb (Some below) x ≡ 0
climb-under below x h = elim (le-cases x below) [
  | inl under ↦ rw under.0 refl
  | inr past ↦ absurd (omega (arith, ints, past.1))
]

peak-over : (below above : Option ℤ) (x : ℤ) → FallsTo above (peak below above x) x
peak-over below None x = peak-falls below None x
peak-over below (Some above) x =
    λ (h : pos 0 <ℤ above) (k : above ≤ℤ x). rw (peak-falls below (Some above) x (omega (arith, ints))) (fall-over above x k)

peak-under : (below above : Option ℤ) (x : ℤ) → ClimbsFrom below (peak below above x) x
peak-under None above x = peak-climbs None above x
peak-under (Some below) above x =
    λ (h : below <ℤ pos 0) (k : x ≤ℤ below). rw (peak-climbs (Some below) above x (omega (arith, ints))) (climb-under below x k)

peak-sharp : (below above : Option ℤ) (x : ℤ) → PeakIsSharpOutside below above x
unfolding weight_of
peak-sharp below above x = record { centre = peak-centre below above x; over = peak-over below above x; under = peak-under below above x }

pub weight_is_sharp_outside : WeightIsSharpOutside
weight_is_sharp_outside = record { rise = rise-sharp; peak = peak-sharp }

-- past the low end, a rise is the whole or a share
rise-rising : (low high x y : ℤ) → x ≤ℤ y → rise low high x ≤ rise low high y
rise-rising low high x y h = elim (le-cases x low) [
  | inl under ↦ rw under.0 (omega arith)
  | inr past ↦ elim (le-cases high y) [
    | inl over ↦
        let later : low <ℤ y = omega (arith, ints, past.1) in
        elim (le-cases y low) [
          | inl back ↦ absurd (omega (arith, ints, back.1))
          | inr on ↦ rw (on.0, over.0) (rise-within low high x)
        ]
    | inr before ↦ elim (le-cases y low) [
      | inl back ↦ absurd (omega (arith, ints, back.1, past.1))
      | inr on ↦ elim (le-cases high x) [
        | inl early ↦ absurd (omega (arith, ints, early.1, before.1))
        | inr inside ↦ rw (past.0, on.0, inside.0, before.0)
            (share-rising (x -ℤ low) (y -ℤ low) (high -ℤ low) (omega (arith, ints, past.1, inside.1)) (omega (arith, ints, past.1)) (omega (arith, ints)))
      ]
    ]
  ]
]

pub rise_never_falls : RiseNeverFalls
unfolding weight_of
rise_never_falls low high x y h = rise-rising low high x y h
