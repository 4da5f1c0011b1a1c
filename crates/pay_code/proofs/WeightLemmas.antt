-- The weight of a test is at most the whole.
use Rattle.std.proofs.Common.{◌≡◌, ℕ, suc, ◌+◌, ◌-◌, ◌*◌, ◌<◌, ◌≤◌, ℤ, pos, neg_ℤ, ◌<ℤ◌, ◌≤ℤ◌, ◌-ℤ◌, ◌*ℤ◌, unsigned_abs, refl, ap, arith, Bool, true, false}
use Rattle.std.proofs.Common.{int_lt, ◌⊎◌, inl, inr, Option, Some, None, Result, Ok, Err, nat_eq, if◌then◌else◌}
use Rattle.std.proofs.lemmas.Int.{ints, unsigned_abs-mul}
use Rattle.std.proofs.lemmas.Nat.{div_below}
use Rattle.std.proofs.lemmas.Bool.{cases_Bool}
use Rattle.std.proofs.lemmas.Bool.Decides.{Decides-int_eq}
use Rattle.std.proofs.Math.Nat.{mul-le-mul_left}
use Rattle.std.specs.Prelude.{int_le}
use Rattle.std.specs.Ordering.{int_eq}
use Rattle.pay_fixed.specs.Round.{nearest}
use Rattle.pay_fixed.specs.declared.smooth.Smooth.{Smooth}
use Rattle.pay_fixed.specs.declared.smooth.Smooth.TheVariants.{Rise, Peak}
use Rattle.pay_fixed.proofs.Rounding.{nearest_bounds, unsigned_abs-round}
use Rattle.pay_meaning.specs.declared.fault.FaultKind.{FaultKind}
use Rattle.pay_meaning.specs.Language.{Comparison, less, at_most, greater, at_least, equals, differs, Note, bare, smoothed}
use Rattle.pay_meaning.specs.Meaning.{one, both, compared}
use Rattle.pay_tree.specs.Views.{comparison}
use Rattle.pay_tree.specs.Owned.{TestTree, truth_at, compare_at, not_at, and_at, or_at, note_of}
use Rattle.pay_fixed.specs.Weights.{whole, share, rise, fall, climb, peak, weight_of}
use Rattle.pay_runs.specs.Weighing.{IsFuzzy, certain, gap, smooth_weight, compared_weight, joint, either, and_weight, or_weight}
use Rattle.pay_runs.specs.Slots.{Slots, value_by_slots, surely_weight, weight_by_slots}

-- what the tests of two numbers tell
lt-cases : (a b : ℤ) → ((int_lt a b ≡ true) × (a <ℤ b)) ⊎ ((int_lt a b ≡ false) × (b ≤ℤ a))
lt-cases a b = elim (cases_Bool (int_lt a b)) [
  | inl hit ↦ inl (hit, grind (arith, ints))
  | inr miss ↦ inr (miss, grind (arith, ints))
]

le-cases : (a b : ℤ) → ((int_le a b ≡ true) × (a ≤ℤ b)) ⊎ ((int_le a b ≡ false) × (b <ℤ a))
le-cases a b = elim (cases_Bool (int_le a b)) [
  | inl hit ↦ inl (hit, grind (arith, ints))
  | inr miss ↦ inr (miss, grind (arith, ints))
]

eq-cases : (a b : ℤ) → ((int_eq a b ≡ true) × (a ≡ b)) ⊎ ((int_eq a b ≡ false) × ¬ (a ≡ b))
eq-cases a b = elim (cases_Bool (int_eq a b)) [
  | inl hit ↦ inl (hit, (Decides-int_eq a b).0 hit)
  | inr miss ↦ inr (miss, λ same. let hit = (Decides-int_eq a b).1 same in cc)
]

-- a quotient of at most m times the divisor is at most m, and one of at least m times it is at least m
nearest-at_most : (a b m : ℕ) → 0 < b → a ≤ m * b → nearest a b ≤ m
nearest-at_most a b m h k =
    let below : 2 * a + b < suc m * (2 * b) = omega arith in omega (arith, div_below (2 * a + b) (2 * b) (suc m) (omega arith) below)

nearest-at_least : (a b m : ℕ) → 0 < b → m * b ≤ a → m ≤ nearest a b
nearest-at_least a b m h k =
    let bounds = nearest_bounds a b h in
    grind (arith, mul-le-mul_left)

share_within : (part length : ℤ) → pos 0 <ℤ length → pos 0 ≤ℤ part → part ≤ℤ length → share part length ≤ whole
share_within part length h k l =
    let size : unsigned_abs part ≤ unsigned_abs length = omega (arith, ints) in
    let some : 0 < unsigned_abs length = omega (arith, ints) in
    rw (unsigned_abs-round (part *ℤ pos whole) length, unsigned_abs-mul part (pos whole))
    (nearest-at_most (unsigned_abs part * whole) (unsigned_abs length) whole some (omega arith))

rise-within : (low high x : ℤ) → rise low high x ≤ whole
rise-within low high x = elim (le-cases x low) [
  | inl under ↦ rw under.0 (omega arith)
  | inr past ↦ elim (le-cases high x) [
    | inl over ↦ rw (past.0, over.0) (omega arith)
    | inr before ↦ rw (past.0, before.0) (share_within (x -ℤ low) (high -ℤ low) (omega (arith, ints, past.1, before.1)) (omega (arith, ints, past.1)) (omega (arith, ints, before.1)))
  ]
]

fall-within : (above : Option ℤ) (x : ℤ) → pos 0 <ℤ x → fall above x ≤ whole
fall-within None x h = omega arith
fall-within (Some above) x h = elim (le-cases above x) [
  | inl over ↦ rw over.0 (omega arith)
  | inr before ↦ rw before.0 (share_within (above -ℤ x) above (omega (arith, ints, before.1)) (omega (arith, ints, before.1)) (omega (arith, ints)))
]

climb-within : (below : Option ℤ) (x : ℤ) → x ≤ℤ pos 0 → climb below x ≤ whole
climb-within None x h = omega arith
climb-within (Some below) x h = elim (le-cases x below) [
  | inl under ↦ rw under.0 (omega arith)
  | inr past ↦ rw past.0 (share_within (x -ℤ below) (neg_ℤ below) (omega (arith, ints, past.1)) (omega (arith, ints, past.1)) (omega (arith, ints)))
]

peak-within : (below above : Option ℤ) (x : ℤ) → peak below above x ≤ whole
peak-within below above x = elim (eq-cases x (pos 0)) [
  | inl centre ↦ rw centre.0 (omega arith)
  | inr beside ↦ elim (lt-cases (pos 0) x) [
    | inl positive ↦ rw (beside.0, positive.0) (fall-within above x positive.1)
    | inr negative ↦ rw (beside.0, negative.0) (climb-within below x negative.1)
  ]
]

smoothing-within : (smooth : Smooth) (x : ℤ) → weight_of smooth x ≤ whole
unfolding weight_of
smoothing-within (Rise low high) x = rise-within low high x
smoothing-within (Peak below above) x = peak-within below above x

smooth-within : (kind : Comparison) (smooth : Smooth) (x : ℤ) → smooth_weight kind smooth x ≤ whole
smooth-within less smooth x = smoothing-within smooth x
smooth-within at_most smooth x = smoothing-within smooth x
smooth-within greater smooth x = smoothing-within smooth x
smooth-within at_least smooth x = smoothing-within smooth x
smooth-within equals smooth x = smoothing-within smooth x
smooth-within differs smooth x = omega arith

certain-within : (answer : Bool) → certain answer ≤ whole
certain-within true = omega arith
certain-within false = omega arith

compared-within : (fuzzy : IsFuzzy) (kind : Comparison) (note : Note) (a b : ℤ) → compared_weight fuzzy kind note a b ≤ whole
compared-within true kind (smoothed smooth) a b = smooth-within kind smooth (gap kind a b)
compared-within false kind (smoothed smooth) a b = certain-within (compared kind a b)
compared-within true kind bare a b = certain-within (compared kind a b)
compared-within false kind bare a b = certain-within (compared kind a b)

joint-is : (a b : ℕ) → joint a b ≡ nearest (a * b) whole
joint-is a b = rw (unsigned_abs-round (pos a *ℤ pos b) (pos whole)) refl

pub joint_within : (a b : ℕ) → a ≤ whole → b ≤ whole → joint a b ≤ whole
joint_within a b h k =
    let product : a * b ≤ a * whole = mul-le-mul_left a k in
    rw (joint-is a b) (nearest-at_most (a * b) whole whole (omega arith) (omega arith))

-- what two weights leave of the whole, and their product
product-least : (a b c d : ℕ) → a + c ≡ whole → b + d ≡ whole → (a + b - whole) * whole ≤ a * b
product-least a b c d h k =
    let first : a * (b + d) ≡ a * whole = ap (λ n. a * n) k in
    let second : (a + c) * d ≡ whole * d = ap (λ n. n * d) h in
    omega arith

pub either_within : (a b : ℕ) → a ≤ whole → b ≤ whole → either a b ≤ whole
either_within a b h k =
    let least : a + b - whole ≤ nearest (a * b) whole =
    nearest-at_least (a * b) whole (a + b - whole) (omega arith) (product-least a b (whole - a) (whole - b) (omega arith) (omega arith)) in
    rw (joint-is a b) (omega arith)

-- a weight, if there is one, is at most the whole
abbrev pub IsWithin : Result ℕ FaultKind → Type 0
IsWithin (Err fault) = Unit {0}
IsWithin (Ok w) = w ≤ whole

surely-within : (told : Option Bool) (x : Result ℕ FaultKind) → IsWithin x → IsWithin (surely_weight told x)
surely-within None x h = h
surely-within (Some answer) (Err fault) h = h
surely-within (Some answer) (Ok w) h = certain-within answer

both-within : (weigh : ℤ → ℤ → ℕ) (x y : Result ℤ FaultKind) → ((a b : ℤ) → weigh a b ≤ whole) → IsWithin (both (λ a b. Ok (weigh a b)) x y)
both-within weigh (Err fault) y h = tt
both-within weigh (Ok a) (Err fault) h = tt
both-within weigh (Ok a) (Ok b) h = h a b

one-within : (weigh : ℕ → ℕ) (x : Result ℕ FaultKind) → ((w : ℕ) → w ≤ whole → weigh w ≤ whole) → IsWithin x → IsWithin (one weigh x)
one-within weigh (Err fault) h k = tt
one-within weigh (Ok w) h k = h w k

-- a side that is skipped leaves this weight
side-within : (skipped : Bool) (sharp : ℕ) (weigh : ℕ → ℕ) (y : Result ℕ FaultKind) → sharp ≤ whole → ((w : ℕ) → w ≤ whole → weigh w ≤ whole)
    → IsWithin y → IsWithin (if skipped then Ok sharp else one weigh y)
side-within true sharp weigh y h k l = h
side-within false sharp weigh y h k l = one-within weigh y k l

and-within : (x y : Result ℕ FaultKind) → IsWithin x → IsWithin y → IsWithin (and_weight x y)
and-within (Err fault) y h k = tt
and-within (Ok a) y h k = side-within (nat_eq a 0) 0 (joint a) y (omega arith) (λ b l. joint_within a b h l) k

or-within : (x y : Result ℕ FaultKind) → IsWithin x → IsWithin y → IsWithin (or_weight x y)
or-within (Err fault) y h k = tt
or-within (Ok a) y h k = side-within (nat_eq a whole) whole (either a) y (omega arith) (λ b l. either_within a b h l) k

-- the weight of a test is at most the whole
pub weight_within : (fuzzy : IsFuzzy) (test : TestTree) (slots : Slots) (fixing : Option ℤ) → IsWithin (weight_by_slots fuzzy test slots fixing)
weight_within fuzzy (truth_at id told answer) slots fixing = surely-within told (Ok (certain answer)) (certain-within answer)
weight_within fuzzy (compare_at id told kind left right smooth) slots fixing =
    surely-within told _ (both-within (compared_weight fuzzy (comparison kind) (note_of smooth)) (value_by_slots left slots fixing)
    (value_by_slots right slots fixing) (compared-within fuzzy (comparison kind) (note_of smooth)))
weight_within fuzzy (not_at id told side) slots fixing =
    surely-within told _ (one-within (λ w. whole - w) (weight_by_slots fuzzy side slots fixing) (λ w h. omega arith)
    (weight_within fuzzy side slots fixing))
weight_within fuzzy (and_at id told left right) slots fixing =
    surely-within told _ (and-within (weight_by_slots fuzzy left slots fixing) (weight_by_slots fuzzy right slots fixing)
    (weight_within fuzzy left slots fixing) (weight_within fuzzy right slots fixing))
weight_within fuzzy (or_at id told left right) slots fixing =
    surely-within told _ (or-within (weight_by_slots fuzzy left slots fixing) (weight_by_slots fuzzy right slots fixing)
    (weight_within fuzzy left slots fixing) (weight_within fuzzy right slots fixing))
