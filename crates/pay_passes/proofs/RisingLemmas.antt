-- Lists of numbers that rise: each list of numbers has one that has the same numbers.
use Rattle.std.proofs.Common.{◌≡◌, ℕ, ◌<◌, nat_lt, nat_eq, Bool, true, false, ◌||◌, List, [], ◌∷◌, ◌++◌, if◌then◌else◌, refl, sym, ap, ◌∙◌, arith}
use Rattle.std.proofs.Common.{inl, inr, ◌↔◌, subst}
use Rattle.std.proofs.lemmas.Bool.{cases_Bool, cases_order, ltb-true, ltb-false, eqb-true, eqb-false, eq-eqb, ne_eqb, both_ways}
use Rattle.pay_passes.specs.Trades.{IsNotIn}
use Rattle.pay_passes.specs.Changes.{placed_once, rising}
use Rattle.pay_passes.specs.PassLaws.{IsIn, AreLess}
use Rattle.pay_passes.specs.Gathering.{has, HaveSame}

-- a list that has no such number
pub absent : (slots : List ℕ) (slot : ℕ) → IsNotIn slots slot → has slots slot ≡ false
absent [] slot h = refl
absent (first ∷ rest) slot h = ap (λ b. b || has rest slot) (ne_eqb first slot h.0) ∙ absent rest slot h.1

pub neither : (b c : Bool) → (b || c) ≡ false → (b ≡ false) × (c ≡ false)
neither true c h = (h, absurd (both_ways true h refl))
neither false c h = (refl, h)

pub not_there : (slots : List ℕ) (slot : ℕ) → has slots slot ≡ false → IsNotIn slots slot
not_there [] slot h = tt
not_there (first ∷ rest) slot h =
    let parts = neither (nat_eq first slot) (has rest slot) h in
    (eqb-false first slot parts.0, not_there rest slot parts.1)

-- whether a list has a number is whether the number is in it
pub there : (slots : List ℕ) (slot : ℕ) → has slots slot ≡ true → IsIn slots slot
there slots slot h out = both_ways (has slots slot) (absent slots slot out) h

pub is_had : (slots : List ℕ) (slot : ℕ) → IsIn slots slot → has slots slot ≡ true
is_had slots slot h = elim (cases_Bool (has slots slot)) [
  | inl hit ↦ hit
  | inr miss ↦ absurd (h (not_there slots slot miss))
]

-- two lists have a number together where both have it or neither
pub had_together : (slots others : List ℕ) (slot : ℕ) → IsIn slots slot ↔ IsIn others slot → has slots slot ≡ has others slot
had_together slots others slot h = elim (cases_Bool (has slots slot)) [
  | inl hit ↦ hit ∙ sym (is_had others slot (h.0 (there slots slot hit)))
  | inr miss ↦ elim (cases_Bool (has others slot)) [
    | inl hit ↦ absurd (both_ways (has slots slot) miss (is_had slots slot (h.1 (there others slot hit))))
    | inr other ↦ miss ∙ sym other
  ]
]

pub together_in : (slots others : List ℕ) (slot : ℕ) → has slots slot ≡ has others slot → IsIn slots slot ↔ IsIn others slot
together_in slots others slot h =
    (λ inside. there others slot (sym h ∙ is_had slots slot inside), λ inside. there slots slot (h ∙ is_had others slot inside))

or_again : (b c d : Bool) → ((b || c) || d) ≡ (b || (c || d))
or_again true c d = refl
or_again false c d = refl

or_swapped : (b c d : Bool) → (b || (c || d)) ≡ (c || (b || d))
or_swapped true true d = refl
or_swapped true false d = refl
or_swapped false c d = refl

or_twice : (b d : Bool) → (b || d) ≡ (b || (b || d))
or_twice true d = refl
or_twice false d = refl

-- two lists one after the other have what one of them has
pub has_both : (front back : List ℕ) (slot : ℕ) → has (front ++ back) slot ≡ (has front slot || has back slot)
has_both [] back slot = refl
has_both (first ∷ rest) back slot =
    ap (λ b. nat_eq first slot || b) (has_both rest back slot) ∙ sym (or_again (nat_eq first slot) (has rest slot) (has back slot))

-- a number that is placed is one more
pub has_placed : (placed : ℕ) (slots : List ℕ) (slot : ℕ) → has (placed_once placed slots) slot ≡ (nat_eq placed slot || has slots slot)
has_placed placed [] slot = refl
has_placed placed (first ∷ rest) slot = elim (cases_Bool (nat_lt first placed)) [
  | inl below ↦
      ap (λ b. has (if b then first ∷ placed_once placed rest else (if nat_eq first placed then first ∷ rest else placed ∷ first ∷ rest)) slot) below
      ∙ ap (λ b. nat_eq first slot || b) (has_placed placed rest slot)
      ∙ or_swapped (nat_eq first slot) (nat_eq placed slot) (has rest slot)
  | inr above ↦
      ap (λ b. has (if b then first ∷ placed_once placed rest else (if nat_eq first placed then first ∷ rest else placed ∷ first ∷ rest)) slot) above
      ∙ elim (cases_Bool (nat_eq first placed)) [
        | inl same ↦
            ap (λ b. has (if b then first ∷ rest else placed ∷ first ∷ rest) slot) same
            ∙ or_twice (nat_eq first slot) (has rest slot)
            ∙ ap (λ other. nat_eq other slot || (nat_eq first slot || has rest slot)) (eqb-true first placed same)
        | inr other ↦ ap (λ b. has (if b then first ∷ rest else placed ∷ first ∷ rest) slot) other
      ]
]

-- numbers in rising order are the same numbers
pub has_rising : (slots : List ℕ) → HaveSame (rising slots) slots
has_rising [] slot = refl
has_rising (first ∷ rest) slot = has_placed first (rising rest) slot ∙ ap (λ b. nat_eq first slot || b) (has_rising rest slot)

-- a number is less than the first of these, if there is one
abbrev pub IsBefore : ℕ → List ℕ → Type 0
IsBefore slot [] = Unit {0}
IsBefore slot (first ∷ rest) = slot < first

pub less_from : (first : ℕ) (rest : List ℕ) → IsBefore first rest → AreLess rest → AreLess (first ∷ rest)
less_from first [] h k = tt
less_from first (second ∷ rest) h k = (h, k)

pub first_before : (first : ℕ) (rest : List ℕ) → AreLess (first ∷ rest) → IsBefore first rest
first_before first [] h = tt
first_before first (second ∷ rest) h = h.0

pub rest_less : (first : ℕ) (rest : List ℕ) → AreLess (first ∷ rest) → AreLess rest
rest_less first [] h = tt
rest_less first (second ∷ rest) h = h.1

before_placed : (first placed : ℕ) (rest : List ℕ) → first < placed → IsBefore first rest → IsBefore first (placed_once placed rest)
before_placed first placed [] below h = below
before_placed first placed (second ∷ rest) below h = elim (cases_Bool (nat_lt second placed)) [
  | inl under ↦
      rw under h
  | inr over ↦ elim (cases_Bool (nat_eq second placed)) [
    | inl same ↦ rw (over, same) h
    | inr other ↦ rw (over, other) below
  ]
]

placed_less : (placed : ℕ) (slots : List ℕ) → AreLess slots → AreLess (placed_once placed slots)
placed_less placed [] h = tt
placed_less placed (first ∷ rest) h = elim (cases_Bool (nat_lt first placed)) [
  | inl below ↦
      rw below (less_from first (placed_once placed rest) (before_placed first placed rest (ltb-true first placed below) (first_before first rest h))
      (placed_less placed rest (rest_less first rest h)))
  | inr above ↦ elim (cases_Bool (nat_eq first placed)) [
    | inl same ↦ rw (above, same) h
    | inr other ↦
        let over = ltb-false first placed above in
        let apart = eqb-false first placed other in
        rw (above, other) (elim (cases_order placed first) [
          | inl equal ↦ absurd (apart (sym equal))
          | inr (inl under) ↦ less_from placed (first ∷ rest) under h
          | inr (inr beyond) ↦ absurd (omega (arith, over, beyond))
        ])
  ]
]

-- numbers in rising order rise
pub rising_less : (slots : List ℕ) → AreLess (rising slots)
rising_less [] = tt
rising_less (first ∷ rest) = placed_less first (rising rest) (rising_less rest)

later : (slot first : ℕ) (rest : List ℕ) → slot < first → IsBefore first rest → IsBefore slot rest
later slot first [] h k = tt
later slot first (second ∷ rest) h k = omega (arith, h, k)

-- a number before the first is in none that rise
pub none_before : (slot : ℕ) (slots : List ℕ) → IsBefore slot slots → AreLess slots → has slots slot ≡ false
none_before slot [] h k = refl
none_before slot (first ∷ rest) h k =
    ap (λ b. b || has rest slot) (ne_eqb first slot (λ e. omega (arith, e, h)))
    ∙ none_before slot rest (later slot first rest h (first_before first rest k)) (rest_less first rest k)

-- a list has its first number
has_first : (first : ℕ) (rest : List ℕ) → has (first ∷ rest) first ≡ true
has_first first rest = ap (λ b. b || has rest first) (eq-eqb first first refl)

-- the first of numbers that rise is no greater than one of them
not_before : (slot first : ℕ) (rest : List ℕ) → AreLess (first ∷ rest) → has (first ∷ rest) slot ≡ true → ¬ (slot < first)
not_before slot first rest h k below = both_ways (has (first ∷ rest) slot) (none_before slot (first ∷ rest) below h) k

one_first : (first second : ℕ) → ¬ (first < second) → ¬ (second < first) → first ≡ second
one_first first second h k = elim (cases_order first second) [
  | inl same ↦ same
  | inr (inl below) ↦ absurd (h below)
  | inr (inr above) ↦ absurd (k above)
]

same_rest : (first : ℕ) (rest others : List ℕ) → AreLess (first ∷ rest) → AreLess (first ∷ others) → HaveSame (first ∷ rest) (first ∷ others)
    → HaveSame rest others
same_rest first rest others h k same slot = elim (cases_Bool (nat_eq first slot)) [
  | inl hit ↦
      let here = eqb-true first slot hit in
      rw (sym here) (none_before first rest (first_before first rest h) (rest_less first rest h)
      ∙ sym (none_before first others (first_before first others k) (rest_less first others k)))
  | inr miss ↦
      ap (λ b. b || has rest slot) (sym miss) ∙ same slot ∙ ap (λ b. b || has others slot) miss
]

-- there is one list that rises and has these numbers
pub one_rising : (slots others : List ℕ) → AreLess slots → AreLess others → HaveSame slots others → slots ≡ others
one_rising [] [] h k same = refl
one_rising [] (second ∷ others) h k same = absurd (both_ways (has (second ∷ others) second) (sym (same second)) (has_first second others))
one_rising (first ∷ rest) [] h k same = absurd (both_ways (has (first ∷ rest) first) (same first) (has_first first rest))
one_rising (first ∷ rest) (second ∷ others) h k same =
    let equal = one_first first second
    (not_before first second others k (sym (same first) ∙ has_first first rest))
    (not_before second first rest h (same second ∙ has_first second others)) in
    let other_less = subst (λ slot. AreLess (slot ∷ others)) (sym equal) k in
    let other_same = subst (λ slot. HaveSame (first ∷ rest) (slot ∷ others)) (sym equal) same in
    ap (λ slots. first ∷ slots)
    (one_rising rest others (rest_less first rest h) (rest_less second others k) (same_rest first rest others h other_less other_same))
    ∙ ap (λ slot. slot ∷ others) equal
