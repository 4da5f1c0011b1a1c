-- The numbers of names among distinct ones.
use Rattle.std.proofs.Common.{◌≡◌, ℕ, ◌<◌, suc, zero, Bool, true, false, not, inl, inr, List, [], ◌∷◌, length, get_or, filter, refl, sym, ap, ◌∙◌, arith}
use Rattle.std.proofs.lemmas.Bool.{cases_Bool}
use Rattle.std.proofs.lemmas.Slice.Eq.{bytes_eq-Decides}
use Rattle.std.specs.Str.{bytes_eq}
use Rattle.pay_meaning.specs.Parts.{each_once}
use Rattle.pay_passes.specs.Numbering.{number_in, is_one_of, HaveOwnNumbers}
use Rattle.pay_passes.specs.Trades.{IsNotIn, AreDistinct}

-- the place where a name stands is its number
pub number_at_place : (names : List (List ℕ)) (name : List ℕ) (number : ℕ) → HaveOwnNumbers names → (number < length names) × (get_or names number [] ≡ name)
    → number ≡ number_in names name
number_at_place names name number own there = sym (own number there.0) ∙ ap (number_in names) there.1

-- a name that is none of these has their count
pub number_of_other : (names : List (List ℕ)) (name : List ℕ) → is_one_of names name ≡ false → length names ≡ number_in names name
number_of_other [] name none = refl
number_of_other (first ∷ rest) name none = elim (cases_Bool (bytes_eq first name)) [
  | inl same ↦ let some = rw same at none in cc
  | inr differs ↦ rw differs (ap suc (number_of_other rest name (rw differs at none)))
]

-- a name that is one of these stands at its number
pub stands_there : (names : List (List ℕ)) (name : List ℕ) → is_one_of names name ≡ true
    → (number_in names name < length names) × (get_or names (number_in names name) [] ≡ name)
stands_there [] name none = cc
stands_there (first ∷ rest) name there = elim (cases_Bool (bytes_eq first name)) [
  | inl same ↦ rw same (omega arith, (bytes_eq-Decides first name).0 same)
  | inr differs ↦
      let behind = stands_there rest name (rw differs at there) in
      rw differs (omega (arith, behind.0), behind.1)
]

-- a name that is none of these is at no place among them
not_there : (names : List (List ℕ)) (name : List ℕ) (number : ℕ) → IsNotIn names name → number < length names → bytes_eq name (get_or names number []) ≡ false
not_there [] name number apart less = absurd (omega (arith, less))
not_there (first ∷ rest) name zero apart less = elim (cases_Bool (bytes_eq name first)) [
  | inl same ↦ absurd (apart.0 (sym ((bytes_eq-Decides name first).0 same)))
  | inr differs ↦ differs
]
not_there (first ∷ rest) name (suc number) apart less = not_there rest name number apart.1 (omega (arith, less))

-- distinct names have their places as their numbers
pub distinct_numbers : (names : List (List ℕ)) → AreDistinct names → HaveOwnNumbers names
distinct_numbers [] distinct number less = absurd (omega (arith, less))
distinct_numbers (first ∷ rest) distinct zero less = rw ((bytes_eq-Decides first first).1 refl) refl
distinct_numbers (first ∷ rest) distinct (suc number) less =
    let behind : number < length rest = omega (arith, less) in
    rw (not_there rest first number distinct.0 behind) (ap suc (distinct_numbers rest distinct.1 number behind))

-- a name that was left out is none of those that are left
left_out : (name : List ℕ) (names : List (List ℕ)) → IsNotIn (filter (λ other. not (bytes_eq name other)) names) name
left_out name [] = tt
left_out name (first ∷ rest) = elim (cases_Bool (bytes_eq name first)) [
  | inl same ↦ rw same (left_out name rest)
  | inr differs ↦
      rw differs ((λ same. let equal = (bytes_eq-Decides name first).1 (sym same) in let never : true ≡ false = sym equal ∙ differs in cc), left_out name rest)
]

-- a name that is none of these is none of some of them
still_out : (keep : List ℕ → Bool) (names : List (List ℕ)) (name : List ℕ) → IsNotIn names name → IsNotIn (filter keep names) name
still_out keep [] name apart = tt
still_out keep (first ∷ rest) name apart = elim (cases_Bool (keep first)) [
  | inl kept ↦ rw kept (apart.0, still_out keep rest name apart.1)
  | inr dropped ↦ rw dropped (still_out keep rest name apart.1)
]

-- some of distinct names are distinct
still_distinct : (keep : List ℕ → Bool) (names : List (List ℕ)) → AreDistinct names → AreDistinct (filter keep names)
still_distinct keep [] distinct = tt
still_distinct keep (first ∷ rest) distinct = elim (cases_Bool (keep first)) [
  | inl kept ↦ rw kept (still_out keep rest first distinct.0, still_distinct keep rest distinct.1)
  | inr dropped ↦ rw dropped (still_distinct keep rest distinct.1)
]

-- names that are there once are distinct
pub once_distinct : (names : List (List ℕ)) → AreDistinct (each_once names)
once_distinct [] = tt
once_distinct (name ∷ rest) = (left_out name (each_once rest), still_distinct (λ other. not (bytes_eq name other)) (each_once rest) (once_distinct rest))
