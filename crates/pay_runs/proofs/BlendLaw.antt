-- Each variable of two blended branches has the blend of its two values.
use Rattle.std.proofs.Common.{◌≡◌, ℕ, ℤ, pos, Bool, true, false, cond, List, [], ◌∷◌, ◌++◌, map, Option, Some, None, is_some, unwrap_or, refl, sym, ap, ◌∙◌}
use Rattle.std.proofs.Common.{inl, inr}
use Rattle.std.proofs.lemmas.Bool.{cases_Bool, or_parts}
use Rattle.std.proofs.lemmas.Map.Lookups.{exact_bytes}
use Rattle.std.proofs.lemmas.Map.Views.{tells_apart}
use Rattle.std.specs.List.{list_any}
use Rattle.std.specs.Ordering.{nat_cmp, eq_by_cmp}
use Rattle.std.specs.Cmp.Lexicographic.{slice_cmp, nat_list_cmp_total}
use Rattle.std.specs.FinMap.{get, find, keys, get-from_entries, contains_key-keys}
use Rattle.pay_meaning.specs.Meaning.{Variables, lookup}
use Rattle.pay_fixed.specs.Weights.{blended}
use Rattle.pay_runs.specs.Weighing.{blended_variables}
use Rattle.pay_runs.specs.RunLaws.{BlendIsByName}
use Rattle.pay_runs.proofs.WeightLemmas.{blended_nothing}

-- whether a name is that of another entry
abbrev is_name : List ℕ → List ℕ → Bool
is_name name other = eq_by_cmp (slice_cmp nat_cmp) name other

-- entries that are made of their names have at each name what is made of it
found_made : (make : List ℕ → ℤ) (names : List (List ℕ)) (name : List ℕ)
    → find (slice_cmp nat_cmp) name (map (λ (other : List ℕ). (other, make other)) names) ≡ cond (list_any (is_name name) names) (Some (make name)) None
found_made make [] name = refl
found_made make (other ∷ rest) name = elim (cases_Bool (is_name name other)) [
  | inl hit ↦ rw hit (ap (λ k. Some (make k)) (sym (tells_apart exact_bytes name other hit)))
  | inr miss ↦ rw miss (found_made make rest name)
]

-- a name of either list is a name of both
any_of_both : (p : List ℕ → Bool) (xs ys : List (List ℕ)) → list_any p (xs ++ ys) ≡ false → (list_any p xs ≡ false) × (list_any p ys ≡ false)
any_of_both p [] ys h = (refl, h)
any_of_both p (x ∷ xs) ys h =
    let parts = or_parts (p x) (list_any p (xs ++ ys)) h in
    let rest = any_of_both p xs ys parts.1 in
    (rw parts.0 rest.0, rest.1)

none_is_zero : (o : Option ℤ) → is_some o ≡ false → unwrap_or o (pos 0) ≡ pos 0
none_is_zero None h = refl
none_is_zero (Some raw) h = absurd (cc h)

-- a variable that no branch has is 0
absent_is_zero : (variables : Variables) (name : List ℕ) → list_any (is_name name) (keys variables) ≡ false → lookup variables name ≡ pos 0
absent_is_zero variables name h = none_is_zero (get variables name) (contains_key-keys variables name ∙ h)

either_way : (w : ℕ) (yes_part no_part : Variables) (name : List ℕ) (any : Bool)
    → list_any (is_name name) (keys yes_part ++ keys no_part) ≡ any
    → unwrap_or (cond any (Some (blended w (lookup yes_part name) (lookup no_part name))) None) (pos 0)
    ≡ blended w (lookup yes_part name) (lookup no_part name)
either_way w yes_part no_part name true h = refl
either_way w yes_part no_part name false h =
    let none = any_of_both (is_name name) (keys yes_part) (keys no_part) h in
    rw (absent_is_zero yes_part name none.0, absent_is_zero no_part name none.1) (sym (blended_nothing w))

-- this holds of any weight
pub blend_at : (w : ℕ) (yes_part no_part : Variables) (name : List ℕ)
    → lookup (blended_variables w yes_part no_part) name ≡ blended w (lookup yes_part name) (lookup no_part name)
blend_at w yes_part no_part name =
    let make : List ℕ → ℤ = λ other. blended w (lookup yes_part other) (lookup no_part other) in
    ap (λ o. unwrap_or o (pos 0))
    (get-from_entries nat_list_cmp_total _ name ∙ found_made make (keys yes_part ++ keys no_part) name)
    ∙ either_way w yes_part no_part name _ refl

pub blend_is_by_name : BlendIsByName
blend_is_by_name w yes_part no_part name within = blend_at w yes_part no_part name
