-- Numbers of variables and their names: where no name is there twice, what is so of the one is so of the other.
use Rattle.std.proofs.Common.{◌≡◌, ℕ, zero, suc, ◌+◌, ◌<◌, ◌≤◌, nat_lt, nat_eq, Bool, true, false, ◌||◌, ◌&&◌, List, [], ◌∷◌, ◌++◌, map, length, filter, if◌then◌else◌}
use Rattle.std.proofs.Common.{IsTrue, refl, sym, ap, ◌∙◌, subst, inl, inr, arith}
use Rattle.std.proofs.Math.Bool.{or-false, or-true}
use Rattle.std.proofs.lemmas.Bool.{and_parts, or_cases, cases_Bool, ltb-true, eqb-true, eqb-false, eq-eqb, ne_eqb, both_ways}
use Rattle.std.proofs.lemmas.Slice.Eq.{bytes_eq-Decides}
use Rattle.std.specs.Str.{bytes_eq}
use Rattle.pay_tree.specs.Assigned.{assigned_by, assigned_in}
use Rattle.pay_tree.specs.Owned.{StepTree, assigning, paying, choosing, grouping, StepsTree, no_steps, step_then}
use Rattle.pay_tree.specs.Owned.{name_at, spelled_step, spelled_steps}
use Rattle.pay_runs.specs.RunLaws.{AreApart}
use Rattle.pay_runs.specs.Slots.{number_within, test_within, step_within, steps_within}
use Rattle.pay_runs.proofs.NameLemmas.{one_place}
use Rattle.pay_passes.specs.Changes.{rising, changed_by}
use Rattle.pay_passes.specs.Gathering.{has}
use Rattle.pay_passes.specs.PassLaws.{AreLess}
use Rattle.pay_passes.proofs.RisingLemmas.{IsBefore, first_before, rest_less, rising_less, has_rising, has_both, none_before}
use Rattle.pay_print.specs.StepText.{assigns, assigns_in, changed_names}

-- two numbers have one name exactly where they are one
same_name : (names : List (List ℕ)) → AreApart names → (a b : ℕ) → a < length names → b < length names
    → bytes_eq (name_at names a) (name_at names b) ≡ nat_eq b a
same_name names apart a b first second = elim (cases_Bool (nat_eq b a)) [
  | inl hit ↦ (bytes_eq-Decides (name_at names a) (name_at names b)).1 (ap (name_at names) (sym (eqb-true b a hit))) ∙ sym hit
  | inr miss ↦ elim (cases_Bool (bytes_eq (name_at names a) (name_at names b))) [
    | inl same ↦
        absurd (eqb-false b a miss (sym (one_place names apart a b first second ((bytes_eq-Decides (name_at names a) (name_at names b)).0 same))))
    | inr other ↦ other ∙ sym miss
  ]
]

module _ (names legs : List (List ℕ)) where
  mutual
    step_assigns : AreApart names → (step : StepTree) → IsTrue (step_within (length names) step) → (slot : ℕ) → slot < length names
        → assigns (name_at names slot) (spelled_step names legs step) ≡ has (assigned_by step) slot
    step_assigns apart (assigning other value) within slot inside =
        let place = ltb-true other (length names) (and_parts (nat_lt other (length names)) (number_within (length names) value) within).0 in
        same_name names apart slot other inside place ∙ sym (or-false (nat_eq other slot))
    step_assigns apart (paying leg amount) within slot inside = refl
    step_assigns apart (choosing test yes_part no_part changes) within slot inside =
        let parts = and_parts (test_within (length names) test) (steps_within (length names) yes_part && steps_within (length names) no_part) within in
        let branches = and_parts (steps_within (length names) yes_part) (steps_within (length names) no_part) parts.1 in
        (λ i. steps_assign apart yes_part branches.0 slot inside i || steps_assign apart no_part branches.1 slot inside i)
        ∙ sym (has_both (assigned_in yes_part) (assigned_in no_part) slot)
    step_assigns apart (grouping steps) within slot inside = steps_assign apart steps within slot inside

    -- steps assign a variable by its name where they assign it by its number
    steps_assign : AreApart names → (steps : StepsTree) → IsTrue (steps_within (length names) steps) → (slot : ℕ) → slot < length names
        → assigns_in (name_at names slot) (spelled_steps names legs steps) ≡ has (assigned_in steps) slot
    steps_assign apart no_steps within slot inside = refl
    steps_assign apart (step_then step rest) within slot inside =
        let parts = and_parts (step_within (length names) step) (steps_within (length names) rest) within in
        (λ i. step_assigns apart step parts.0 slot inside i || steps_assign apart rest parts.1 slot inside i)
        ∙ sym (has_both (assigned_by step) (assigned_in rest) slot)

  -- the same of two branches
  branches_assign : AreApart names → (yes_part no_part : StepsTree)
      → IsTrue (steps_within (length names) yes_part && steps_within (length names) no_part) → (slot : ℕ) → slot < length names
      → (assigns_in (name_at names slot) (spelled_steps names legs yes_part) || assigns_in (name_at names slot) (spelled_steps names legs no_part))
      ≡ has (assigned_in yes_part ++ assigned_in no_part) slot
  branches_assign apart yes_part no_part within slot inside =
      let parts = and_parts (steps_within (length names) yes_part) (steps_within (length names) no_part) within in
      (λ i. steps_assign apart yes_part parts.0 slot inside i || steps_assign apart no_part parts.1 slot inside i)
      ∙ sym (has_both (assigned_in yes_part) (assigned_in no_part) slot)

-- what one of two lists has is below what both lie below
has_one : (front back : List ℕ) (count : ℕ) → ((slot : ℕ) → has front slot ≡ true → slot < count) → ((slot : ℕ) → has back slot ≡ true → slot < count)
    → (slot : ℕ) → has (front ++ back) slot ≡ true → slot < count
has_one front back count first second slot hit = elim (or_cases (has front slot) (has back slot) (sym (has_both front back slot) ∙ hit)) [
  | inl here ↦ first slot here
  | inr there ↦ second slot there
]

mutual
  step_inside : (count : ℕ) (step : StepTree) → IsTrue (step_within count step) → (slot : ℕ) → has (assigned_by step) slot ≡ true → slot < count
  step_inside count (assigning other value) within slot hit =
      subst (λ one. one < count) (eqb-true other slot (sym (or-false (nat_eq other slot)) ∙ hit))
      (ltb-true other count (and_parts (nat_lt other count) (number_within count value) within).0)
  step_inside count (paying leg amount) within slot hit = absurd (both_ways false refl hit)
  step_inside count (choosing test yes_part no_part changes) within slot hit =
      let parts = and_parts (test_within count test) (steps_within count yes_part && steps_within count no_part) within in
      let branches = and_parts (steps_within count yes_part) (steps_within count no_part) parts.1 in
      has_one (assigned_in yes_part) (assigned_in no_part) count (steps_inside count yes_part branches.0) (steps_inside count no_part branches.1) slot hit
  step_inside count (grouping steps) within slot hit = steps_inside count steps within slot hit

  -- the variables that steps assign are among so many, where those of the steps are
  steps_inside : (count : ℕ) (steps : StepsTree) → IsTrue (steps_within count steps) → (slot : ℕ) → has (assigned_in steps) slot ≡ true → slot < count
  steps_inside count no_steps within slot hit = absurd (both_ways false refl hit)
  steps_inside count (step_then step rest) within slot hit =
      let parts = and_parts (step_within count step) (steps_within count rest) within in
      has_one (assigned_by step) (assigned_in rest) count (step_inside count step parts.0) (steps_inside count rest parts.1) slot hit

-- the same of two branches
branches_inside : (count : ℕ) (yes_part no_part : StepsTree) → IsTrue (steps_within count yes_part && steps_within count no_part) → (slot : ℕ)
    → has (assigned_in yes_part ++ assigned_in no_part) slot ≡ true → slot < count
branches_inside count yes_part no_part within slot hit =
    let parts = and_parts (steps_within count yes_part) (steps_within count no_part) within in
    has_one (assigned_in yes_part) (assigned_in no_part) count (steps_inside count yes_part parts.0) (steps_inside count no_part parts.1) slot hit

-- a number is no greater than the first of these, if there is one
abbrev IsFrom : ℕ → List ℕ → Type 0
IsFrom place [] = Unit {0}
IsFrom place (first ∷ rest) = place ≤ first

onward : (first : ℕ) (rest : List ℕ) → IsBefore first rest → IsFrom (suc first) rest
onward first [] h = tt
onward first (second ∷ rest) h = omega (arith, h)

from_start : (slots : List ℕ) → IsFrom 0 slots
from_start [] = tt
from_start (first ∷ rest) = omega arith

one_on : (place more : ℕ) → suc place + more ≡ place + suc more
one_on place more = omega arith

filter_hit : (keep : List ℕ → Bool) (name : List ℕ) (rest : List (List ℕ)) → keep name ≡ true → filter keep (name ∷ rest) ≡ name ∷ filter keep rest
filter_hit keep name rest hit = ap (λ b. if b then name ∷ filter keep rest else filter keep rest) hit

filter_miss : (keep : List ℕ → Bool) (name : List ℕ) (rest : List (List ℕ)) → keep name ≡ false → filter keep (name ∷ rest) ≡ filter keep rest
filter_miss keep name rest miss = ap (λ b. if b then name ∷ filter keep rest else filter keep rest) miss

-- names from a place on, and numbers from it on that rise: the names of the numbers are the names that are kept, where those at the numbers are kept
abbrev AreKept : (ℕ → List ℕ) → (List ℕ → Bool) → List ℕ → ℕ → List (List ℕ) → Type 0
AreKept named keep slots place names = (i : ℕ) → i < length names → (named (place + i) ≡ name_at names i) × (keep (name_at names i) ≡ has slots (place + i))

kept_on : (named : ℕ → List ℕ) (keep : List ℕ → Bool) (slots : List ℕ) (place : ℕ) (name : List ℕ) (names : List (List ℕ))
    → AreKept named keep slots place (name ∷ names) → AreKept named keep slots (suc place) names
kept_on named keep slots place name names h i below =
    let there = h (suc i) (omega (arith, below)) in
    (ap named (one_on place i) ∙ there.0, there.1 ∙ ap (has slots) (sym (one_on place i)))

kept_past : (named : ℕ → List ℕ) (keep : List ℕ → Bool) (slots : List ℕ) (place : ℕ) (names : List (List ℕ))
    → AreKept named keep (place ∷ slots) (suc place) names → AreKept named keep slots (suc place) names
kept_past named keep slots place names h i below =
    ((h i below).0, (h i below).1 ∙ ap (λ b. b || has slots (suc place + i)) (ne_eqb place (suc place + i) (λ e. omega (arith, e))))

kept_names : (named : ℕ → List ℕ) (keep : List ℕ → Bool) (slots : List ℕ) (place : ℕ) (names : List (List ℕ)) → AreLess slots → IsFrom place slots
    → ((slot : ℕ) → has slots slot ≡ true → slot < place + length names) → AreKept named keep slots place names
    → map named slots ≡ filter keep names
kept_names named keep [] place [] less from inside kept = refl
kept_names named keep (first ∷ rest) place [] less from inside kept =
    absurd (omega (arith, from, inside first (ap (λ b. b || has rest first) (eq-eqb first first refl))))
kept_names named keep [] place (name ∷ names) less from inside kept =
    kept_names named keep [] (suc place) names tt tt (λ slot hit. absurd (both_ways false refl hit)) (kept_on named keep [] place name names kept)
    ∙ sym (filter_miss keep name names (kept 0 (omega arith)).1)
kept_names named keep (first ∷ rest) place (name ∷ names) less from inside kept =
    let here = kept 0 (omega arith) in
    let start : place + 0 ≡ place = omega arith in
    let on = kept_on named keep (first ∷ rest) place name names kept in
    elim (cases_Bool (nat_eq first place)) [
      | inl same ↦
          let equal = eqb-true first place same in
          ap (λ slots. named first ∷ slots)
          (kept_names named keep rest (suc place) names (rest_less first rest less)
          (subst (λ one. IsFrom (suc one) rest) equal (onward first rest (first_before first rest less)))
          (λ slot hit. omega (arith, inside slot (ap (λ b. nat_eq first slot || b) hit ∙ or-true (nat_eq first slot))))
          (kept_past named keep rest place names (subst (λ one. AreKept named keep (one ∷ rest) (suc place) names) equal on)))
          ∙ ap (λ one. one ∷ filter keep names) (ap named (equal ∙ sym start) ∙ here.0)
          ∙ sym (filter_hit keep name names (here.1 ∙ ap (λ one. has (first ∷ rest) one) start ∙ ap (λ b. b || has rest place) same))
      | inr other ↦
          let apart = eqb-false first place other in
          kept_names named keep (first ∷ rest) (suc place) names less (omega (arith, from, apart))
          (λ slot hit. omega (arith, inside slot hit)) on
          ∙ sym (filter_miss keep name names (here.1 ∙ ap (has (first ∷ rest)) start ∙ none_before place (first ∷ rest) (omega (arith, from, apart)) less))
    ]

-- the names of the variables that two branches change are those that the branches assign
pub changes_named : (names legs : List (List ℕ)) → AreApart names → (yes_part no_part : StepsTree)
    → IsTrue (steps_within (length names) yes_part && steps_within (length names) no_part)
    → map (name_at names) (changed_by yes_part no_part) ≡ changed_names names (spelled_steps names legs yes_part) (spelled_steps names legs no_part)
changes_named names legs apart yes_part no_part within =
    let slots : List ℕ = assigned_in yes_part ++ assigned_in no_part in
    kept_names (name_at names)
    (λ name. assigns_in name (spelled_steps names legs yes_part) || assigns_in name (spelled_steps names legs no_part)) (rising slots) 0 names
    (rising_less slots) (from_start (rising slots))
    (λ slot hit. omega (arith, branches_inside (length names) yes_part no_part within slot (sym (has_rising slots slot) ∙ hit)))
    (λ i below.
    let start : 0 + i ≡ i = omega arith in (
      ap (name_at names) start,
      branches_assign names legs apart yes_part no_part within i below ∙ sym (has_rising slots i) ∙ ap (has (rising slots)) (sym start),
    ))
