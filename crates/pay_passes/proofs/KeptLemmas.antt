-- A variable that steps don't assign keeps its value.
use Rattle.std.proofs.Common.{◌≡◌, ℕ, zero, suc, ℤ, pos, nat_eq, Bool, true, false, cond, List, [], ◌∷◌, ◌++◌, Some, Result, Ok, Err, IfOk, refl, sym, ap}
use Rattle.std.proofs.Common.{◌∙◌, inl, inr, unwrap_or}
use Rattle.std.proofs.lemmas.Bool.{cases_Bool, eqb-false}
use Rattle.std.proofs.lemmas.Map.Lookups.{exact_bytes}
use Rattle.std.proofs.lemmas.Map.Views.{tells_apart}
use Rattle.std.specs.Ordering.{nat_cmp, eq_by_cmp}
use Rattle.std.specs.Cmp.Lexicographic.{slice_cmp, nat_list_cmp_total}
use Rattle.std.specs.FinMap.{insert, get, get-insert}
use Rattle.pay_meaning.specs.declared.fault.FaultKind.{FaultKind}
use Rattle.pay_meaning.specs.Meaning.{Variables, lookup, Moment, value, truth, Payment, Effect, assigned, paid, after_payments, followed_by, chosen}
use Rattle.pay_meaning.specs.Meaning.{effect_of, effect}
use Rattle.pay_tree.specs.Owned.{StepTree, assigning, paying, choosing, grouping, StepsTree, no_steps, step_then}
use Rattle.pay_tree.specs.Owned.{name_at, spelled_number, spelled_test, spelled_step, spelled_steps}
use Rattle.pay_passes.specs.Trades.{AreDistinct, IsNotIn}
use Rattle.pay_tree.specs.Assigned.{assigned_by, assigned_in}
use Rattle.pay_passes.specs.Changes.{affected_of}
use Rattle.pay_passes.specs.PassLaws.{OthersKeepTheirValue}
use Rattle.pay_passes.specs.Gathering.{has}
use Rattle.pay_passes.proofs.RisingLemmas.{absent, neither, has_both, has_rising}

-- the value of another name is as it was after an assignment
not_inserted : (variables : Variables) (name : List ℕ) (raw : ℤ) (other : List ℕ) → eq_by_cmp (slice_cmp nat_cmp) other name ≡ false
    → lookup (insert variables name raw) other ≡ lookup variables other
not_inserted variables name raw other miss =
    ap (λ found. unwrap_or found (pos 0)) (get-insert nat_list_cmp_total variables name raw other ∙ ap (λ b. cond b (Some raw) (get variables other)) miss)

other_inserted : (variables : Variables) (name : List ℕ) (raw : ℤ) (other : List ℕ) → ¬ (name ≡ other)
    → lookup (insert variables name raw) other ≡ lookup variables other
other_inserted variables name raw other differ = elim (cases_Bool (eq_by_cmp (slice_cmp nat_cmp) other name)) [
  | inl hit ↦ absurd (differ (sym (tells_apart exact_bytes other name hit)))
  | inr miss ↦ not_inserted variables name raw other miss
]

-- a name that isn't among others is none of them
none_of_them : (names : List (List ℕ)) (name : List ℕ) (place : ℕ) → IsNotIn names name → ¬ (name_at names place ≡ []) → ¬ (name_at names place ≡ name)
none_of_them [] name place out named same = named refl
none_of_them (first ∷ rest) name zero out named same = out.0 same
none_of_them (first ∷ rest) name (suc place) out named same = none_of_them rest name place out.1 named same

-- a name that isn't empty has one place among different names
one_place : (names : List (List ℕ)) (place other : ℕ) → AreDistinct names → ¬ (name_at names other ≡ []) → name_at names place ≡ name_at names other
    → place ≡ other
one_place [] place other distinct named same = absurd (named refl)
one_place (first ∷ rest) zero zero distinct named same = refl
one_place (first ∷ rest) zero (suc other) distinct named same = absurd (none_of_them rest first other distinct.0 named (sym same))
one_place (first ∷ rest) (suc place) zero distinct named same = absurd (none_of_them rest first place distinct.0 (λ empty. named (sym same ∙ empty)) same)
one_place (first ∷ rest) (suc place) (suc other) distinct named same = ap suc (one_place rest place other distinct.1 named same)

-- the name has this value after an effect
abbrev Leaves : List ℕ → ℤ → Result Effect FaultKind → Type 0
Leaves name raw effect = IfOk effect (λ after. lookup after.variables name ≡ raw)

assigned_leaves : (variables : Variables) (name other : List ℕ) (raw : ℤ) (given : Result ℤ FaultKind) → ¬ (name ≡ other) → lookup variables other ≡ raw
    → Leaves other raw (assigned variables name given)
assigned_leaves variables name other raw (Err fault) differ h = tt
assigned_leaves variables name other raw (Ok new) differ h = other_inserted variables name new other differ ∙ h

paid_leaves : (variables : Variables) (at : Moment) (leg other : List ℕ) (raw : ℤ) (given : Result ℤ FaultKind) → lookup variables other ≡ raw
    → Leaves other raw (paid variables at.date leg given)
paid_leaves variables at leg other raw (Err fault) h = tt
paid_leaves variables at leg other raw (Ok new) h = h

chosen_leaves : (name : List ℕ) (raw : ℤ) (answer : Result Bool FaultKind) (yes_part no_part : Result Effect FaultKind) → Leaves name raw yes_part
    → Leaves name raw no_part → Leaves name raw (chosen answer yes_part no_part)
chosen_leaves name raw (Err fault) yes_part no_part h k = tt
chosen_leaves name raw (Ok true) yes_part no_part h k = h
chosen_leaves name raw (Ok false) yes_part no_part h k = k

after_leaves : (name : List ℕ) (raw : ℤ) (before : List Payment) (effect : Result Effect FaultKind) → Leaves name raw effect
    → Leaves name raw (after_payments before effect)
after_leaves name raw before (Err fault) h = tt
after_leaves name raw before (Ok effect) h = h

followed_leaves : (name : List ℕ) (raw : ℤ) (first : Result Effect FaultKind) (rest : Variables → Result Effect FaultKind) → Leaves name raw first
    → ((variables : Variables) → lookup variables name ≡ raw → Leaves name raw (rest variables)) → Leaves name raw (followed_by first rest)
followed_leaves name raw (Err fault) rest h k = tt
followed_leaves name raw (Ok effect) rest h k = after_leaves name raw effect.payments (rest effect.variables) (k effect.variables h)

-- two lists that together don't have a number
neither_has : (front back : List ℕ) (slot : ℕ) → has (front ++ back) slot ≡ false → (has front slot ≡ false) × (has back slot ≡ false)
neither_has front back slot h = neither (has front slot) (has back slot) (sym (has_both front back slot) ∙ h)

module _ (names legs : List (List ℕ)) (distinct : AreDistinct names) (at : Moment) (slot : ℕ) (named : ¬ (name_at names slot ≡ [])) (raw : ℤ) where
  mutual
    step_leaves : (step : StepTree) (variables : Variables) → has (assigned_by step) slot ≡ false → lookup variables (name_at names slot) ≡ raw
        → Leaves (name_at names slot) raw (effect_of (spelled_step names legs step) variables at)
    step_leaves (assigning other number) variables out h =
        assigned_leaves variables (name_at names other) (name_at names slot) raw (value (spelled_number names number) variables at)
        (λ same. eqb-false other slot (neither (nat_eq other slot) false out).0 (one_place names other slot distinct named same)) h
    step_leaves (paying leg amount) variables out h =
        paid_leaves variables at (name_at legs leg) (name_at names slot) raw (value (spelled_number names amount) variables at) h
    step_leaves (choosing test yes_part no_part changes) variables out h =
        let parts = neither_has (assigned_in yes_part) (assigned_in no_part) slot out in
        chosen_leaves (name_at names slot) raw (truth (spelled_test names test) variables at) (effect (spelled_steps names legs yes_part) variables at)
        (effect (spelled_steps names legs no_part) variables at) (steps_leave yes_part variables parts.0 h) (steps_leave no_part variables parts.1 h)
    step_leaves (grouping steps) variables out h = steps_leave steps variables out h

    steps_leave : (steps : StepsTree) (variables : Variables) → has (assigned_in steps) slot ≡ false → lookup variables (name_at names slot) ≡ raw
        → Leaves (name_at names slot) raw (effect (spelled_steps names legs steps) variables at)
    steps_leave no_steps variables out h = h
    steps_leave (step_then step rest) variables out h =
        let parts = neither_has (assigned_by step) (assigned_in rest) slot out in
        followed_leaves (name_at names slot) raw (effect_of (spelled_step names legs step) variables at)
        (λ after. effect (spelled_steps names legs rest) after at) (step_leaves step variables parts.0 h)
        (λ after k. steps_leave rest after parts.1 k)

pub others_keep : OthersKeepTheirValue
others_keep names legs steps variables at slot distinct named out =
    steps_leave names legs distinct at slot named (lookup variables (name_at names slot)) steps variables
    (sym (has_rising (assigned_in steps) slot) ∙ absent (affected_of steps) slot out) refl
