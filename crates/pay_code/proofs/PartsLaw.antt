-- A run of events evaluates at most as many parts as there are.
use Rattle.std.proofs.Common.{ℕ, ◌+◌, ◌≤◌, ℤ, Bool, true, false, [], ◌∷◌, Option, Result, Ok, Err, nat_eq, if◌then◌else◌, arith}
use Rattle.pay_meaning.specs.declared.fault.FaultKind.{FaultKind}
use Rattle.pay_tree.specs.Owned.{NumberTree, literal_at, slot_at, spot_at, unary_at, binary_at, TestTree, truth_at, compare_at, not_at, and_at, or_at}
use Rattle.pay_tree.specs.Owned.{StepTree, assigning, paying, choosing, grouping, StepsTree, no_steps, step_then}
use Rattle.pay_fixed.specs.Weights.{whole as full}
use Rattle.pay_runs.specs.Weighing.{IsFuzzy}
use Rattle.pay_runs.specs.Counting.{unless_fault, nodes_after_and, nodes_after_or, choice_nodes}
use Rattle.pay_runs.specs.Slots.{Slots, further_cells, slot_moment, SlotMoment, SlotEffect, value_by_slots, weight_by_slots}
use Rattle.pay_runs.specs.Slots.{step_by_slots, steps_by_slots}
use Rattle.pay_runs.specs.SlotCounts.{number_slot_nodes, test_slot_nodes, slot_nodes_from, step_slot_nodes, steps_slot_nodes, slot_node_count}
use Rattle.pay_code.specs.Bounds.{number_parts, test_parts, step_parts, steps_parts, events_parts}
use Rattle.pay_code.specs.BoundLaws.{PartsAreCounted}

unless_within : {A : Type 0} (r : Result A FaultKind) (n m : ℕ) → n ≤ m → unless_fault r n ≤ m
unless_within (Err fault) n m h = omega arith
unless_within (Ok a) n m h = h

skipped_within : (skipped : Bool) (n m : ℕ) → 1 ≤ m → n ≤ m → (if skipped then 1 else n) ≤ m
skipped_within true n m one h = one
skipped_within false n m one h = h

and_within : (r : Result ℕ FaultKind) (n m : ℕ) → 1 ≤ m → n ≤ m → nodes_after_and r n ≤ m
and_within (Err fault) n m one h = omega arith
and_within (Ok a) n m one h = skipped_within (nat_eq a 0) n m one h

or_within : (r : Result ℕ FaultKind) (n m : ℕ) → 1 ≤ m → n ≤ m → nodes_after_or r n ≤ m
or_within (Err fault) n m one h = omega arith
or_within (Ok a) n m one h = skipped_within (nat_eq a full) n m one h

branches_within : {A : Type 0} (nothing all : Bool) (x : Result A FaultKind) (m n most_yes most_no : ℕ) → m ≤ most_yes → n ≤ most_no
    → (if nothing then n else (if all then m else m + unless_fault x n)) ≤ most_yes + most_no
branches_within true all x m n most_yes most_no h k = omega arith
branches_within false true x m n most_yes most_no h k = omega arith
branches_within false false x m n most_yes most_no h k = let rest = unless_within x n most_no k in omega arith

choice_within : {A : Type 0} (r : Result ℕ FaultKind) (x : Result A FaultKind) (m n most_yes most_no : ℕ) → m ≤ most_yes → n ≤ most_no
    → choice_nodes r x m n ≤ 1 + (most_yes + most_no)
choice_within (Err fault) x m n most_yes most_no h k = omega arith
choice_within (Ok w) x m n most_yes most_no h k =
    let rest = branches_within (nat_eq w 0) (nat_eq w full) x m n most_yes most_no h k in omega arith

from_within : (x : Result SlotEffect FaultKind) (count : Slots → ℕ) (m : ℕ) → ((slots : Slots) → count slots ≤ m) → slot_nodes_from x count ≤ m
from_within (Err fault) count m h = omega arith
from_within (Ok effect) count m h = h effect.slots

number_within_parts : (number : NumberTree) (slots : Slots) (fixing : Option ℤ) → number_slot_nodes number slots fixing ≤ number_parts number
number_within_parts (literal_at id raw) slots fixing = omega arith
number_within_parts (slot_at id slot) slots fixing = omega arith
number_within_parts (spot_at id) slots fixing = omega arith
number_within_parts (unary_at id kind side) slots fixing =
    let first = number_within_parts side slots fixing in
    let last = unless_within (value_by_slots side slots fixing) 1 1 (omega arith) in
    omega arith
number_within_parts (binary_at id kind left right) slots fixing =
    let first = number_within_parts left slots fixing in
    let second = number_within_parts right slots fixing in
    let last = unless_within (value_by_slots right slots fixing) 1 1 (omega arith) in
    let rest = unless_within (value_by_slots left slots fixing) (number_slot_nodes right slots fixing + unless_fault (value_by_slots right slots fixing) 1)
    (number_parts right + 1) (omega arith) in
    omega arith

test_within_parts : (fuzzy : IsFuzzy) (test : TestTree) (slots : Slots) (fixing : Option ℤ) → test_slot_nodes fuzzy test slots fixing ≤ test_parts test
test_within_parts fuzzy (truth_at id told answer) slots fixing = omega arith
test_within_parts fuzzy (compare_at id told kind left right smooth) slots fixing =
    let first = number_within_parts left slots fixing in
    let second = number_within_parts right slots fixing in
    let last = unless_within (value_by_slots right slots fixing) 1 1 (omega arith) in
    let rest = unless_within (value_by_slots left slots fixing) (number_slot_nodes right slots fixing + unless_fault (value_by_slots right slots fixing) 1)
    (number_parts right + 1) (omega arith) in
    omega arith
test_within_parts fuzzy (not_at id told side) slots fixing =
    let first = test_within_parts fuzzy side slots fixing in
    let last = unless_within (weight_by_slots fuzzy side slots fixing) 1 1 (omega arith) in
    omega arith
test_within_parts fuzzy (and_at id told left right) slots fixing =
    let first = test_within_parts fuzzy left slots fixing in
    let second = test_within_parts fuzzy right slots fixing in
    let last = unless_within (weight_by_slots fuzzy right slots fixing) 1 1 (omega arith) in
    let rest = and_within (weight_by_slots fuzzy left slots fixing)
    (test_slot_nodes fuzzy right slots fixing + unless_fault (weight_by_slots fuzzy right slots fixing) 1) (test_parts right + 1)
    (omega arith) (omega arith) in
    omega arith
test_within_parts fuzzy (or_at id told left right) slots fixing =
    let first = test_within_parts fuzzy left slots fixing in
    let second = test_within_parts fuzzy right slots fixing in
    let last = unless_within (weight_by_slots fuzzy right slots fixing) 1 1 (omega arith) in
    let rest = or_within (weight_by_slots fuzzy left slots fixing)
    (test_slot_nodes fuzzy right slots fixing + unless_fault (weight_by_slots fuzzy right slots fixing) 1) (test_parts right + 1)
    (omega arith) (omega arith) in
    omega arith

mutual
  step_within_parts : (fuzzy : IsFuzzy) (step : StepTree) (slots : Slots) (at : SlotMoment) → step_slot_nodes fuzzy step slots at ≤ step_parts step
  step_within_parts fuzzy (assigning slot value) slots at =
      let first = number_within_parts value slots at.fixing in
      let last = unless_within (value_by_slots value slots at.fixing) 1 1 (omega arith) in
      omega arith
  step_within_parts fuzzy (paying leg amount) slots at =
      let first = number_within_parts amount slots at.fixing in
      let last = unless_within (value_by_slots amount slots at.fixing) 1 1 (omega arith) in
      omega arith
  step_within_parts fuzzy (choosing test yes_part no_part changes) slots at =
      let first = test_within_parts fuzzy test slots at.fixing in
      let rest = choice_within (weight_by_slots fuzzy test slots at.fixing) (steps_by_slots fuzzy yes_part slots at)
      (steps_slot_nodes fuzzy yes_part slots at) (steps_slot_nodes fuzzy no_part slots at) (steps_parts yes_part) (steps_parts no_part)
      (steps_within_parts fuzzy yes_part slots at) (steps_within_parts fuzzy no_part slots at) in
      omega arith
  step_within_parts fuzzy (grouping steps) slots at = steps_within_parts fuzzy steps slots at

  steps_within_parts : (fuzzy : IsFuzzy) (steps : StepsTree) (slots : Slots) (at : SlotMoment) → steps_slot_nodes fuzzy steps slots at ≤ steps_parts steps
  steps_within_parts fuzzy no_steps slots at = omega arith
  steps_within_parts fuzzy (step_then step rest) slots at =
      let first = step_within_parts fuzzy step slots at in
      let after = from_within (step_by_slots fuzzy step slots at) (λ values. steps_slot_nodes fuzzy rest values at) (steps_parts rest)
      (λ values. steps_within_parts fuzzy rest values at) in
      omega arith

pub parts_are_counted : PartsAreCounted
parts_are_counted fuzzy [] slots row = omega arith
parts_are_counted fuzzy (event ∷ rest) slots row =
    let first = steps_within_parts fuzzy event.steps slots (slot_moment event row) in
    let after = from_within (steps_by_slots fuzzy event.steps slots (slot_moment event row))
    (λ values. slot_node_count fuzzy rest values (further_cells row)) (events_parts rest)
    (λ values. parts_are_counted fuzzy rest values (further_cells row)) in
    omega arith
