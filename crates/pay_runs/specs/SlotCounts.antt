-- How many numbers, tests and steps a run of owned trees evaluates.
use Rattle.std.specs.Prelude.{ℕ, ℤ, ◌+◌, List, [], ◌∷◌, Option, Result, Ok, Err}
use Rattle.pay_meaning.specs.declared.fault.FaultKind.{FaultKind}
use Rattle.pay_tree.specs.Owned.{NumberTree, literal_at, slot_at, spot_at, unary_at, binary_at, TestTree, truth_at, compare_at, not_at, and_at, or_at}
use Rattle.pay_tree.specs.Owned.{StepTree, assigning, paying, choosing, grouping, StepsTree, no_steps, step_then, EventTree}
use Rattle.pay_runs.specs.Weighing.{IsFuzzy}
use Rattle.pay_runs.specs.Counting.{unless_fault, nodes_after_and, nodes_after_or, choice_nodes}
use Rattle.pay_runs.specs.Slots.{Slots, Row, further_cells, slot_moment, SlotMoment, SlotEffect, value_by_slots, weight_by_slots}
use Rattle.pay_runs.specs.Slots.{step_by_slots, steps_by_slots}

-- the parts of a number that are evaluated
abbrev pub number_slot_nodes : NumberTree → Slots → Option ℤ → ℕ
number_slot_nodes (literal_at id raw) slots fixing = 1
number_slot_nodes (slot_at id slot) slots fixing = 1
number_slot_nodes (spot_at id) slots fixing = 1
number_slot_nodes (unary_at id op side) slots fixing = number_slot_nodes side slots fixing + unless_fault (value_by_slots side slots fixing) 1
number_slot_nodes (binary_at id op left right) slots fixing =
    number_slot_nodes left slots fixing
    + unless_fault (value_by_slots left slots fixing) (number_slot_nodes right slots fixing + unless_fault (value_by_slots right slots fixing) 1)

-- the parts of a test that are evaluated
abbrev pub test_slot_nodes : IsFuzzy → TestTree → Slots → Option ℤ → ℕ
test_slot_nodes fuzzy (truth_at id told answer) slots fixing = 1
test_slot_nodes fuzzy (compare_at id told op left right smooth) slots fixing =
    number_slot_nodes left slots fixing
    + unless_fault (value_by_slots left slots fixing) (number_slot_nodes right slots fixing + unless_fault (value_by_slots right slots fixing) 1)
test_slot_nodes fuzzy (not_at id told side) slots fixing =
    test_slot_nodes fuzzy side slots fixing + unless_fault (weight_by_slots fuzzy side slots fixing) 1
test_slot_nodes fuzzy (and_at id told left right) slots fixing =
    test_slot_nodes fuzzy left slots fixing
    + nodes_after_and (weight_by_slots fuzzy left slots fixing)
    (test_slot_nodes fuzzy right slots fixing + unless_fault (weight_by_slots fuzzy right slots fixing) 1)
test_slot_nodes fuzzy (or_at id told left right) slots fixing =
    test_slot_nodes fuzzy left slots fixing
    + nodes_after_or (weight_by_slots fuzzy left slots fixing)
    (test_slot_nodes fuzzy right slots fixing + unless_fault (weight_by_slots fuzzy right slots fixing) 1)

-- what follows an effect is evaluated from its values, unless it faulted
abbrev pub slot_nodes_from : Result SlotEffect FaultKind → (Slots → ℕ) → ℕ
slot_nodes_from (Err fault) rest = 0
slot_nodes_from (Ok effect) rest = rest effect.slots

abbrev mutual
  -- the parts of a step that are evaluated
  pub step_slot_nodes : IsFuzzy → StepTree → Slots → SlotMoment → ℕ
  step_slot_nodes fuzzy (assigning slot value) slots at =
      number_slot_nodes value slots at.fixing + unless_fault (value_by_slots value slots at.fixing) 1
  step_slot_nodes fuzzy (paying leg amount) slots at =
      number_slot_nodes amount slots at.fixing + unless_fault (value_by_slots amount slots at.fixing) 1
  step_slot_nodes fuzzy (choosing test yes_part no_part changes) slots at =
      test_slot_nodes fuzzy test slots at.fixing
      + choice_nodes (weight_by_slots fuzzy test slots at.fixing) (steps_by_slots fuzzy yes_part slots at) (steps_slot_nodes fuzzy yes_part slots at)
      (steps_slot_nodes fuzzy no_part slots at)
  step_slot_nodes fuzzy (grouping steps) slots at = steps_slot_nodes fuzzy steps slots at

  -- the parts of steps that are evaluated
  pub steps_slot_nodes : IsFuzzy → StepsTree → Slots → SlotMoment → ℕ
  steps_slot_nodes fuzzy no_steps slots at = 0
  steps_slot_nodes fuzzy (step_then step rest) slots at =
      step_slot_nodes fuzzy step slots at + slot_nodes_from (step_by_slots fuzzy step slots at) (λ after. steps_slot_nodes fuzzy rest after at)

-- the parts of events that are evaluated in a run from these values over this row
abbrev pub slot_node_count : IsFuzzy → List EventTree → Slots → Row → ℕ
slot_node_count fuzzy [] slots row = 0
slot_node_count fuzzy (event ∷ rest) slots row =
    steps_slot_nodes fuzzy event.steps slots (slot_moment event row)
    + slot_nodes_from (steps_by_slots fuzzy event.steps slots (slot_moment event row)) (λ after. slot_node_count fuzzy rest after (further_cells row))
