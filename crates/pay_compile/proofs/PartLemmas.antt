-- Steps have no more parts that count than they have parts; groups are parts that don't count.
use Rattle.std.proofs.Common.{◌≤◌, List, [], ◌∷◌, ◌++◌, map, length, arith}
use Rattle.std.proofs.lemmas.List.{length-append}
use Rattle.pay_tree.specs.Owned.{NumberTree, literal_at, slot_at, spot_at, unary_at, binary_at, TestTree, truth_at, compare_at, not_at, and_at, or_at}
use Rattle.pay_tree.specs.Owned.{StepTree, assigning, paying, choosing, grouping, StepsTree, no_steps, step_then, EventTree}
use Rattle.pay_visit.specs.Showing.{parts_of_number, parts_of_test, parts_of_step, parts_of_steps}
use Rattle.pay_passes.specs.Trades.{parts_of_events}
use Rattle.pay_code.specs.Bounds.{number_parts, test_parts, step_parts, steps_parts, events_parts}
use Rattle.pay_simplified.specs.Pruning.{filled_event}
use Rattle.pay_simplified.proofs.FillingLemmas.{filled_count}

number_has : (number : NumberTree) → number_parts number ≤ length (parts_of_number number)
number_has (literal_at id raw) = omega arith
number_has (slot_at id slot) = omega arith
number_has (spot_at id) = omega arith
number_has (unary_at id op side) = omega (arith, number_has side)
number_has (binary_at id op left right) =
    omega (arith, length-append (parts_of_number left) (parts_of_number right), number_has left, number_has right)

test_has : (test : TestTree) → test_parts test ≤ length (parts_of_test test)
test_has (truth_at id told answer) = omega arith
test_has (compare_at id told op left right smooth) =
    omega (arith, length-append (parts_of_number left) (parts_of_number right), number_has left, number_has right)
test_has (not_at id told side) = omega (arith, test_has side)
test_has (and_at id told left right) = omega (arith, length-append (parts_of_test left) (parts_of_test right), test_has left, test_has right)
test_has (or_at id told left right) = omega (arith, length-append (parts_of_test left) (parts_of_test right), test_has left, test_has right)

mutual
  step_has : (step : StepTree) → step_parts step ≤ length (parts_of_step step)
  step_has (assigning slot value) = omega (arith, number_has value)
  step_has (paying leg amount) = omega (arith, number_has amount)
  step_has (choosing test yes_part no_part changes) =
      let both = length-append (parts_of_test test) (parts_of_steps yes_part ++ parts_of_steps no_part) in
      let branches = length-append (parts_of_steps yes_part) (parts_of_steps no_part) in
      omega (arith, both, branches, test_has test, steps_have yes_part, steps_have no_part)
  step_has (grouping steps) = omega (arith, steps_have steps)

  -- the parts of steps
  steps_have : (steps : StepsTree) → steps_parts steps ≤ length (parts_of_steps steps)
  steps_have no_steps = omega arith
  steps_have (step_then step rest) = omega (arith, length-append (parts_of_step step) (parts_of_steps rest), step_has step, steps_have rest)

-- the parts of events, once their choices are filled in
pub events_have : (events : List EventTree) → events_parts (map filled_event events) ≤ length (parts_of_events events)
events_have [] = omega arith
events_have (event ∷ rest) =
    let both = length-append (parts_of_steps event.steps) (parts_of_events rest) in
    omega (arith, both, filled_count event.steps, steps_have event.steps, events_have rest)
