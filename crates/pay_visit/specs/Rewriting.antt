-- Trees that are rewritten from their innermost parts outwards.
use Rattle.pay_tree.specs.Owned.{NumberTree, literal_at, slot_at, spot_at, unary_at, binary_at, TestTree, truth_at, compare_at, not_at, and_at}
use Rattle.pay_tree.specs.Owned.{or_at, StepTree, assigning, paying, choosing, grouping, StepsTree, no_steps, step_then}

-- what becomes of a number, of a test and of a step, once their own parts are rewritten
pub record Change : Type 0 where
  pub number : NumberTree → NumberTree
  pub test : TestTree → TestTree
  pub step : StepTree → StepTree

-- a number, after its sides
abbrev pub rewritten_number : Change → NumberTree → NumberTree
rewritten_number change (literal_at id raw) = change.number (literal_at id raw)
rewritten_number change (slot_at id slot) = change.number (slot_at id slot)
rewritten_number change (spot_at id) = change.number (spot_at id)
rewritten_number change (unary_at id op side) = change.number (unary_at id op (rewritten_number change side))
rewritten_number change (binary_at id op left right) = change.number (binary_at id op (rewritten_number change left) (rewritten_number change right))

-- a test, after its sides
abbrev pub rewritten_test : Change → TestTree → TestTree
rewritten_test change (truth_at id told answer) = change.test (truth_at id told answer)
rewritten_test change (compare_at id told op left right smooth) =
    change.test (compare_at id told op (rewritten_number change left) (rewritten_number change right) smooth)
rewritten_test change (not_at id told side) = change.test (not_at id told (rewritten_test change side))
rewritten_test change (and_at id told left right) = change.test (and_at id told (rewritten_test change left) (rewritten_test change right))
rewritten_test change (or_at id told left right) = change.test (or_at id told (rewritten_test change left) (rewritten_test change right))

abbrev mutual
  -- a step, after its number, or its test and its branches, or its steps
  pub rewritten_step : Change → StepTree → StepTree
  rewritten_step change (assigning slot value) = change.step (assigning slot (rewritten_number change value))
  rewritten_step change (paying leg amount) = change.step (paying leg (rewritten_number change amount))
  rewritten_step change (choosing test yes_part no_part changes) =
      change.step (choosing (rewritten_test change test) (rewritten_steps change yes_part) (rewritten_steps change no_part) changes)
  rewritten_step change (grouping steps) = change.step (grouping (rewritten_steps change steps))

  -- each of the steps
  pub rewritten_steps : Change → StepsTree → StepsTree
  rewritten_steps change no_steps = no_steps
  rewritten_steps change (step_then step rest) = step_then (rewritten_step change step) (rewritten_steps change rest)
