-- The parts of owned trees in the order of the text, and what an observer that is shown them has seen.
use Rattle.std.specs.Prelude.{◌≡◌, List, [], ◌∷◌, ◌++◌}
use Rattle.pay_tree.specs.Owned.{NumberTree, literal_at, slot_at, spot_at, unary_at, binary_at, TestTree, truth_at, compare_at, not_at, and_at}
use Rattle.pay_tree.specs.Owned.{or_at, StepTree, assigning, paying, choosing, grouping, StepsTree, no_steps, step_then}

-- a part of owned trees: a step, a test or a number
pub data TreePart : Type 0 where
  a_number_at : NumberTree → TreePart
  a_test_at : TestTree → TreePart
  a_step_of : StepTree → TreePart

-- a number, and then the parts of its sides
abbrev pub parts_of_number : NumberTree → List TreePart
parts_of_number (literal_at id raw) = a_number_at (literal_at id raw) ∷ []
parts_of_number (slot_at id slot) = a_number_at (slot_at id slot) ∷ []
parts_of_number (spot_at id) = a_number_at (spot_at id) ∷ []
parts_of_number (unary_at id op side) = a_number_at (unary_at id op side) ∷ parts_of_number side
parts_of_number (binary_at id op left right) = a_number_at (binary_at id op left right) ∷ (parts_of_number left ++ parts_of_number right)

-- a test, and then the parts of its sides
abbrev pub parts_of_test : TestTree → List TreePart
parts_of_test (truth_at id told answer) = a_test_at (truth_at id told answer) ∷ []
parts_of_test (compare_at id told op left right smooth) =
    a_test_at (compare_at id told op left right smooth) ∷ (parts_of_number left ++ parts_of_number right)
parts_of_test (not_at id told side) = a_test_at (not_at id told side) ∷ parts_of_test side
parts_of_test (and_at id told left right) = a_test_at (and_at id told left right) ∷ (parts_of_test left ++ parts_of_test right)
parts_of_test (or_at id told left right) = a_test_at (or_at id told left right) ∷ (parts_of_test left ++ parts_of_test right)

abbrev mutual
  -- a step, and then the parts of its number, or of its test and its branches, or of its steps
  pub parts_of_step : StepTree → List TreePart
  parts_of_step (assigning slot value) = a_step_of (assigning slot value) ∷ parts_of_number value
  parts_of_step (paying leg amount) = a_step_of (paying leg amount) ∷ parts_of_number amount
  parts_of_step (choosing test yes_part no_part changes) =
      a_step_of (choosing test yes_part no_part changes) ∷ (parts_of_test test ++ (parts_of_steps yes_part ++ parts_of_steps no_part))
  parts_of_step (grouping steps) = a_step_of (grouping steps) ∷ parts_of_steps steps

  -- the parts of each of the steps
  pub parts_of_steps : StepsTree → List TreePart
  parts_of_steps no_steps = []
  parts_of_steps (step_then step rest) = parts_of_step step ++ parts_of_steps rest

-- a front of these parts was shown after those that were seen before
pub record ShowedFront (seen : List TreePart → Type 0) (before parts : List TreePart) : Type 0 where
  pub front : List TreePart
  pub rest : List TreePart
  pub is : parts ≡ front ++ rest
  pub shown : seen (before ++ front)
