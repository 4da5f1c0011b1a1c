-- The variables that owned steps assign.
use Rattle.std.specs.Prelude.{ℕ, List, [], ◌∷◌, ◌++◌}
use Rattle.pay_tree.specs.Owned.{StepTree, assigning, paying, choosing, grouping, StepsTree, no_steps, step_then}

abbrev mutual
  -- the variable that a step assigns, or those that its branches or its steps assign, in the order of the text and as often as they do
  pub assigned_by : StepTree → List ℕ
  assigned_by (assigning slot value) = slot ∷ []
  assigned_by (paying leg amount) = []
  assigned_by (choosing test yes_part no_part changes) = assigned_in yes_part ++ assigned_in no_part
  assigned_by (grouping steps) = assigned_in steps

  -- the variables that steps assign
  pub assigned_in : StepsTree → List ℕ
  assigned_in no_steps = []
  assigned_in (step_then step rest) = assigned_by step ++ assigned_in rest
