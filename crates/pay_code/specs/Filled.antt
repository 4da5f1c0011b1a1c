-- Choices that have the variables which their branches assign.
use Rattle.std.specs.Prelude.{◌≡◌, ℕ, Bool, false, nat_eq, ◌||◌, List, [], ◌∷◌, ◌++◌}
use Rattle.pay_tree.specs.Assigned.{assigned_in}
use Rattle.pay_tree.specs.Owned.{StepTree, assigning, paying, choosing, grouping, StepsTree, no_steps, step_then, EventTree}

-- whether a number is one of these
abbrev pub is_among : ℕ → List ℕ → Bool
is_among slot [] = false
is_among slot (first ∷ rest) = nat_eq slot first || is_among slot rest

-- no number is there twice
abbrev pub IsEachOnce : List ℕ → Type 0
IsEachOnce [] = Unit {0}
IsEachOnce (first ∷ rest) = (is_among first rest ≡ false) × IsEachOnce rest

-- a list of changes has the variables that one of two branches assigns, and no others, each once
pub record AreChanges (changes : List ℕ) (yes_part no_part : StepsTree) : Type 0 where
  pub each_once : IsEachOnce changes
  pub those : (slot : ℕ) → is_among slot changes ≡ is_among slot (assigned_in yes_part ++ assigned_in no_part)

abbrev mutual
  -- each choice in a step has the variables that its branches assign
  pub IsFilled : StepTree → Type 0
  IsFilled (assigning slot value) = Unit {0}
  IsFilled (paying leg amount) = Unit {0}
  IsFilled (choosing test yes_part no_part changes) = AreChanges changes yes_part no_part × (AreFilledSteps yes_part × AreFilledSteps no_part)
  IsFilled (grouping steps) = AreFilledSteps steps

  -- the same of steps
  pub AreFilledSteps : StepsTree → Type 0
  AreFilledSteps no_steps = Unit {0}
  AreFilledSteps (step_then step rest) = IsFilled step × AreFilledSteps rest

-- the same of events
abbrev pub AreFilled : List EventTree → Type 0
AreFilled [] = Unit {0}
AreFilled (event ∷ rest) = AreFilledSteps event.steps × AreFilled rest
