-- The variables that steps assign, and the lists of them that each choice has.
use Rattle.std.specs.Prelude.{◌≡◌, ℕ, nat_lt, nat_eq, List, [], ◌∷◌, ◌++◌, if◌then◌else◌, ◌⊎◌}
use Rattle.pay_tree.specs.Assigned.{assigned_in}
use Rattle.pay_tree.specs.Owned.{NumberTree, TestTree, StepTree, assigning, paying, choosing, grouping, StepsTree, no_steps, step_then}

-- a number among others that rise, where it isn't there yet
abbrev pub placed_once : ℕ → List ℕ → List ℕ
placed_once slot [] = slot ∷ []
placed_once slot (first ∷ rest) =
    if nat_lt first slot then first ∷ placed_once slot rest else (if nat_eq first slot then first ∷ rest else slot ∷ first ∷ rest)

-- numbers in rising order, each once
abbrev pub rising : List ℕ → List ℕ
rising [] = []
rising (slot ∷ rest) = placed_once slot (rising rest)

-- the variables that steps assign, rising, each once
abbrev pub affected_of : StepsTree → List ℕ
affected_of steps = rising (assigned_in steps)

-- the variables that one of two branches assigns, rising, each once
abbrev pub changed_by : StepsTree → StepsTree → List ℕ
changed_by yes_part no_part = rising (assigned_in yes_part ++ assigned_in no_part)

abbrev mutual
  -- a step whose choices have the variables that their branches assign
  pub filled_step : StepTree → StepTree
  filled_step (assigning slot value) = assigning slot value
  filled_step (paying leg amount) = paying leg amount
  filled_step (choosing test yes_part no_part changes) =
      choosing test (filled_steps yes_part) (filled_steps no_part) (changed_by yes_part no_part)
  filled_step (grouping steps) = grouping (filled_steps steps)

  pub filled_steps : StepsTree → StepsTree
  filled_steps no_steps = no_steps
  filled_steps (step_then step rest) = step_then (filled_step step) (filled_steps rest)

-- the list of a choice is as it was, or that of the variables that its branches assign
abbrev pub IsKeptOrFilled : List ℕ → List ℕ → StepsTree → StepsTree → Type 0
IsKeptOrFilled new old yes_part no_part = (new ≡ old) ⊎ (new ≡ changed_by yes_part no_part)

mutual
  -- the first step, the new one, is the second one with some of the lists of its choices filled, and nothing else changed
  pub data SomeFilled : StepTree → StepTree → Type 0 where
    assigning_same : (slot : ℕ) (value : NumberTree) → SomeFilled (assigning slot value) (assigning slot value)
    paying_same : (leg : ℕ) (amount : NumberTree) → SomeFilled (paying leg amount) (paying leg amount)
    choosing_some : (test : TestTree) (yes_new yes_old no_new no_old : StepsTree) (new old : List ℕ)
        → AreSomeFilled yes_new yes_old → AreSomeFilled no_new no_old → IsKeptOrFilled new old yes_old no_old
        → SomeFilled (choosing test yes_new no_new new) (choosing test yes_old no_old old)
    grouping_some : (new old : StepsTree) → AreSomeFilled new old → SomeFilled (grouping new) (grouping old)

  -- the same of each of the steps
  pub data AreSomeFilled : StepsTree → StepsTree → Type 0 where
    nothing_filled : AreSomeFilled no_steps no_steps
    then_filled : (s t : StepTree) (a b : StepsTree) → SomeFilled s t → AreSomeFilled a b → AreSomeFilled (step_then s a) (step_then t b)
