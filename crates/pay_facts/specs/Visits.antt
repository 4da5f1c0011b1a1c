-- The numbers and tests of owned trees that a run evaluates, each with its place and with what it gave: a value, a truth or a fault. Sides come before
-- the whole; after a side that faults only the wholes around it follow, each with that fault, and nothing else of the event. No part of a side that
-- is skipped, or of the branch that isn't chosen, is evaluated.
use Rattle.std.specs.Prelude.{ℕ, ℤ, Bool, true, false, List, [], ◌∷◌, ◌++◌, Result, Ok, Err}
use Rattle.pay_meaning.specs.declared.fault.FaultKind.{FaultKind}
use Rattle.pay_meaning.specs.Meaning.{Variables, Moment, Effect, value, truth, effect_of}
use Rattle.pay_tree.specs.Owned.{NumberTree, literal_at, slot_at, spot_at, unary_at, binary_at, TestTree, truth_at, compare_at, not_at, and_at, or_at}
use Rattle.pay_tree.specs.Owned.{StepTree, assigning, paying, choosing, grouping, StepsTree, no_steps, step_then}
use Rattle.pay_tree.specs.Owned.{spelled_number, spelled_test, spelled_step}

-- what a part gave: a number its value, a test its truth, either of them its fault
pub data Gave : Type 0 where
  number_gave : Result ℤ FaultKind → Gave
  test_gave : Result Bool FaultKind → Gave

-- a part that is evaluated: its place, and what it gave
pub record Visit : Type 0 where
  pub id : ℕ
  pub gave : Gave

-- the names of the variables and of the legs
pub record Names : Type 0 where
  pub variables : List (List ℕ)
  pub legs : List (List ℕ)

-- visits that follow where nothing faulted before
abbrev pub unless_fault : {A : Type 0} → Result A FaultKind → List Visit → List Visit
unless_fault (Err fault) visits = []
unless_fault (Ok a) visits = visits

-- visits that follow where a truth is this one
abbrev pub on_true : Result Bool FaultKind → List Visit → List Visit
on_true (Err fault) visits = []
on_true (Ok true) visits = visits
on_true (Ok false) visits = []

abbrev pub on_false : Result Bool FaultKind → List Visit → List Visit
on_false (Err fault) visits = []
on_false (Ok true) visits = []
on_false (Ok false) visits = visits

-- a number itself, and a test itself
abbrev pub number_itself : Names → NumberTree → Variables → Moment → ℕ → List Visit
number_itself names number variables at id = record { id = id; gave = number_gave (value (spelled_number names.variables number) variables at) } ∷ []

abbrev pub test_itself : Names → TestTree → Variables → Moment → ℕ → List Visit
test_itself names test variables at id = record { id = id; gave = test_gave (truth (spelled_test names.variables test) variables at) } ∷ []

-- the visits of a number; where a side faults the whole has that fault
abbrev pub number_visits : Names → NumberTree → Variables → Moment → List Visit
number_visits names (literal_at id raw) variables at = number_itself names (literal_at id raw) variables at id
number_visits names (slot_at id slot) variables at = number_itself names (slot_at id slot) variables at id
number_visits names (spot_at id) variables at = number_itself names (spot_at id) variables at id
number_visits names (unary_at id op side) variables at =
    number_visits names side variables at ++ number_itself names (unary_at id op side) variables at id
number_visits names (binary_at id op left right) variables at =
    number_visits names left variables at ++ (unless_fault (value (spelled_number names.variables left) variables at) (number_visits names right variables at)
    ++ number_itself names (binary_at id op left right) variables at id)

-- the visits of a test
abbrev pub test_visits : Names → TestTree → Variables → Moment → List Visit
test_visits names (truth_at id told answer) variables at = test_itself names (truth_at id told answer) variables at id
test_visits names (compare_at id told op left right smooth) variables at =
    number_visits names left variables at ++ (unless_fault (value (spelled_number names.variables left) variables at) (number_visits names right variables at)
    ++ test_itself names (compare_at id told op left right smooth) variables at id)
test_visits names (not_at id told side) variables at =
    test_visits names side variables at ++ test_itself names (not_at id told side) variables at id
test_visits names (and_at id told left right) variables at =
    test_visits names left variables at ++ (on_true (truth (spelled_test names.variables left) variables at) (test_visits names right variables at)
    ++ test_itself names (and_at id told left right) variables at id)
test_visits names (or_at id told left right) variables at =
    test_visits names left variables at ++ (on_false (truth (spelled_test names.variables left) variables at) (test_visits names right variables at)
    ++ test_itself names (or_at id told left right) variables at id)

-- the visits that follow an effect, from its variables
abbrev pub onward : Result Effect FaultKind → (Variables → List Visit) → List Visit
onward (Err fault) rest = []
onward (Ok effect) rest = rest effect.variables

abbrev mutual
  -- the visits of a step
  pub step_visits : Names → StepTree → Variables → Moment → List Visit
  step_visits names (assigning slot value) variables at = number_visits names value variables at
  step_visits names (paying leg amount) variables at = number_visits names amount variables at
  step_visits names (choosing test yes_part no_part changes) variables at =
      test_visits names test variables at ++ (on_true (truth (spelled_test names.variables test) variables at) (steps_visits names yes_part variables at)
      ++ on_false (truth (spelled_test names.variables test) variables at) (steps_visits names no_part variables at))
  step_visits names (grouping steps) variables at = steps_visits names steps variables at

  -- the visits of steps in order
  pub steps_visits : Names → StepsTree → Variables → Moment → List Visit
  steps_visits names no_steps variables at = []
  steps_visits names (step_then step rest) variables at =
      step_visits names step variables at
      ++ onward (effect_of (spelled_step names.variables names.legs step) variables at) (λ after. steps_visits names rest after at)
