-- Owned trees as plain data: numbers, tests and steps with their places, without pointers; and what each stands for in the language.
use Rattle.std.specs.Prelude.{ℕ, ℤ, Bool, List, [], ◌∷◌, ◌++◌, map, get_or, Option, Some, None}
use Rattle.pay_dates.specs.declared.day.Day.{Day}
use Rattle.pay_fixed.specs.declared.smooth.Smooth.{Smooth}
use Rattle.pay_meaning.specs.Language.{Number, literal, variable, spot, binary, Note, bare, smoothed, Condition, compare, negation, conjunction}
use Rattle.pay_meaning.specs.Language.{disjunction, settled, sure, Statement, assign, pay, choose, group, Body, done, next, Event}
use Rattle.pay_tree.specs.declared.tree.Binary.{Binary}
use Rattle.pay_tree.specs.declared.tree.Unary.{Unary}
use Rattle.pay_tree.specs.declared.tree.Compare.{Compare}
use Rattle.pay_tree.specs.Views.{operator, signed, comparison}

-- a number with its place: a literal by its raw, a variable by its number, the fixing, a number under an operator, or two of them
pub data NumberTree : Type 0 where
  literal_at : ℕ → ℤ → NumberTree
  slot_at : ℕ → ℕ → NumberTree
  spot_at : ℕ → NumberTree
  unary_at : ℕ → Unary → NumberTree → NumberTree
  binary_at : ℕ → Binary → NumberTree → NumberTree → NumberTree

-- a test with its place and with what it is sure of, if it is: a truth literal, a comparison with its smoothing, `not`, `and` or `or`
pub data TestTree : Type 0 where
  truth_at : ℕ → Option Bool → Bool → TestTree
  compare_at : ℕ → Option Bool → Compare → NumberTree → NumberTree → Option Smooth → TestTree
  not_at : ℕ → Option Bool → TestTree → TestTree
  and_at : ℕ → Option Bool → TestTree → TestTree → TestTree
  or_at : ℕ → Option Bool → TestTree → TestTree → TestTree

mutual
  -- a step: a variable is given a value, a leg is paid an amount, one of two lists of steps is chosen by a test, with the numbers of the
  -- variables that they change; or a group of steps
  pub data StepTree : Type 0 where
    assigning : ℕ → NumberTree → StepTree
    paying : ℕ → NumberTree → StepTree
    choosing : TestTree → StepsTree → StepsTree → List ℕ → StepTree
    grouping : StepsTree → StepTree

  -- steps in their order
  pub data StepsTree : Type 0 where
    no_steps : StepsTree
    step_then : StepTree → StepsTree → StepsTree

-- the steps of one date
pub record EventTree : Type 0 where
  pub date : Day
  pub period : ℕ
  pub days : ℕ
  pub steps : StepsTree

-- the name of a number; past the end of the names it is the empty one
abbrev pub name_at : List (List ℕ) → ℕ → List ℕ
name_at names number = get_or names number []

-- the number of the language that a tree stands for, where the variables have these names
abbrev pub spelled_number : List (List ℕ) → NumberTree → Number
spelled_number names (literal_at id raw) = literal raw
spelled_number names (slot_at id slot) = variable (name_at names slot)
spelled_number names (spot_at id) = spot
spelled_number names (unary_at id op side) = signed op (spelled_number names side)
spelled_number names (binary_at id op left right) = binary (operator op) (spelled_number names left) (spelled_number names right)

-- a condition, sure of its answer where there is one
abbrev pub surely : Option Bool → Condition → Condition
surely None condition = condition
surely (Some answer) condition = sure answer condition

-- what a comparison carries
abbrev pub note_of : Option Smooth → Note
note_of None = bare
note_of (Some smooth) = smoothed smooth

-- the condition of the language that a tree stands for
abbrev pub spelled_test : List (List ℕ) → TestTree → Condition
spelled_test names (truth_at id told answer) = surely told (settled answer)
spelled_test names (compare_at id told op left right smooth) =
    surely told (compare (comparison op) (spelled_number names left) (spelled_number names right) (note_of smooth))
spelled_test names (not_at id told side) = surely told (negation (spelled_test names side))
spelled_test names (and_at id told left right) = surely told (conjunction (spelled_test names left) (spelled_test names right))
spelled_test names (or_at id told left right) = surely told (disjunction (spelled_test names left) (spelled_test names right))

abbrev mutual
  -- the statement of the language that a step stands for, where the variables and the legs have these names
  pub spelled_step : List (List ℕ) → List (List ℕ) → StepTree → Statement
  spelled_step names legs (assigning slot value) = assign (name_at names slot) (spelled_number names value)
  spelled_step names legs (paying leg amount) = pay (name_at legs leg) (spelled_number names amount)
  spelled_step names legs (choosing test yes_part no_part changes) =
      choose (spelled_test names test) (spelled_steps names legs yes_part) (spelled_steps names legs no_part)
  spelled_step names legs (grouping steps) = group (spelled_steps names legs steps)

  -- the body of the language that steps stand for
  pub spelled_steps : List (List ℕ) → List (List ℕ) → StepsTree → Body
  spelled_steps names legs no_steps = done
  spelled_steps names legs (step_then step rest) = next (spelled_step names legs step) (spelled_steps names legs rest)

-- the event of the language that an event stands for
abbrev pub spelled_event : List (List ℕ) → List (List ℕ) → EventTree → Event
spelled_event names legs event = record { date = event.date; period = event.period; days = event.days; body = spelled_steps names legs event.steps }

-- the places of a number and of its sides, in the order of the text
abbrev pub number_places : NumberTree → List ℕ
number_places (literal_at id raw) = id ∷ []
number_places (slot_at id slot) = id ∷ []
number_places (spot_at id) = id ∷ []
number_places (unary_at id op side) = id ∷ number_places side
number_places (binary_at id op left right) = id ∷ (number_places left ++ number_places right)

-- the places of a test, of its sides and of their numbers, in the order of the text
abbrev pub test_places : TestTree → List ℕ
test_places (truth_at id told answer) = id ∷ []
test_places (compare_at id told op left right smooth) = id ∷ (number_places left ++ number_places right)
test_places (not_at id told side) = id ∷ test_places side
test_places (and_at id told left right) = id ∷ (test_places left ++ test_places right)
test_places (or_at id told left right) = id ∷ (test_places left ++ test_places right)

abbrev mutual
  -- the places of the numbers and tests of a step, in the order of the text
  pub step_places : StepTree → List ℕ
  step_places (assigning slot value) = number_places value
  step_places (paying leg amount) = number_places amount
  step_places (choosing test yes_part no_part changes) = test_places test ++ (steps_places yes_part ++ steps_places no_part)
  step_places (grouping steps) = steps_places steps

  pub steps_places : StepsTree → List ℕ
  steps_places no_steps = []
  steps_places (step_then step rest) = step_places step ++ steps_places rest
