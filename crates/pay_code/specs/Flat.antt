-- The flat code of events, and the table of the variables that their choices change. A piece of code begins at a place of the whole code, `at`; its
-- part of the table begins at `from`. A choice has its part of the table after those of the choices in its branches: the parts stand in the order of
-- the `EndIf`s that name them.
use Rattle.std.specs.Prelude.{ℕ, ◌+◌, Bool, List, [], ◌∷◌, ◌++◌, length, Option, Some, None}
use Rattle.pay_tree.specs.Owned.{NumberTree, literal_at, slot_at, spot_at, unary_at, binary_at, TestTree, truth_at, compare_at, not_at, and_at, or_at}
use Rattle.pay_tree.specs.Owned.{StepTree, assigning, paying, choosing, grouping, StepsTree, no_steps, step_then, EventTree}
use Rattle.pay_code.specs.declared.op.Op.{Op}
use Rattle.pay_code.specs.declared.op.Op.TheVariants as op

-- a number: its operands from left to right, then its operation
abbrev pub number_code : NumberTree → List Op
number_code (literal_at id raw) = op.Number raw ∷ []
number_code (slot_at id slot) = op.Slot slot ∷ []
number_code (spot_at id) = op.Spot ∷ []
number_code (unary_at id operator side) = number_code side ++ (op.Unary operator ∷ [])
number_code (binary_at id operator left right) = number_code left ++ (number_code right ++ (op.Binary operator ∷ []))

-- two pieces of code, the second made for the place where the first ends
abbrev pub two_parts : ℕ → List Op → (ℕ → List Op) → List Op
two_parts at first second = first ++ second (at + length first)

-- `and` of two sides, where this is the place after it
abbrev pub and_code_to : ℕ → List Op → List Op → List Op
and_code_to to left right = left ++ (op.AndSkip to ∷ (right ++ (op.AndJoin ∷ [])))

-- `or` of two sides, where this is the place after it
abbrev pub or_code_to : ℕ → List Op → List Op → List Op
or_code_to to left right = left ++ (op.OrSkip to ∷ (right ++ (op.OrJoin ∷ [])))

-- the place after a test of two sides that are so long, with an operation after each
abbrev pub after_sides : ℕ → List Op → List Op → ℕ
after_sides at left right = at + length left + 1 + length right + 1

-- `and`: the left side, the jump past the rest, the right side, and the operation
abbrev pub and_code : ℕ → List Op → (ℕ → List Op) → List Op
and_code at left right = and_code_to (after_sides at left (right (at + length left + 1))) left (right (at + length left + 1))

-- `or` likewise
abbrev pub or_code : ℕ → List Op → (ℕ → List Op) → List Op
or_code at left right = or_code_to (after_sides at left (right (at + length left + 1))) left (right (at + length left + 1))

-- a test that is sure of its answer, if it is, is followed by `Sure`
abbrev pub surely_code : Option Bool → List Op → List Op
surely_code None code = code
surely_code (Some answer) code = code ++ (op.Sure answer ∷ [])

-- a test: its sides from left to right, then its operation
abbrev pub test_code : ℕ → TestTree → List Op
test_code at (truth_at id told answer) = surely_code told (op.Truth answer ∷ [])
test_code at (compare_at id told comparison left right smooth) =
    surely_code told (number_code left ++ (number_code right ++ (op.Compare comparison smooth ∷ [])))
test_code at (not_at id told side) = surely_code told (test_code at side ++ (op.Not ∷ []))
test_code at (and_at id told left right) = surely_code told (and_code at (test_code at left) (λ there. test_code there right))
test_code at (or_at id told left right) = surely_code told (or_code at (test_code at left) (λ there. test_code there right))

abbrev mutual
  -- the table of the choices in a step: those of the branches, then the variables that the choice changes
  pub step_table : StepTree → List ℕ
  step_table (assigning slot value) = []
  step_table (paying leg amount) = []
  step_table (choosing test yes_part no_part changes) = steps_table yes_part ++ (steps_table no_part ++ changes)
  step_table (grouping steps) = steps_table steps

  -- the table of the choices in steps, in their order
  pub steps_table : StepsTree → List ℕ
  steps_table no_steps = []
  steps_table (step_then step rest) = step_table step ++ steps_table rest

-- a choice of its test and two branches, with the place of the false branch, the place of its `EndIf`, and the part of the table that is its own
abbrev pub choice_code_of : ℕ → ℕ → ℕ → ℕ → List Op → List Op → List Op → List Op
choice_code_of other after first count test yes_part no_part =
    test ++ (op.If other ∷ (yes_part ++ (op.Else after ∷ (no_part ++ (op.EndIf first count ∷ [])))))

-- a choice whose true branch begins at `start`: the false branch stands past that and the `Else`
abbrev pub choice_code_from : ℕ → ℕ → ℕ → List Op → List Op → (ℕ → List Op) → List Op
choice_code_from start first count test yes_part no_part =
    choice_code_of (start + length yes_part + 1) (start + length yes_part + 1 + length (no_part (start + length yes_part + 1))) first count test yes_part
    (no_part (start + length yes_part + 1))

-- a choice: its test, `If`, the true branch, `Else`, the false branch, `EndIf`
abbrev pub choice_code : ℕ → ℕ → ℕ → List Op → (ℕ → List Op) → (ℕ → List Op) → List Op
choice_code at first count test yes_part no_part =
    choice_code_from (at + length test + 1) first count test (yes_part (at + length test + 1)) no_part

abbrev mutual
  -- a step: a number and where it goes, a choice, or the steps of a group
  pub step_code : ℕ → ℕ → StepTree → List Op
  step_code at from (assigning slot value) = number_code value ++ (op.Assign slot ∷ [])
  step_code at from (paying leg amount) = number_code amount ++ (op.Pay leg ∷ [])
  step_code at from (choosing test yes_part no_part changes) =
      choice_code at (from + length (steps_table yes_part) + length (steps_table no_part)) (length changes) (test_code at test)
      (λ there. steps_code there from yes_part) (λ there. steps_code there (from + length (steps_table yes_part)) no_part)
  step_code at from (grouping steps) = steps_code at from steps

  -- steps in their order
  pub steps_code : ℕ → ℕ → StepsTree → List Op
  steps_code at from no_steps = []
  steps_code at from (step_then step rest) =
      two_parts at (step_code at from step) (λ there. steps_code there (from + length (step_table step)) rest)

-- an event: its steps, then `EndEvent`
abbrev pub event_code : ℕ → ℕ → EventTree → List Op
event_code at from event = steps_code at from event.steps ++ (op.EndEvent ∷ [])

-- events in their order
abbrev pub events_code : ℕ → ℕ → List EventTree → List Op
events_code at from [] = []
events_code at from (event ∷ rest) =
    two_parts at (event_code at from event) (λ there. events_code there (from + length (steps_table event.steps)) rest)

-- the table of the choices in events, in their order
abbrev pub events_table : List EventTree → List ℕ
events_table [] = []
events_table (event ∷ rest) = steps_table event.steps ++ events_table rest

-- the code of events as a whole
abbrev pub flat_code : List EventTree → List Op
flat_code events = events_code 0 0 events
