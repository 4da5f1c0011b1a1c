-- How much a run of code can make of what it works on: payments, saved values, and evaluated parts.
use Rattle.std.specs.Prelude.{◌≡◌, ℕ, ◌+◌, ◌-◌, ◌<◌, ◌≤◌, true, List, [], ◌∷◌, ◌++◌, length}
use Rattle.pay_tree.specs.Owned.{NumberTree, literal_at, slot_at, spot_at, unary_at, binary_at, TestTree, truth_at, compare_at, not_at, and_at, or_at}
use Rattle.pay_tree.specs.Owned.{StepTree, assigning, paying, choosing, grouping, StepsTree, no_steps, step_then, EventTree}
use Rattle.pay_runs.specs.Slots.{SlotPayment}
use Rattle.pay_code.specs.declared.op.Op.{Op}
use Rattle.pay_code.specs.declared.op.Op.TheVariants as op
use Rattle.pay_code.specs.Execution.{changes_of, changes_from_if, op_ahead}
use Rattle.pay_code.specs.Filled.{is_among}

-- the leg that an operation pays, if it pays one
abbrev pub legs_of : Op → List ℕ
legs_of (op.Pay leg) = leg ∷ []
legs_of other = []

-- the legs that code pays, each as often as a `Pay` names it
abbrev pub legs_in : List Op → List ℕ
legs_in [] = []
legs_in (first ∷ rest) = legs_of first ++ legs_in rest

-- how many payments an operation makes
abbrev pub pays_of : Op → ℕ
pays_of (op.Pay leg) = 1
pays_of other = 0

-- how many `Pay`s code has
abbrev pub pays_in : List Op → ℕ
pays_in [] = 0
pays_in (first ∷ rest) = pays_of first + pays_in rest

-- how many values an operation saves at its place, before these that are left, where its choice is split
abbrev pub saved_of : List ℕ → Op → ℕ → List Op → ℕ
saved_of table (op.If to) at rest = length (changes_from_if table at rest to)
saved_of table (op.Else after) at rest = length (changes_of table (op_ahead rest (after - (at + 1))))
saved_of table other at rest = 0

-- how many values code saves where each choice is split
abbrev pub saved_in : List ℕ → ℕ → List Op → ℕ
saved_in table at [] = 0
saved_in table at (first ∷ rest) = saved_of table first at rest + saved_in table (at + 1) rest

-- each payment is on one of these legs
abbrev pub AreOnLegs : List ℕ → List SlotPayment → Type 0
AreOnLegs legs [] = Unit {0}
AreOnLegs legs (payment ∷ rest) = (is_among payment.leg legs ≡ true) × AreOnLegs legs rest

-- a target lies past the place of its operation, and at most at the end of the code
abbrev pub LiesAhead : ℕ → ℕ → ℕ → Type 0
LiesAhead last at to = (at < to) × (to ≤ last)

-- the target of an operation, if it has one, lies ahead
abbrev pub TargetLiesAhead : ℕ → ℕ → Op → Type 0
TargetLiesAhead last at (op.AndSkip to) = LiesAhead last at to
TargetLiesAhead last at (op.OrSkip to) = LiesAhead last at to
TargetLiesAhead last at (op.If to) = LiesAhead last at to
TargetLiesAhead last at (op.Else to) = LiesAhead last at to
TargetLiesAhead last at other = Unit {0}

-- so do all targets of code that begins at a place, in code with this end
abbrev pub TargetsLieAhead : ℕ → ℕ → List Op → Type 0
TargetsLieAhead last at [] = Unit {0}
TargetsLieAhead last at (first ∷ rest) = TargetLiesAhead last at first × TargetsLieAhead last (at + 1) rest

-- the parts of a number
abbrev pub number_parts : NumberTree → ℕ
number_parts (literal_at id raw) = 1
number_parts (slot_at id slot) = 1
number_parts (spot_at id) = 1
number_parts (unary_at id operator side) = number_parts side + 1
number_parts (binary_at id operator left right) = number_parts left + (number_parts right + 1)

-- the parts of a test
abbrev pub test_parts : TestTree → ℕ
test_parts (truth_at id told answer) = 1
test_parts (compare_at id told comparison left right smooth) = number_parts left + (number_parts right + 1)
test_parts (not_at id told side) = test_parts side + 1
test_parts (and_at id told left right) = test_parts left + (test_parts right + 1)
test_parts (or_at id told left right) = test_parts left + (test_parts right + 1)

abbrev mutual
  -- the parts of a step
  pub step_parts : StepTree → ℕ
  step_parts (assigning slot value) = number_parts value + 1
  step_parts (paying leg amount) = number_parts amount + 1
  step_parts (choosing test yes_part no_part changes) = test_parts test + (1 + (steps_parts yes_part + steps_parts no_part))
  step_parts (grouping steps) = steps_parts steps

  -- the parts of steps
  pub steps_parts : StepsTree → ℕ
  steps_parts no_steps = 0
  steps_parts (step_then step rest) = step_parts step + steps_parts rest

-- the parts of events: their numbers, tests, assignments, payments and choices
abbrev pub events_parts : List EventTree → ℕ
events_parts [] = 0
events_parts (event ∷ rest) = steps_parts event.steps + events_parts rest
