-- The numbers and tests of owned trees that some run can reach under facts, each with its place, and with what it can give there: those of a side that a
-- decided `and` or `or` skips, and those of the other branch of a decided choice, are not among them.
use Rattle.std.specs.Prelude.{ℕ, Bool, true, false, List, [], ◌∷◌, ◌++◌, Option, Some, None}
use Rattle.pay_tree.specs.Owned.{NumberTree, literal_at, slot_at, spot_at, unary_at, binary_at, TestTree, truth_at, compare_at, not_at, and_at, or_at}
use Rattle.pay_tree.specs.Owned.{StepTree, assigning, paying, choosing, grouping, StepsTree, no_steps, step_then}
use Rattle.pay_facts.specs.Ranges.{Range}
use Rattle.pay_facts.specs.Decisions.{Decision}
use Rattle.pay_facts.specs.SlotFacts.{SlotDomains, range_by_slots, decide_by_slots, after_step}

-- what a part can give: a number its range, a test its decision
pub data Found : Type 0 where
  number_found : Range → Found
  test_found : Decision → Found

-- a part that is reached: its place, and what it can give
pub record Part : Type 0 where
  pub id : ℕ
  pub found : Found

-- a number itself, after its sides
abbrev pub own_number : NumberTree → SlotDomains → Bool → ℕ → List Part
own_number number domains known id = record { id = id; found = number_found (range_by_slots number domains known) } ∷ []

-- the parts of a number, each after its sides
abbrev pub number_parts : NumberTree → SlotDomains → Bool → List Part
number_parts (literal_at id raw) domains known = own_number (literal_at id raw) domains known id
number_parts (slot_at id slot) domains known = own_number (slot_at id slot) domains known id
number_parts (spot_at id) domains known = own_number (spot_at id) domains known id
number_parts (unary_at id op side) domains known = number_parts side domains known ++ own_number (unary_at id op side) domains known id
number_parts (binary_at id op left right) domains known =
    number_parts left domains known ++ (number_parts right domains (range_by_slots left domains known).known
    ++ own_number (binary_at id op left right) domains known id)

-- a test itself, after its sides
abbrev pub own_test : TestTree → SlotDomains → Bool → ℕ → List Part
own_test test domains known id = record { id = id; found = test_found (decide_by_slots test domains known) } ∷ []

-- parts that are reached unless the answer is false; and unless it is true
abbrev pub unless_false : Option Bool → List Part → List Part
unless_false None parts = parts
unless_false (Some true) parts = parts
unless_false (Some false) parts = []

abbrev pub unless_true : Option Bool → List Part → List Part
unless_true None parts = parts
unless_true (Some true) parts = []
unless_true (Some false) parts = parts

-- the parts of a test, each after its sides
abbrev pub test_parts : TestTree → SlotDomains → Bool → List Part
test_parts (truth_at id told answer) domains known = own_test (truth_at id told answer) domains known id
test_parts (compare_at id told op left right smooth) domains known =
    number_parts left domains known ++ (number_parts right domains (range_by_slots left domains known).known
    ++ own_test (compare_at id told op left right smooth) domains known id)
test_parts (not_at id told side) domains known = test_parts side domains known ++ own_test (not_at id told side) domains known id
test_parts (and_at id told left right) domains known =
    test_parts left domains known ++ (unless_false (decide_by_slots left domains known).answer
    (test_parts right domains (decide_by_slots left domains known).known) ++ own_test (and_at id told left right) domains known id)
test_parts (or_at id told left right) domains known =
    test_parts left domains known ++ (unless_true (decide_by_slots left domains known).answer
    (test_parts right domains (decide_by_slots left domains known).known) ++ own_test (or_at id told left right) domains known id)

-- the parts of the branch that a test decides; or of both
abbrev pub branch_parts : Option Bool → List Part → List Part → List Part
branch_parts (Some true) yes_part no_part = yes_part
branch_parts (Some false) yes_part no_part = no_part
branch_parts None yes_part no_part = yes_part ++ no_part

abbrev mutual
  -- the parts of a step
  pub step_parts : StepTree → SlotDomains → Bool → List Part
  step_parts (assigning slot value) domains known = number_parts value domains known
  step_parts (paying leg amount) domains known = number_parts amount domains known
  step_parts (choosing test yes_part no_part changes) domains known =
      test_parts test domains known ++ branch_parts (decide_by_slots test domains known).answer
      (steps_parts yes_part domains (decide_by_slots test domains known).known) (steps_parts no_part domains (decide_by_slots test domains known).known)
  step_parts (grouping steps) domains known = steps_parts steps domains known

  -- the parts of steps in order
  pub steps_parts : StepsTree → SlotDomains → Bool → List Part
  steps_parts no_steps domains known = []
  steps_parts (step_then step rest) domains known =
      step_parts step domains known ++ steps_parts rest (after_step step domains known).domains (after_step step domains known).known
