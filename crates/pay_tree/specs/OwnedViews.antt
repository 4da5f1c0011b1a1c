-- The trees that are changed in place as plain data with places. What the code calls `Node`, `Test`, `Step` and `Event` is a number, a test, a
-- step and an event with their places here.
use Rattle.std.specs.Prelude.{ℕ, Bool, List, [], ◌∷◌, map, Option}
use Rattle.pay_tree.specs.Owned.{NumberTree, literal_at, slot_at, spot_at, unary_at, binary_at, TestTree, truth_at, compare_at, not_at, and_at}
use Rattle.pay_tree.specs.Owned.{or_at, StepTree, assigning, paying, choosing, grouping, StepsTree, no_steps, step_then, EventTree}
use Rattle.pay_tree.specs.declared.owned.Node.{Node}
use Rattle.pay_tree.specs.declared.owned.NodeKind.TheOpen.{NodeKind-F, Node-F}
use Rattle.pay_tree.specs.declared.owned.NodeKind.TheFolds.{fold-Node, fold-NodeKind}
use Rattle.pay_tree.specs.declared.owned.NodeKind.{NodeKind}
use Rattle.pay_tree.specs.declared.owned.Test.{Test}
use Rattle.pay_tree.specs.declared.owned.TestKind.TheOpen.{TestKind-F, Test-F}
use Rattle.pay_tree.specs.declared.owned.TestKind.TheFolds.{fold-Test, fold-TestKind}
use Rattle.pay_tree.specs.declared.owned.TestKind.{TestKind}
use Rattle.pay_tree.specs.declared.owned.Step.{Step}
use Rattle.pay_tree.specs.declared.owned.Step.TheOpen.{Step-F}
use Rattle.pay_tree.specs.declared.owned.Step.TheFolds.{fold-Step}
use Rattle.pay_tree.specs.declared.owned.Event.{Event as OwnedEvent}

-- the number that a kind of node is at a place, given those of its sides
abbrev pub node_kind_part : NodeKind-F (ℕ → NumberTree) NumberTree → ℕ → NumberTree
node_kind_part (NodeKind-F.Number raw) id = literal_at id raw
node_kind_part (NodeKind-F.Slot slot) id = slot_at id slot
node_kind_part NodeKind-F.Spot id = spot_at id
node_kind_part (NodeKind-F.Unary op side) id = unary_at id op side.value
node_kind_part (NodeKind-F.Binary op left right) id = binary_at id op left.value right.value

-- a kind at its place
abbrev pub node_part : Node-F (ℕ → NumberTree) NumberTree → NumberTree
node_part node = node.kind node.id

-- the number that a node is
abbrev pub number_tree : Node → NumberTree
number_tree = fold-Node (ℕ → NumberTree) NumberTree node_kind_part node_part

-- the number that a kind of node is at a place
abbrev pub number_kind_tree : NodeKind → ℕ → NumberTree
number_kind_tree = fold-NodeKind (ℕ → NumberTree) NumberTree node_kind_part node_part

-- the test that a kind of test is at a place and sure of this, given those of its sides
abbrev pub test_kind_part : TestKind-F (ℕ → Option Bool → TestTree) TestTree → ℕ → Option Bool → TestTree
test_kind_part (TestKind-F.Truth answer) id told = truth_at id told answer
test_kind_part (TestKind-F.Compare op left right smooth) id told = compare_at id told op (number_tree left.value) (number_tree right.value) smooth
test_kind_part (TestKind-F.Not side) id told = not_at id told side.value
test_kind_part (TestKind-F.And left right) id told = and_at id told left.value right.value
test_kind_part (TestKind-F.Or left right) id told = or_at id told left.value right.value

-- a kind at its place
abbrev pub test_part : Test-F (ℕ → Option Bool → TestTree) TestTree → TestTree
test_part test = test.kind test.id test.sure

-- the test that a test of a tree is
abbrev pub test_tree : Test → TestTree
test_tree = fold-Test (ℕ → Option Bool → TestTree) TestTree test_kind_part test_part

-- the test that a kind of test is at a place and sure of this
abbrev pub test_kind_tree : TestKind → ℕ → Option Bool → TestTree
test_kind_tree = fold-TestKind (ℕ → Option Bool → TestTree) TestTree test_kind_part test_part

-- steps in their order
abbrev pub steps_of : List StepTree → StepsTree
steps_of [] = no_steps
steps_of (first ∷ rest) = step_then first (steps_of rest)

-- the step that a step of a tree is, given those of its branches
abbrev pub step_part : Step-F StepTree → StepTree
step_part (Step-F.Assign slot value) = assigning slot (number_tree value)
step_part (Step-F.Pay leg amount) = paying leg (number_tree amount)
step_part (Step-F.If test yes_part no_part changes) = choosing (test_tree test) (steps_of yes_part.items) (steps_of no_part.items) changes.items
step_part (Step-F.Group steps) = grouping (steps_of steps.items)

-- the step that a step of a tree is
abbrev pub step_tree : Step → StepTree
step_tree = fold-Step StepTree step_part

-- the steps that steps of a tree are
abbrev pub steps_tree : List Step → StepsTree
steps_tree steps = steps_of (map step_tree steps)

-- the event that an event of trees is
abbrev pub event_tree : OwnedEvent → EventTree
event_tree event = record { date = event.date; period = event.period; days = event.days; steps = steps_tree event.steps.items }
