-- The number of a node, the test of a test and the step of a step of an owned tree whose form is known.
use Rattle.std.proofs.Common.{◌≡◌, ℕ, ℤ, Bool, Option, sym, ap, ◌∙◌}
use Rattle.std.specs.declared.boxed.Box.{Box}
use Rattle.std.specs.declared.alloc.Global.{Global}
use Rattle.std.specs.declared.vec.Vec.{Vec}
use Rattle.pay_fixed.specs.declared.smooth.Smooth.{Smooth}
use Rattle.pay_tree.specs.declared.tree.Binary.{Binary}
use Rattle.pay_tree.specs.declared.tree.Unary.{Unary}
use Rattle.pay_tree.specs.declared.tree.Compare.{Compare}
use Rattle.pay_tree.specs.declared.owned.Node.{Node}
use Rattle.pay_tree.specs.declared.owned.NodeKind.TheOpen.{NodeKind-F}
use Rattle.pay_tree.specs.declared.owned.NodeKind.TheFolds.{fold-roll-NodeKind, fold_out-Node}
use Rattle.pay_tree.specs.declared.owned.NodeKind.TheVariants as kind
use Rattle.pay_tree.specs.declared.owned.NodeKind.TheVariants.{rolls-Number, rolls-Slot, rolls-Spot, rolls-Unary, rolls-Binary}
use Rattle.pay_tree.specs.declared.owned.Test.{Test}
use Rattle.pay_tree.specs.declared.owned.TestKind.TheOpen.{TestKind-F}
use Rattle.pay_tree.specs.declared.owned.TestKind.TheFolds.{fold-roll-TestKind, fold_out-Test}
use Rattle.pay_tree.specs.declared.owned.TestKind.TheVariants as test
use Rattle.pay_tree.specs.declared.owned.TestKind.TheVariants.{rolls-Truth, rolls-Compare, rolls-Not, rolls-And, rolls-Or}
use Rattle.pay_tree.specs.declared.owned.Step.{Step}
use Rattle.pay_tree.specs.declared.owned.Step.TheOpen.{Step-F}
use Rattle.pay_tree.specs.declared.owned.Step.TheFolds.{fold-roll-Step}
use Rattle.pay_tree.specs.declared.owned.Step.TheVariants as step
use Rattle.pay_tree.specs.declared.owned.Step.TheVariants.{rolls-Assign, rolls-Pay, rolls-If, rolls-Group}
use Rattle.pay_tree.specs.Owned.{NumberTree, literal_at, slot_at, spot_at, unary_at, binary_at, TestTree, truth_at, compare_at, not_at, and_at}
use Rattle.pay_tree.specs.Owned.{or_at, StepTree, assigning, paying, choosing, grouping}
use Rattle.pay_tree.specs.OwnedViews.{number_tree, number_kind_tree, node_kind_part, node_part, test_tree, test_kind_tree, test_kind_part, test_part}
use Rattle.pay_tree.specs.OwnedViews.{step_tree, step_part, steps_tree}

of_node : (n : Node) → number_tree n ≡ number_kind_tree n.kind n.id
of_node = fold_out-Node (ℕ → NumberTree) NumberTree node_kind_part node_part

pub number-literal : (n : Node) (raw : ℤ) → n.kind ≡ kind.Number raw → number_tree n ≡ literal_at n.id raw
number-literal n raw is =
    of_node n ∙ ap (λ k. number_kind_tree k n.id) (is ∙ sym (rolls-Number raw))
    ∙ ap (λ f. f n.id) (fold-roll-NodeKind (ℕ → NumberTree) NumberTree node_kind_part node_part (NodeKind-F.Number raw))

pub number-slot : (n : Node) (slot : ℕ) → n.kind ≡ kind.Slot slot → number_tree n ≡ slot_at n.id slot
number-slot n slot is =
    of_node n ∙ ap (λ k. number_kind_tree k n.id) (is ∙ sym (rolls-Slot slot))
    ∙ ap (λ f. f n.id) (fold-roll-NodeKind (ℕ → NumberTree) NumberTree node_kind_part node_part (NodeKind-F.Slot slot))

pub number-spot : (n : Node) → n.kind ≡ kind.Spot → number_tree n ≡ spot_at n.id
number-spot n is =
    of_node n ∙ ap (λ k. number_kind_tree k n.id) (is ∙ sym rolls-Spot)
    ∙ ap (λ f. f n.id) (fold-roll-NodeKind (ℕ → NumberTree) NumberTree node_kind_part node_part NodeKind-F.Spot)

pub number-unary : (n : Node) (op : Unary) (side : Box Node Global) → n.kind ≡ kind.Unary op side → number_tree n ≡ unary_at n.id op (number_tree side.value)
number-unary n op side is =
    of_node n ∙ ap (λ k. number_kind_tree k n.id) (is ∙ sym (rolls-Unary op side))
    ∙ ap (λ f. f n.id) (fold-roll-NodeKind (ℕ → NumberTree) NumberTree node_kind_part node_part (NodeKind-F.Unary op side))

pub number-binary : (n : Node) (op : Binary) (left : Box Node Global) (right : Box Node Global) → n.kind ≡ kind.Binary op left right → number_tree n ≡ binary_at n.id op (number_tree left.value) (number_tree right.value)
number-binary n op left right is =
    of_node n ∙ ap (λ k. number_kind_tree k n.id) (is ∙ sym (rolls-Binary op left right))
    ∙ ap (λ f. f n.id) (fold-roll-NodeKind (ℕ → NumberTree) NumberTree node_kind_part node_part (NodeKind-F.Binary op left right))

of_test : (t : Test) → test_tree t ≡ test_kind_tree t.kind t.id t.sure
of_test = fold_out-Test (ℕ → Option Bool → TestTree) TestTree test_kind_part test_part

pub test-truth : (t : Test) (answer : Bool) → t.kind ≡ test.Truth answer
    → test_tree t ≡ truth_at t.id t.sure answer
test-truth t answer is =
    of_test t ∙ ap (λ k. test_kind_tree k t.id t.sure) (is ∙ sym (rolls-Truth answer))
    ∙ ap (λ f. f t.id t.sure) (fold-roll-TestKind (ℕ → Option Bool → TestTree) TestTree test_kind_part test_part (TestKind-F.Truth answer))

pub test-compare : (t : Test) (op : Compare) (left : Box Node Global) (right : Box Node Global) (smooth : Option Smooth) → t.kind ≡ test.Compare op left right smooth
    → test_tree t ≡ compare_at t.id t.sure op (number_tree left.value) (number_tree right.value) smooth
test-compare t op left right smooth is =
    of_test t ∙ ap (λ k. test_kind_tree k t.id t.sure) (is ∙ sym (rolls-Compare op left right smooth))
    ∙ ap (λ f. f t.id t.sure) (fold-roll-TestKind (ℕ → Option Bool → TestTree) TestTree test_kind_part test_part (TestKind-F.Compare op left right smooth))

pub test-not : (t : Test) (side : Box Test Global) → t.kind ≡ test.Not side
    → test_tree t ≡ not_at t.id t.sure (test_tree side.value)
test-not t side is =
    of_test t ∙ ap (λ k. test_kind_tree k t.id t.sure) (is ∙ sym (rolls-Not side))
    ∙ ap (λ f. f t.id t.sure) (fold-roll-TestKind (ℕ → Option Bool → TestTree) TestTree test_kind_part test_part (TestKind-F.Not side))

pub test-and : (t : Test) (left : Box Test Global) (right : Box Test Global) → t.kind ≡ test.And left right
    → test_tree t ≡ and_at t.id t.sure (test_tree left.value) (test_tree right.value)
test-and t left right is =
    of_test t ∙ ap (λ k. test_kind_tree k t.id t.sure) (is ∙ sym (rolls-And left right))
    ∙ ap (λ f. f t.id t.sure) (fold-roll-TestKind (ℕ → Option Bool → TestTree) TestTree test_kind_part test_part (TestKind-F.And left right))

pub test-or : (t : Test) (left : Box Test Global) (right : Box Test Global) → t.kind ≡ test.Or left right
    → test_tree t ≡ or_at t.id t.sure (test_tree left.value) (test_tree right.value)
test-or t left right is =
    of_test t ∙ ap (λ k. test_kind_tree k t.id t.sure) (is ∙ sym (rolls-Or left right))
    ∙ ap (λ f. f t.id t.sure) (fold-roll-TestKind (ℕ → Option Bool → TestTree) TestTree test_kind_part test_part (TestKind-F.Or left right))

pub step-assign : (slot : ℕ) (value : Node) → step_tree (step.Assign slot value) ≡ assigning slot (number_tree value)
step-assign slot value = ap step_tree (sym (rolls-Assign slot value)) ∙ fold-roll-Step StepTree step_part (Step-F.Assign slot value)

pub step-pay : (leg : ℕ) (amount : Node) → step_tree (step.Pay leg amount) ≡ paying leg (number_tree amount)
step-pay leg amount = ap step_tree (sym (rolls-Pay leg amount)) ∙ fold-roll-Step StepTree step_part (Step-F.Pay leg amount)

pub step-if : (tested : Test) (yes_part : Vec Step Global) (no_part : Vec Step Global) (changes : Vec ℕ Global) → step_tree (step.If tested yes_part no_part changes) ≡ choosing (test_tree tested) (steps_tree yes_part.items) (steps_tree no_part.items) changes.items
step-if tested yes_part no_part changes = ap step_tree (sym (rolls-If tested yes_part no_part changes)) ∙ fold-roll-Step StepTree step_part (Step-F.If tested yes_part no_part changes)

pub step-group : (steps : Vec Step Global) → step_tree (step.Group steps) ≡ grouping (steps_tree steps.items)
step-group steps = ap step_tree (sym (rolls-Group steps)) ∙ fold-roll-Step StepTree step_part (Step-F.Group steps)
