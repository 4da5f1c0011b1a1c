-- The places of nodes and tests of owned trees, what a test is sure of, and a test that is made sure of an answer.
use Rattle.std.proofs.Common.{◌≡◌, ℕ, Bool, Option, Some, refl, sym, ap, ◌∙◌}
use Rattle.pay_tree.specs.declared.owned.Node.{Node}
use Rattle.pay_tree.specs.declared.owned.NodeKind.TheOpen.{NodeKind-F}
use Rattle.pay_tree.specs.declared.owned.NodeKind.TheFolds.{fold_out-NodeKind, fold_out-Node}
use Rattle.pay_tree.specs.declared.owned.Test.{Test}
use Rattle.pay_tree.specs.declared.owned.TestKind.TheOpen.{TestKind-F}
use Rattle.pay_tree.specs.declared.owned.TestKind.TheFolds.{fold_out-TestKind, fold_out-Test}
use Rattle.pay_tree.specs.Owned.{NumberTree, TestTree}
use Rattle.pay_tree.specs.OwnedViews.{number_tree, number_kind_tree, node_kind_part, node_part, test_tree, test_kind_tree, test_kind_part, test_part}
use Rattle.pay_passes.specs.Folding.{place_of}
use Rattle.pay_simplified.specs.Pruning.{test_place, sure_in, told_test}

-- the number of a kind at a place has it
place_part : (kind : NodeKind-F (ℕ → NumberTree) NumberTree) (id : ℕ) → place_of (node_kind_part kind id) ≡ id
place_part (NodeKind-F.Number raw) id = refl
place_part (NodeKind-F.Slot slot) id = refl
place_part NodeKind-F.Spot id = refl
place_part (NodeKind-F.Unary op side) id = refl
place_part (NodeKind-F.Binary op left right) id = refl

-- the place of a node is its id
pub place-node : (n : Node) → place_of (number_tree n) ≡ n.id
place-node n =
    ap place_of (fold_out-Node (ℕ → NumberTree) NumberTree node_kind_part node_part n)
    ∙ ap (λ f. place_of (f n.id)) (fold_out-NodeKind (ℕ → NumberTree) NumberTree node_kind_part node_part n.kind) ∙ place_part _ n.id

-- the test of a kind at a place has it, and is sure of what it is made sure of
test_place_part : (kind : TestKind-F (ℕ → Option Bool → TestTree) TestTree) (id : ℕ) (told : Option Bool) → test_place (test_kind_part kind id told) ≡ id
test_place_part (TestKind-F.Truth answer) id told = refl
test_place_part (TestKind-F.Compare op left right smooth) id told = refl
test_place_part (TestKind-F.Not side) id told = refl
test_place_part (TestKind-F.And left right) id told = refl
test_place_part (TestKind-F.Or left right) id told = refl

sure_part : (kind : TestKind-F (ℕ → Option Bool → TestTree) TestTree) (id : ℕ) (told : Option Bool) → sure_in (test_kind_part kind id told) ≡ told
sure_part (TestKind-F.Truth answer) id told = refl
sure_part (TestKind-F.Compare op left right smooth) id told = refl
sure_part (TestKind-F.Not side) id told = refl
sure_part (TestKind-F.And left right) id told = refl
sure_part (TestKind-F.Or left right) id told = refl

told_part : (kind : TestKind-F (ℕ → Option Bool → TestTree) TestTree) (id : ℕ) (told : Option Bool) (answer : Bool)
    → test_kind_part kind id (Some answer) ≡ told_test answer (test_kind_part kind id told)
told_part (TestKind-F.Truth truth) id told answer = refl
told_part (TestKind-F.Compare op left right smooth) id told answer = refl
told_part (TestKind-F.Not side) id told answer = refl
told_part (TestKind-F.And left right) id told answer = refl
told_part (TestKind-F.Or left right) id told answer = refl

-- the test of a test is that of its kind, in its place and sure of what it is sure of
of_test : (t : Test) → test_tree t ≡ test_kind_tree t.kind t.id t.sure
of_test = fold_out-Test (ℕ → Option Bool → TestTree) TestTree test_kind_part test_part

-- the place of a test is its id
pub place-test : (t : Test) → test_place (test_tree t) ≡ t.id
place-test t =
    ap test_place (of_test t)
    ∙ ap (λ f. test_place (f t.id t.sure)) (fold_out-TestKind (ℕ → Option Bool → TestTree) TestTree test_kind_part test_part t.kind)
    ∙ test_place_part _ t.id t.sure

-- a test is sure of what its field says
pub sure-test : (t : Test) → sure_in (test_tree t) ≡ t.sure
sure-test t =
    ap sure_in (of_test t)
    ∙ ap (λ f. sure_in (f t.id t.sure)) (fold_out-TestKind (ℕ → Option Bool → TestTree) TestTree test_kind_part test_part t.kind)
    ∙ sure_part _ t.id t.sure

-- a test whose field is set to an answer is sure of it
pub told-test : (t : Test) (answer : Bool)
    → test_tree (record { id = t.id; sure = Some answer; kind = t.kind }) ≡ told_test answer (test_tree t)
told-test t answer =
    of_test (record { id = t.id; sure = Some answer; kind = t.kind })
    ∙ ap (λ f. f t.id (Some answer)) (fold_out-TestKind (ℕ → Option Bool → TestTree) TestTree test_kind_part test_part t.kind)
    ∙ told_part _ t.id t.sure answer
    ∙ ap (λ f. told_test answer (f t.id t.sure)) (sym (fold_out-TestKind (ℕ → Option Bool → TestTree) TestTree test_kind_part test_part t.kind))
    ∙ ap (told_test answer) (sym (of_test t))
