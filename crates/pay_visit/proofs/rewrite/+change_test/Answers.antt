use Rattle.std.proofs.Common.{refl, sym, ap, ◌∙◌}
use Rattle.pay_tree.specs.OwnedViews.{test_tree}
use Rattle.pay_visit.specs.Rewriting.{rewritten_test}
use Rattle.pay_tree.proofs.OwnedLemmas.{test-truth, test-compare, test-not, test-and, test-or}
use Rattle.pay_visit.proofs.RewritingLemmas.{compare_changed, not_changed, and_changed, or_changed}
use Rattle.pay_visit.proofs.rewrite.+change_test.Goals.{in-Truth, in-Compare, in-Not, in-And, in-Or}
use Rattle.pay_visit.proofs.rewrite.+change_test.Goals as goal

pub returns : goal.returns
returns g t c =
    let change = g.R.Rewriter.change c.args.with.now in
    let old = c.args.test.now in
    record {
      changed = elim c.match-test.branch [
        | in-Truth w ↦
            let is = test-truth old _ w.in-Truth.is in
            c.test.ensures ∙ ap change.test (ap test_tree w.test-is ∙ is) ∙ sym (ap (rewritten_test change) is)
        | in-Compare w ↦
            compare_changed change c.test.ensures (ap test_tree w.test-is ∙ test-compare _ _ _ _ _ refl) (test-compare old _ _ _ _ w.in-Compare.is)
            (rw w.deref_mut.ensures.value at w.change_node.ensures.changed)
            (rw w.deref_mut-in-Compare.ensures.value at w.change_node-in-Compare.ensures.changed)
        | in-Not w ↦
            not_changed change c.test.ensures (ap test_tree w.test-is ∙ test-not _ _ refl) (test-not old _ w.in-Not.is)
            (rw w.deref_mut-in-Not.ensures.value at w.change_test.ensures.changed)
        | in-And w ↦
            and_changed change c.test.ensures (ap test_tree w.test-is ∙ test-and _ _ _ refl) (test-and old _ _ w.in-And.is)
            (rw w.deref_mut-in-And.ensures.value at w.change_test-in-And.ensures.changed)
            (rw w.deref_mut-in-And-2.ensures.value at w.change_test-in-And-2.ensures.changed)
        | in-Or w ↦
            or_changed change c.test.ensures (ap test_tree w.test-is ∙ test-or _ _ _ refl) (test-or old _ _ w.in-Or.is)
            (rw w.deref_mut-in-Or.ensures.value at w.change_test-in-Or.ensures.changed)
            (rw w.deref_mut-in-Or-2.ensures.value at w.change_test-in-Or-2.ensures.changed)
      ];
    }
