use Rattle.std.proofs.Common.{refl, sym, ap, ◌∙◌}
use Rattle.pay_tree.specs.OwnedViews.{number_tree}
use Rattle.pay_visit.specs.Rewriting.{rewritten_number}
use Rattle.pay_tree.proofs.OwnedLemmas.{number-literal, number-slot, number-spot, number-unary, number-binary}
use Rattle.pay_visit.proofs.RewritingLemmas.{unary_changed, binary_changed}
use Rattle.pay_visit.proofs.rewrite.+change_node.Goals.{in-Number, in-Slot, in-Spot, in-Unary, in-Binary}
use Rattle.pay_visit.proofs.rewrite.+change_node.Goals as goal

pub returns : goal.returns
returns g t c =
    let change = g.R.Rewriter.change c.args.with.now in
    let old = c.args.node.now in
    record {
      changed = elim c.match-node.branch [
        | in-Number w ↦
            let is = number-literal old _ w.in-Number.is in
            c.node.ensures ∙ ap change.number (ap number_tree w.node-is ∙ is) ∙ sym (ap (rewritten_number change) is)
        | in-Slot w ↦
            let is = number-slot old _ w.in-Slot.is in
            c.node.ensures ∙ ap change.number (ap number_tree w.node-is ∙ is) ∙ sym (ap (rewritten_number change) is)
        | in-Spot w ↦
            let is = number-spot old w.in-Spot.is in
            c.node.ensures ∙ ap change.number (ap number_tree w.node-is ∙ is) ∙ sym (ap (rewritten_number change) is)
        | in-Unary w ↦
            unary_changed change c.node.ensures (ap number_tree w.node-is ∙ number-unary _ _ _ refl) (number-unary old _ _ w.in-Unary.is)
            (rw w.deref_mut.ensures.value at w.change_node.ensures.changed)
        | in-Binary w ↦
            binary_changed change c.node.ensures (ap number_tree w.node-is ∙ number-binary _ _ _ _ refl) (number-binary old _ _ _ w.in-Binary.is)
            (rw w.deref_mut-in-Binary.ensures.value at w.change_node-in-Binary.ensures.changed)
            (rw w.deref_mut-in-Binary-2.ensures.value at w.change_node-in-Binary-2.ensures.changed)
      ];
    }
