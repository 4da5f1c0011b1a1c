use Rattle.std.proofs.Common.{length, ap, ◌∙◌, arith}
use Rattle.std.proofs.lemmas.List.{take_at}
use Rattle.pay_tree.specs.OwnedViews.{steps_tree}
use Rattle.pay_visit.proofs.StepLemmas.{all_rewritten}
use Rattle.pay_visit.proofs.rewrite.+steps.Goals as goal

pub change_steps-returns : goal.change_steps-returns
change_steps-returns g t c =
    let change = g.R.Rewriter.change c.args.with.now in
    let entered = c.deref_mut-step-items.ensures.value in
    let same = rw entered at c.loop-step.auto.step-items in
    let each = rw entered at c.loop-step.invariant.changed in
    record {
      changed = ap steps_tree (take_at c.loop-step.step-items _ _ (c.loop-step.auto.step-items ∙ c.deref_mut-step-items.ensures.len)) ∙ all_rewritten change c.loop-step.step-items c.args.steps.now.items same (λ k d below. each k d (omega (arith, c.loop-step-test.false, ap length entered)));
    }
