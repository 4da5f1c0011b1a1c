use Rattle.std.proofs.Common.{refl, sym, ap, ◌∙◌, inl, length, subst, arith}
use Rattle.std.proofs.Math.ListN.{set}
use Rattle.std.proofs.lemmas.List.{take_at, length-set}
use Rattle.pay_tree.specs.declared.owned.Step.{out-Step}
use Rattle.pay_tree.specs.declared.owned.Step.TheVariants.{outs-If, outs-Group}
use Rattle.pay_tree.specs.OwnedViews.{steps_tree}
use Rattle.pay_tree.proofs.OwnedLemmas.{step-if, step-group}
use Rattle.pay_passes.specs.Changes.{choosing_some, grouping_some, AreSomeFilled}
use Rattle.pay_passes.proofs.FillingLemmas.{on_err, none_are_filled, from_all_filled, choice_filled, each_filled, some_until}
use Rattle.pay_passes.proofs.changes.+fill.Goals as goal

pub fill_step-returns-in_err-fill_changes-in-If-clause-partly : goal.fill_step-returns-in_err-fill_changes-in-If-clause-partly
fill_step-returns-in_err-fill_changes-in-If-clause-partly t c =
    let yes_filled = rw (c.in-If.is, outs-If) at c.in_err-fill_changes-in-If.ensures.partly in
    rw (c.in-If.is, outs-If, step-if, step-if) (on_err c.from_residual.result
    (choosing_some _ _ _ _ _ _ _ yes_filled (none_are_filled _) (inl refl)))

pub fill_step-returns-in_err-fill_changes-in-If-2-clause-partly : goal.fill_step-returns-in_err-fill_changes-in-If-2-clause-partly
fill_step-returns-in_err-fill_changes-in-If-2-clause-partly t c =
    let yes_filled = rw (c.in-If.is, outs-If) at c.in_ok-fill_changes-in-If.ensures.filled in
    let no_filled = rw (c.in-If.is, outs-If) at c.in_err-fill_changes-in-If-2.ensures.partly in
    rw (c.in-If.is, outs-If, step-if, step-if) (on_err c.from_residual-in_err-fill_changes-in-If-2.result
    (choosing_some _ _ _ _ _ _ _ (from_all_filled _ _ yes_filled) no_filled (inl refl)))

pub fill_step-returns-in_err-changes-in-If-clause-partly : goal.fill_step-returns-in_err-changes-in-If-clause-partly
fill_step-returns-in_err-changes-in-If-clause-partly t c =
    let yes_filled = rw (c.in-If.is, outs-If) at c.in_ok-fill_changes-in-If.ensures.filled in
    let no_filled = rw (c.in-If.is, outs-If) at c.in_ok-fill_changes-in-If-2.ensures.filled in
    rw (c.in-If.is, outs-If, step-if, step-if) (on_err c.from_residual-in_err-changes-in-If.result
    (choosing_some _ _ _ _ _ _ _ (from_all_filled _ _ yes_filled) (from_all_filled _ _ no_filled) (inl refl)))

pub fill_step-returns-in_ok-changes-in-If-clause-filled : goal.fill_step-returns-in_ok-changes-in-If-clause-filled
fill_step-returns-in_ok-changes-in-If-clause-filled t c =
    let yes_filled = rw (c.in-If.is, outs-If) at c.in_ok-fill_changes-in-If.ensures.filled in
    let no_filled = rw (c.in-If.is, outs-If) at c.in_ok-fill_changes-in-If-2.ensures.filled in
    let changes = rw (c.deref.ensures.value, c.deref-in-If.ensures.value) at c.in_ok-changes-in-If.ensures in
    rw (c.in-If.is, outs-If, step-if, step-if)
    (choice_filled _ _ _ _ _ c.in_ok-changes-in-If.field-0.items c.in-If.changes.items yes_filled no_filled changes)

pub fill_step-returns-in_err-fill_changes-in-Group-clause-partly : goal.fill_step-returns-in_err-fill_changes-in-Group-clause-partly
fill_step-returns-in_err-fill_changes-in-Group-clause-partly t c =
    let known = ap out-Step c.in-Group.is ∙ outs-Group c.in-Group.steps in
    let some = rw (c.in-Group.is, outs-Group) at c.in_err-fill_changes-in-Group.ensures.partly in
    rw (known, step-group, c.in-Group.is, step-group) (on_err c.from_residual-in_err-fill_changes-in-Group.result (grouping_some _ _ some))

pub fill_changes-returns-clause-filled : goal.fill_changes-returns-clause-filled
fill_changes-returns-clause-filled t c =
    let entered = c.deref_mut-step-items.ensures.value in
    let same = rw entered at c.loop-step.auto.step-items in
    let each = rw entered at c.loop-step.invariant.filled in
    ap steps_tree (take_at c.loop-step.step-items _ _ (c.loop-step.auto.step-items ∙ c.deref_mut-step-items.ensures.len))
    ∙ each_filled c.loop-step.step-items c.args.steps.now.items same (λ k d below. each k d (omega (arith, c.loop-step-test.false, ap length entered)))

pub fill_changes-returns-in_err-fill_step-clause-partly : goal.fill_changes-returns-in_err-fill_step-clause-partly
fill_changes-returns-in_err-fill_step-clause-partly t c =
    let entered = c.deref_mut-step-items.ensures.value in
    let items = c.loop-step.step-items in
    let at = c.loop-step.step-index in
    let same = rw entered at c.loop-step.auto.step-items in
    let each = rw entered at c.loop-step.invariant.filled in
    let unvisited = rw entered at c.loop-step.invariant.unvisited in
    let inside = rw entered at c.loop-step-test.true in
    let front = take_at (set items at c.fill_step.new.step) _ _
    (length-set items at c.fill_step.new.step ∙ c.loop-step.auto.step-items ∙ c.deref_mut-step-items.ensures.len) in
    on_err c.from_residual.result
    (subst (λ steps. AreSomeFilled (steps_tree steps) (steps_tree c.args.steps.now.items)) (sym front)
    (some_until items c.args.steps.now.items at c.fill_step.new.step c.step-item.result same (omega (arith, same, inside)) each
    c.in_err-fill_step.ensures.partly unvisited.1))
