use Rattle.std.proofs.Common.{refl, ap, ◌∙◌}
use Rattle.std.proofs.lemmas.Result.{on_ok_weaker}
use Rattle.pay_tree.specs.Owned.{paying, choosing, grouping}
use Rattle.pay_tree.specs.OwnedViews.{number_tree, test_tree, step_tree, steps_tree}
use Rattle.pay_visit.specs.Showing.{a_step_of}
use Rattle.pay_tree.proofs.OwnedLemmas.{step-assign, step-pay, step-if, step-group}
use Rattle.pay_passes.proofs.GatheringLemmas.{shown_assign, shown_nothing}
use Rattle.pay_passes.proofs.changes.AssignedObserver.step.Goals as goal

pub returns-in-Assign-clause-ok : goal.returns-in-Assign-clause-ok
returns-in-Assign-clause-ok c before same =
    let is = ap step_tree c.in-Assign.is ∙ step-assign c.in-Assign.slot c.in-Assign.value in
    rw is (on_ok_weaker c.add_slot.result (λ added. shown_assign c.args.self.now.slots.keys c.add_slot.new.slots.keys before c.in-Assign.slot
    (number_tree c.in-Assign.value) added same) c.add_slot.ensures.added)

pub returns-in-Pay-clause-ok : goal.returns-in-Pay-clause-ok
returns-in-Pay-clause-ok c before same =
    let is = ap step_tree c.in-Pay.is ∙ step-pay c.in-Pay.leg c.in-Pay.amount in
    rw is (shown_nothing c.args.self.now.slots.keys before (a_step_of (paying c.in-Pay.leg (number_tree c.in-Pay.amount))) refl same)

pub returns-in-If-clause-ok : goal.returns-in-If-clause-ok
returns-in-If-clause-ok c before same =
    let is = ap step_tree c.in-If.is ∙ step-if c.in-If.test c.in-If.yes c.in-If.no c.in-If.changes in
    rw is (shown_nothing c.args.self.now.slots.keys before
    (a_step_of (choosing (test_tree c.in-If.test) (steps_tree c.in-If.yes.items) (steps_tree c.in-If.no.items) c.in-If.changes.items)) refl same)

pub returns-in-Group-clause-ok : goal.returns-in-Group-clause-ok
returns-in-Group-clause-ok c before same =
    let is = ap step_tree c.in-Group.is ∙ step-group c.in-Group.field-0 in
    rw is (shown_nothing c.args.self.now.slots.keys before (a_step_of (grouping (steps_tree c.in-Group.field-0.items))) refl same)
