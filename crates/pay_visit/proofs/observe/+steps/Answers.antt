use Rattle.std.proofs.Common.{refl, ap, ◌∙◌}
use Rattle.pay_tree.specs.OwnedViews.{step_tree}
use Rattle.pay_tree.proofs.OwnedLemmas.{step-assign, step-pay, step-if, step-group}
use Rattle.pay_visit.proofs.ShowingLemmas.{step_parts, then_ok, then_fault, then_cut, cut, later, left_from, seen_more, seen_cut}
use Rattle.pay_visit.proofs.observe.+steps.Goals as goal

pub observe_step-returns-in-Assign-clause-ok : goal.observe_step-returns-in-Assign-clause-ok
observe_step-returns-in-Assign-clause-ok g t c =
    let seen = g.O.Observer.seen in
    let is = step_parts (ap step_tree c.in-Assign.is ∙ step-assign _ _) refl in
    then_ok c.observe_node.result (seen c.args.with.now) (seen c.step.new.self) (seen c.observe_node.new.with) _ _ _ is c.in_ok-step.ensures.ok c.observe_node.ensures.ok

pub observe_step-returns-in-Assign-clause-fault : goal.observe_step-returns-in-Assign-clause-fault
observe_step-returns-in-Assign-clause-fault g t c =
    let seen = g.O.Observer.seen in
    let is = step_parts (ap step_tree c.in-Assign.is ∙ step-assign _ _) refl in
    then_fault c.observe_node.result (seen c.args.with.now) (seen c.step.new.self) (seen c.observe_node.new.with) _ _ _ is c.in_ok-step.ensures.ok c.observe_node.ensures.fault

pub observe_step-returns-in-Pay-clause-ok : goal.observe_step-returns-in-Pay-clause-ok
observe_step-returns-in-Pay-clause-ok g t c =
    let seen = g.O.Observer.seen in
    let is = step_parts (ap step_tree c.in-Pay.is ∙ step-pay _ _) refl in
    then_ok c.observe_node-in-Pay.result (seen c.args.with.now) (seen c.step.new.self) (seen c.observe_node-in-Pay.new.with) _ _ _ is c.in_ok-step.ensures.ok c.observe_node-in-Pay.ensures.ok

pub observe_step-returns-in-Pay-clause-fault : goal.observe_step-returns-in-Pay-clause-fault
observe_step-returns-in-Pay-clause-fault g t c =
    let seen = g.O.Observer.seen in
    let is = step_parts (ap step_tree c.in-Pay.is ∙ step-pay _ _) refl in
    then_fault c.observe_node-in-Pay.result (seen c.args.with.now) (seen c.step.new.self) (seen c.observe_node-in-Pay.new.with) _ _ _ is c.in_ok-step.ensures.ok c.observe_node-in-Pay.ensures.fault

pub observe_step-returns-in-Group-clause-ok : goal.observe_step-returns-in-Group-clause-ok
observe_step-returns-in-Group-clause-ok g t c =
    let seen = g.O.Observer.seen in
    let is = step_parts (ap step_tree c.in-Group.is ∙ step-group _) refl in
    then_ok c.observe_branch-in-Group.result (seen c.args.with.now) (seen c.step.new.self) (seen c.observe_branch-in-Group.new.with) _ _ _ is c.in_ok-step.ensures.ok c.observe_branch-in-Group.ensures.ok

pub observe_step-returns-in-Group-clause-fault : goal.observe_step-returns-in-Group-clause-fault
observe_step-returns-in-Group-clause-fault g t c =
    let seen = g.O.Observer.seen in
    let is = step_parts (ap step_tree c.in-Group.is ∙ step-group _) refl in
    then_fault c.observe_branch-in-Group.result (seen c.args.with.now) (seen c.step.new.self) (seen c.observe_branch-in-Group.new.with) _ _ _ is c.in_ok-step.ensures.ok c.observe_branch-in-Group.ensures.fault

pub observe_step-returns-in_err-observe_test-in-If-clause-fault : goal.observe_step-returns-in_err-observe_test-in-If-clause-fault
observe_step-returns-in_err-observe_test-in-If-clause-fault g t c =
    let seen = g.O.Observer.seen in
    let is = step_parts (ap step_tree c.in-If.is ∙ step-if _ _ _ _) refl in
    then_cut c.from_residual-in_err-observe_test-in-If.result (seen c.args.with.now) (seen c.step.new.self) (seen c.observe_test.new.with) _ _ _ is
    c.in_ok-step.ensures.ok (cut _ _ _ _ c.in_err-observe_test-in-If.ensures.fault)

pub observe_step-returns-in_err-observe_branch-in-If-clause-fault : goal.observe_step-returns-in_err-observe_branch-in-If-clause-fault
observe_step-returns-in_err-observe_branch-in-If-clause-fault g t c =
    let seen = g.O.Observer.seen in
    let is = step_parts (ap step_tree c.in-If.is ∙ step-if _ _ _ _) refl in
    then_cut c.from_residual-in_err-observe_branch-in-If.result (seen c.args.with.now) (seen c.step.new.self) (seen c.observe_branch.new.with) _ _ _ is
    c.in_ok-step.ensures.ok
    (later (seen c.step.new.self) (seen c.observe_test.new.with) (seen c.observe_branch.new.with) _ _ c.in_ok-observe_test-in-If.ensures.ok
    (cut _ _ _ _ c.in_err-observe_branch-in-If.ensures.fault))

pub observe_step-returns-in_ok-observe_branch-in-If-clause-ok : goal.observe_step-returns-in_ok-observe_branch-in-If-clause-ok
observe_step-returns-in_ok-observe_branch-in-If-clause-ok g t c =
    let seen = g.O.Observer.seen in
    let is = step_parts (ap step_tree c.in-If.is ∙ step-if _ _ _ _) refl in
    let last = c.observe_branch-in-If in
    then_ok last.result (seen c.args.with.now) (seen c.step.new.self) (seen last.new.with) _ _ _ is c.in_ok-step.ensures.ok
    (then_ok last.result (seen c.step.new.self) (seen c.observe_test.new.with) (seen last.new.with) _ _ _ refl c.in_ok-observe_test-in-If.ensures.ok
    (then_ok last.result (seen c.observe_test.new.with) (seen c.observe_branch.new.with) (seen last.new.with) _ _ _ refl
    c.in_ok-observe_branch-in-If.ensures.ok last.ensures.ok))

pub observe_step-returns-in_ok-observe_branch-in-If-clause-fault : goal.observe_step-returns-in_ok-observe_branch-in-If-clause-fault
observe_step-returns-in_ok-observe_branch-in-If-clause-fault g t c =
    let seen = g.O.Observer.seen in
    let is = step_parts (ap step_tree c.in-If.is ∙ step-if _ _ _ _) refl in
    let last = c.observe_branch-in-If in
    then_fault last.result (seen c.args.with.now) (seen c.step.new.self) (seen last.new.with) _ _ _ is c.in_ok-step.ensures.ok
    (then_fault last.result (seen c.step.new.self) (seen c.observe_test.new.with) (seen last.new.with) _ _ _ refl c.in_ok-observe_test-in-If.ensures.ok
    (then_fault last.result (seen c.observe_test.new.with) (seen c.observe_branch.new.with) (seen last.new.with) _ _ _ refl
    c.in_ok-observe_branch-in-If.ensures.ok last.ensures.fault))

pub observe_branch-returns-in_err-observe_step-clause-fault : goal.observe_branch-returns-in_err-observe_step-clause-fault
observe_branch-returns-in_err-observe_step-clause-fault g t c =
    let seen = g.O.Observer.seen in
    let items = c.deref-step-items.ensures.value in
    let left = left_from c.args.steps.now.items c.loop-step.step-index c.step-item.result (rw items at c.loop-step-test.true) (rw items at c.step-item.is) in
    seen_cut c.from_residual.result (seen c.args.with.now) (seen c.loop-step.with) (seen c.observe_step.new.with) _ _ _ _ c.loop-step.invariant left
    c.in_err-observe_step.ensures.fault

pub observe_branch-loop-step-preserved : goal.observe_branch-loop-step-preserved
observe_branch-loop-step-preserved g t c =
    let seen = g.O.Observer.seen in
    let items = c.deref-step-items.ensures.value in
    let left = left_from c.args.steps.now.items c.loop-step.step-index c.step-item.result (rw items at c.loop-step-test.true) (rw items at c.step-item.is) in
    seen_more (seen c.args.with.now) (seen c.loop-step.with) (seen c.observe_step.new.with) _ _ _ _ c.loop-step.invariant left
    c.in_ok-observe_step.ensures.ok
