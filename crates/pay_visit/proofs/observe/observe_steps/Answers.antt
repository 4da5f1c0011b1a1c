use Rattle.pay_visit.proofs.ShowingLemmas.{left_from, seen_more, seen_cut}
use Rattle.pay_visit.proofs.observe.observe_steps.Goals as goal

pub returns-in_err-observe_step-clause-fault : goal.returns-in_err-observe_step-clause-fault
returns-in_err-observe_step-clause-fault g c =
    let seen = g.O.Observer.seen in
    let left = left_from c.args.steps.now c.loop-step.step-index c.step-item.result c.loop-step-test.true c.step-item.is in
    seen_cut c.from_residual.result (seen c.args.with.now) (seen c.loop-step.with) (seen c.observe_step.new.with) _ _ _ _ c.loop-step.invariant left
    c.in_err-observe_step.ensures.fault

pub loop-step-preserved : goal.loop-step-preserved
loop-step-preserved g c =
    let seen = g.O.Observer.seen in
    let left = left_from c.args.steps.now c.loop-step.step-index c.step-item.result c.loop-step-test.true c.step-item.is in
    seen_more (seen c.args.with.now) (seen c.loop-step.with) (seen c.observe_step.new.with) _ _ _ _ c.loop-step.invariant left
    c.in_ok-observe_step.ensures.ok
