use Rattle.std.proofs.Common.{◌≡◌, ◌<◌, length, get_or, sym, ap, subst, ◌∙◌, arith}
use Rattle.pay_code.specs.Programs.{IsGoodOp}
use Rattle.pay_machine.proofs.Underway.{good_op, keeps_underway}
use Rattle.pay_machine.proofs.work.Work.execute.Goals as goal

pub step-requires-clause-good : goal.step-requires-clause-good
step-requires-clause-good c =
    let under : c.loop-at.at < length c.args.program.now.code = omega arith in
    let stands : c.index-ops-at.result ≡ get_or c.args.program.now.code c.loop-at.at c.index-ops-at.result =
    c.index-ops-at.is ∙ ap (λ ops. get_or ops c.loop-at.at c.index-ops-at.result) c.ops-ops.ensures.ops in
    subst IsGoodOp (sym stands) (good_op c.args.program.now.code c.loop-at.at c.index-ops-at.result c.ops-ops.ensures.good under)

pub loop-at-preserved : goal.loop-at-preserved
loop-at-preserved c =
    let under : c.loop-at.at < length c.args.program.now.code = omega arith in
    let stands : c.index-ops-at.result ≡ get_or c.args.program.now.code c.loop-at.at c.index-ops-at.result =
    c.index-ops-at.is ∙ ap (λ ops. get_or ops c.loop-at.at c.index-ops-at.result) c.ops-ops.ensures.ops in
    keeps_underway c.args.program.now c.args.cells.now c.args.self.now c.args.payments.now c.loop-at.at c.in_ok-past.past c.index-ops-at.result
    c.loop-at.self c.step.new.self c.loop-at.payments c.step.new.payments c.steps_add_at_most.ensures c.loop-at.invariant under stands
    c.in_ok-past.ensures.stepped c.in_ok-past.ensures.keeps
