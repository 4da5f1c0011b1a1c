-- One `not` more is applied.
use Rattle.std.proofs.Common.{arith}
use Rattle.pay_tree.specs.Views.{condition}
use Rattle.pay_place.proofs.NotLemmas.{negated_drop}
use Rattle.pay_place.proofs.logic.negated_by.Goals as goal

pub loop-preserved : goal.loop-preserved
loop-preserved c =
    let e = negated_drop c.args.nots.now c.loop.index (condition c.loop.condition) (omega arith) in
    cc (c.loop.invariant, c.in_ok-condition.ensures)
