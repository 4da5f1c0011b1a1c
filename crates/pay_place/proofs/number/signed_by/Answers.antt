-- One sign more is applied.
use Rattle.std.proofs.Common.{arith}
use Rattle.pay_tree.specs.Views.{number}
use Rattle.pay_place.proofs.SignLemmas.{signed_drop}
use Rattle.pay_place.proofs.number.signed_by.Goals as goal

pub loop-preserved : goal.loop-preserved
loop-preserved c =
    let e = signed_drop c.args.signs.now c.loop.index (number c.loop.atom) (omega arith) in
    cc (c.loop.invariant, c.in_ok-atom.ensures)
