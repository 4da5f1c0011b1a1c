use Rattle.std.proofs.Common.{◌≡◌, length, arith}
use Rattle.pay_machine.proofs.StackLemmas.{second_of}
use Rattle.pay_machine.proofs.stack.Stack.second.Goals as goal

pub returns : goal.returns
returns g c =
    let items = c.self.inside.items in
    let long : c.len-count.result ≡ length items.items = omega (arith, items.ok.0) in
    rw (← c.self.view_is) (second_of c.args.otherwise c.index.result.now items.items c.len-count.result long c.if-count-lt2.false c.index.ensures)
