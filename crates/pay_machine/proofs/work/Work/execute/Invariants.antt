use Rattle.std.proofs.Common.{◌-◌}
use Rattle.pay_machine.proofs.Underway.{Underway}
use Rattle.pay_machine.proofs.work.Work.execute.Given as goal

abbrev pub invariant-loop-at : goal.invariant-loop-at
invariant-loop-at l = Underway l.program l.cells l.fn.self l.fn.payments l.at l.self l.payments

abbrev pub decreases-loop-at : goal.decreases-loop-at
decreases-loop-at l = l.last - l.at
