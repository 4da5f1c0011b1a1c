use Rattle.pay_machine.proofs.NamedRuns.{named_run}
use Rattle.pay_machine.proofs.RunBound.{bounded_run}
use Rattle.pay_machine.proofs.machine.Machine.run.Goals as goal

pub returns-clause-bounded : goal.returns-clause-bounded
returns-clause-bounded c = let h = c.give.ensures.ran in let k = c.cells.ensures.same in
    bounded_run c.args.program.now c.args.row.now c.give.new.into (rw k at h) c.runs_are_bounded.ensures c.code_means.ensures
    c.parts_are_counted.ensures c.stands_for_events.ensures

pub returns-clause-named : goal.returns-clause-named
returns-clause-named c = let h = c.give.ensures.ran in let k = c.cells.ensures.same in
    named_run c.args.program.now c.args.row.now c.give.new.into (rw k at h)
    (bounded_run c.args.program.now c.args.row.now c.give.new.into (rw k at h) c.runs_are_bounded.ensures c.code_means.ensures
    c.parts_are_counted.ensures c.stands_for_events.ensures)
