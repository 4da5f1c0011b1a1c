use Rattle.std.proofs.lemmas.List.{map-append}
use Rattle.pay_machine.proofs.EventLemmas.{later_cells, later_dates}
use Rattle.pay_machine.proofs.work.Work.step.Goals as goal

pub returns-in-EndEvent-clause-stepped : goal.returns-in-EndEvent-clause-stepped
returns-in-EndEvent-clause-stepped c =
    rw (c.in-EndEvent.is, c.end_event.ensures.past, c.end_event.ensures.new, c.end_event.ensures.payments)
    (rw (later_dates c.args.self.now.event c.args.program.now.dates, later_cells c.args.self.now.event c.args.cells.now) (simp map-append))
