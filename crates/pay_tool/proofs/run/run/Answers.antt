-- A report that was put is the answer, and an input that ended a run is the cause of its exit.
use Rattle.std.proofs.Common.{◌≡◌, Option, Some, None, refl, ap}
use Rattle.std.specs.Borrow.{Bor}
use Rattle.std.specs.Option.{option_copied}
use Rattle.pay_inputs.specs.declared.past.PastFixings.{PastFixings}
use Rattle.pay_inputs.specs.PastViews.{known_past, lent_past}
use Rattle.pay_words.specs.Requests.{run}
use Rattle.pay_words.specs.RequestViews.{run_words}
use Rattle.pay_tool.proofs.Ended.{report_given}
use Rattle.pay_tool.proofs.run.run.Goals as goal

-- past fixings that are lent are those that are known
lent_known : (lent : Option (Bor PastFixings)) (past : Option PastFixings) → option_copied lent ≡ past → lent_past lent ≡ known_past past
lent_known None past same = ap known_past same
lent_known (Some one) past same = ap known_past same

pub returns-in-Ok-put_report-clause-caused : goal.returns-in-Ok-put_report-clause-caused
returns-in-Ok-put_report-clause-caused g c =
    let same = lent_known _ c.in-Ok.inputs.past c.as_ref.ensures.value in
    (refl, report_given (run (run_words c.args.words)) _ _ _ _ c.in-Ok.ensures.accepted (rw same at c.in-Ok-put_report.ensures.ok))

pub put_report-requires : goal.put_report-requires
put_report-requires g c =
    let same = lent_known _ c.in-Ok.inputs.past c.as_ref.ensures.value in
    record { good_trade = c.in-Ok.ensures.good_trade; good_past = rw same c.in-Ok.ensures.good_past; good = c.in-Ok.ensures.good }

pub returns-in-Err-clause-caused : goal.returns-in-Err-clause-caused
returns-in-Err-clause-caused g c = c.in-Err.ensures.stopped (g.O.Sink.text c.args.out.now) (g.O.Sink.faults c.args.out.now)
