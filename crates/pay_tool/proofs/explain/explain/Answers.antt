-- A text that was put is the answer, and one that was not put whole has the cause of its exit.
use Rattle.std.proofs.Common.{Err, refl, ap}
use Rattle.pay_inputs.specs.TradeViews.{trade}
use Rattle.pay_words.specs.Requests.{explain_of}
use Rattle.pay_tool.specs.Causes.{ends_of}
use Rattle.pay_tool.proofs.Ended.{report_given, report_stopped}
use Rattle.pay_tool.proofs.OwnTermLemmas.{explained_answered}
use Rattle.pay_tool.proofs.explain.explain.Goals as goal

pub returns-in-Ok-put_explained-clause-caused : goal.returns-in-Ok-put_explained-clause-caused
returns-in-Ok-put_explained-clause-caused g c =
    let answer = explained_answered (g.D.Depot.files c.args.depot.now) c.args.script (trade c.in-Ok.found)
    (rw c.as_str.ensures.value at c.in-Ok.ensures.accepted) in
    (refl, report_given (explain_of c.args.script) _ _ _ _ answer c.in-Ok-put_explained.ensures.ok)

pub returns-clause-caused : goal.returns-clause-caused
returns-clause-caused g c =
    let answer = explained_answered (g.D.Depot.files c.args.depot.now) c.args.script (trade c.in-Ok.found)
    (rw c.as_str.ensures.value at c.in-Ok.ensures.accepted) in
    rw c.from.ensures (report_stopped (explain_of c.args.script) _ (ends_of g.D.Depot.files g.D.Depot.read_faults g.O.Sink.text g.O.Sink.faults
    c.args.depot.now c.read_script.new.depot c.args.out.now c.put_explained.new.out) c.in-Err-put_explained.stop answer
    c.in-Err-put_explained.ensures.front (λ same. c.in-Err-put_explained.ensures.failed (ap Err same)))
