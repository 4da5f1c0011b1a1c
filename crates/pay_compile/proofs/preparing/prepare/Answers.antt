-- A script is refused by rolling, and then by indexing; any other has no refusal.
use Rattle.std.proofs.lemmas.Result.{err_from_is_err_and}
use Rattle.pay_tree.specs.Views.{script}
use Rattle.pay_compile.proofs.RefusalLemmas.{rolling_refused, indexing_refused, none_refused}
use Rattle.pay_compile.proofs.preparing.prepare.Goals as goal

pub returns-in_err-events-clause-refused : goal.returns-in_err-events-clause-refused
returns-in_err-events-clause-refused c =
    let p = err_from_is_err_and c.from_residual.result c.from_residual.ensures.1 in
    rw (p.1, p.2) (rolling_refused (script c.args.script.now) c.in_err-events.field-0.0 c.in_err-events.ensures.refused)

pub returns-in_err-index-clause-refused : goal.returns-in_err-index-clause-refused
returns-in_err-index-clause-refused c =
    let p = err_from_is_err_and c.from_residual-in_err-index.result c.from_residual-in_err-index.ensures.1 in
    rw (p.1, p.2) (indexing_refused (script c.args.script.now) c.in_err-index.field-0.0 c.in_ok-events.ensures.accepted c.in_err-index.ensures.refused)

pub returns-clause-accepted : goal.returns-clause-accepted
returns-clause-accepted c = none_refused (script c.args.script.now) c.in_ok-events.ensures.accepted c.in_ok-index.ensures.accepted
