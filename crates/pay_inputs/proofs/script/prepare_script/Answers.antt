-- A script that is no trade is refused for the compiler's reason, and any other is accepted.
use Rattle.std.proofs.Common.{ap, ◌∙◌, sym}
use Rattle.std.proofs.lemmas.Result.{err_from_is_err_and}
use Rattle.pay_tree.specs.Views.{script}
use Rattle.pay_inputs.specs.Inputs.{good}
use Rattle.pay_inputs.specs.OwnTerms.{input_at_terms}
use Rattle.pay_inputs.proofs.Rolled.{preparing_stops, prepared_good}
use Rattle.pay_inputs.proofs.script.prepare_script.Goals as goal

pub returns-in_err-found-clause-refused : goal.returns-in_err-found-clause-refused
returns-in_err-found-clause-refused c =
    let p = err_from_is_err_and c.from_residual.result c.from_residual.ensures.1 in
    rw (p.1, p.2) (preparing_stops (script c.args.tree.now) c.in_err-found.field-0.0 c.in_err-found.ensures.refused)

pub returns-clause-accepted : goal.returns-clause-accepted
returns-clause-accepted c =
    ap input_at_terms (prepared_good (script c.args.tree.now) c.in_ok-found.ensures.accepted)
    ∙ (λ i. good (record {
      variables = sym c.in_ok-found.ensures.names i;
      legs = sym c.in_ok-found.ensures.legs i;
      events = sym c.in_ok-found.ensures.spelled i;
    }))
