-- A text that was not cut into tokens is refused for the place.
use Rattle.std.proofs.lemmas.Result.{err_from_is_err_and}
use Rattle.pay_inputs.proofs.Checks.{lexing_stops}
use Rattle.pay_inputs.proofs.script.check_script.Goals as goal

pub returns-in_err-tokens-clause-refused : goal.returns-in_err-tokens-clause-refused
returns-in_err-tokens-clause-refused c =
    let p = err_from_is_err_and c.from_residual.result c.from_residual.ensures.1 in
    rw (p.1, p.2) (lexing_stops c.args.text.now c.in_err-tokens.field-0.0 c.in_err-tokens.ensures.refused)
