use Rattle.pay_inputs.proofs.Checks as proof
use Rattle.pay_inputs.proofs.laws.script_acceptance_has_cause.Goals as goal

pub returns : goal.returns
returns c = proof.script_acceptance
