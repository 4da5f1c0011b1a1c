use Rattle.pay_inputs.proofs.TableChecks as proof
use Rattle.pay_inputs.proofs.laws.past_refusal_has_cause.Goals as goal

pub returns : goal.returns
returns c = proof.past_refusal
