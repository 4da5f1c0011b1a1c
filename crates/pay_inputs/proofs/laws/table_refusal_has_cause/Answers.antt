use Rattle.pay_inputs.proofs.TableChecks as proof
use Rattle.pay_inputs.proofs.laws.table_refusal_has_cause.Goals as goal

pub returns : goal.returns
returns c = proof.table_refusal
