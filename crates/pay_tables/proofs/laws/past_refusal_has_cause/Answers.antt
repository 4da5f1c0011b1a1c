use Rattle.pay_tables.proofs.PastFaults.{past-refusal-has-cause}
use Rattle.pay_tables.proofs.laws.past_refusal_has_cause.Goals as goal

pub returns : goal.returns
returns c = past-refusal-has-cause
