use Rattle.pay_tables.proofs.PastLaws.{past-is-spelled}
use Rattle.pay_tables.proofs.laws.past_is_spelled.Goals as goal

pub returns : goal.returns
returns c = past-is-spelled
