use Rattle.pay_meaning.proofs.EventLaws.{shared-earliest}
use Rattle.pay_meaning.proofs.laws.shared_date_is_earliest.Goals as goal

pub returns : goal.returns
returns c = shared-earliest
