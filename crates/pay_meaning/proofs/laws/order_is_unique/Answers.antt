use Rattle.pay_meaning.proofs.EventLaws.{order-unique}
use Rattle.pay_meaning.proofs.laws.order_is_unique.Goals as goal

pub returns : goal.returns
returns c = order-unique
