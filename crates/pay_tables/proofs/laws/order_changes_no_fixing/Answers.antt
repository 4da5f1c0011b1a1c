use Rattle.pay_tables.proofs.OrderLaws.{order-same}
use Rattle.pay_tables.proofs.laws.order_changes_no_fixing.Goals as goal

pub returns : goal.returns
returns c = order-same
