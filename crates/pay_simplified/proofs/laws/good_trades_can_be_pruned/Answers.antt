use Rattle.pay_simplified.proofs.GoodLemmas.{good_trades_can_be_pruned}
use Rattle.pay_simplified.proofs.laws.good_trades_can_be_pruned.Goals as goal

pub returns : goal.returns
returns c = good_trades_can_be_pruned
