use Rattle.pay_simplified.proofs.FillingLemmas.{filling_keeps_pruned}
use Rattle.pay_simplified.proofs.laws.filling_keeps_pruned.Goals as goal

pub returns : goal.returns
returns c = filling_keeps_pruned
