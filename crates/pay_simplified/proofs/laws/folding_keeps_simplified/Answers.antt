use Rattle.pay_simplified.proofs.FoldedLemmas.{folding_keeps_simplified}
use Rattle.pay_simplified.proofs.laws.folding_keeps_simplified.Goals as goal

pub returns : goal.returns
returns c = folding_keeps_simplified
