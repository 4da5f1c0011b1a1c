use Rattle.pay_facts.proofs.FoldLemmas.{folded-ranges}
use Rattle.pay_facts.proofs.laws.folding_keeps_facts.Goals as goal

pub returns : goal.returns
returns c = folded-ranges
