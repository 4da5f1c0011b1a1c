use Rattle.pay_simplified.proofs.PrunedLemmas.{pruned_pays}
use Rattle.pay_simplified.proofs.laws.pruned_pays_the_same.Goals as goal

pub returns : goal.returns
returns c = pruned_pays c.marks_are_own.ensures
