use Rattle.pay_simplified.proofs.PrunedLemmas.{pruned_simplified}
use Rattle.pay_simplified.proofs.laws.pruned_is_simplified.Goals as goal

pub returns : goal.returns
returns c = pruned_simplified c.marks_are_own.ensures
