use Rattle.pay_simplified.proofs.PrunedLemmas.{pruned_steps_simple}
use Rattle.pay_simplified.proofs.laws.pruned_steps_are_simple.Goals as goal

pub returns : goal.returns
returns c = pruned_steps_simple c.marks_are_own.ensures
