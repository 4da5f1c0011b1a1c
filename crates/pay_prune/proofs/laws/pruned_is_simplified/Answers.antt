use Rattle.pay_prune.proofs.PruneLaw.{pruned_is_simplified}
use Rattle.pay_prune.proofs.laws.pruned_is_simplified.Goals as goal

pub returns : goal.returns
returns c = pruned_is_simplified c.pruned_steps_are_simple.ensures
