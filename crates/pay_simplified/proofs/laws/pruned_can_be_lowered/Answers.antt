use Rattle.pay_simplified.proofs.LoweringLemmas.{pruned_can_be_lowered}
use Rattle.pay_simplified.proofs.laws.pruned_can_be_lowered.Goals as goal

pub returns : goal.returns
returns c = pruned_can_be_lowered
