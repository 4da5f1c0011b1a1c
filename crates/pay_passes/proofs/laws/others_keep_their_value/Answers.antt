use Rattle.pay_passes.proofs.KeptLemmas.{others_keep}
use Rattle.pay_passes.proofs.laws.others_keep_their_value.Goals as goal

pub returns : goal.returns
returns c = others_keep
