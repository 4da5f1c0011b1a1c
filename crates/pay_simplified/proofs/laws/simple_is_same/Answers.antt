use Rattle.pay_simplified.proofs.EffectLemmas.{simple_is_same}
use Rattle.pay_simplified.proofs.laws.simple_is_same.Goals as goal

pub returns : goal.returns
returns c = simple_is_same
