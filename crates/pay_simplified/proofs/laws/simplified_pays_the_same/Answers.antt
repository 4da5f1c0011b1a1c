use Rattle.pay_simplified.proofs.EffectLemmas.{simplified_pays_the_same}
use Rattle.pay_simplified.proofs.laws.simplified_pays_the_same.Goals as goal

pub returns : goal.returns
returns c = simplified_pays_the_same
