use Rattle.pay_fixed.proofs.WeightValues.{weight_is_within}
use Rattle.pay_fixed.proofs.laws.weight_is_within.Goals as goal

pub returns : goal.returns
returns c = weight_is_within
