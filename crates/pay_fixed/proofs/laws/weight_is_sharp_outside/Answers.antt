use Rattle.pay_fixed.proofs.WeightValues.{weight_is_sharp_outside}
use Rattle.pay_fixed.proofs.laws.weight_is_sharp_outside.Goals as goal

pub returns : goal.returns
returns c = weight_is_sharp_outside
