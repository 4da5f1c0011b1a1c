use Rattle.pay_fixed.proofs.WeightValues.{rise_never_falls}
use Rattle.pay_fixed.proofs.laws.rise_never_falls.Goals as goal

pub returns : goal.returns
returns c = rise_never_falls
