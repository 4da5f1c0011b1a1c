use Rattle.pay_fixed.proofs.Rounding.{round_is_rounded}
use Rattle.pay_fixed.proofs.laws.round_is_nearest.Goals as goal

pub returns : goal.returns
returns c = round_is_rounded
