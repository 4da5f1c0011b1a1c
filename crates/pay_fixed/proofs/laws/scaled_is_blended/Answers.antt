use Rattle.pay_fixed.proofs.Blends.{scaled_is_blended}
use Rattle.pay_fixed.proofs.laws.scaled_is_blended.Goals as goal

pub returns : goal.returns
returns c = scaled_is_blended
