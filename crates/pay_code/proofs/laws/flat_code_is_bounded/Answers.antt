use Rattle.pay_code.proofs.FlatBounds.{flat_code_is_bounded}
use Rattle.pay_code.proofs.laws.flat_code_is_bounded.Goals as goal

pub returns : goal.returns
returns c = flat_code_is_bounded
