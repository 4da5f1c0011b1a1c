use Rattle.pay_fixed.proofs.AsSpelled.{decimal_is_spelled}
use Rattle.pay_fixed.proofs.laws.decimal_is_spelled.Goals as goal

pub returns : goal.returns
returns c = decimal_is_spelled
