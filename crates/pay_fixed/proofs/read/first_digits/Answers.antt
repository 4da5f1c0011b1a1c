use Rattle.pay_fixed.proofs.Capped.{first-parts}
use Rattle.pay_fixed.proofs.read.first_digits.Goals as goal

-- the digits before the point, those after it, and zeros
pub returns : goal.returns
returns c = first-parts _ _ _ _ _ _ _ _ c.min.ensures c.with_digits.ensures c.min-2.ensures c.with_digits-2.ensures c.with_zeros.ensures
