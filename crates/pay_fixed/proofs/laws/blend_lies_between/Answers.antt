use Rattle.pay_fixed.proofs.Blends.{blend_lies_between}
use Rattle.pay_fixed.proofs.laws.blend_lies_between.Goals as goal

pub returns : goal.returns
returns c = blend_lies_between
