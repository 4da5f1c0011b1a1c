use Rattle.pay_runs.proofs.BlendLaw.{blend_is_by_name}
use Rattle.pay_runs.proofs.laws.blend_is_by_name.Goals as goal

pub returns : goal.returns
returns c = blend_is_by_name
