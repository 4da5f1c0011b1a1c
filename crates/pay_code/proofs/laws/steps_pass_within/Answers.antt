use Rattle.pay_code.proofs.PassLaw.{steps_pass_within}
use Rattle.pay_code.proofs.laws.steps_pass_within.Goals as goal

pub returns : goal.returns
returns c = steps_pass_within
