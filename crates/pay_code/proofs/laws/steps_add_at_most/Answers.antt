use Rattle.pay_code.proofs.AddLaw.{steps_add_at_most}
use Rattle.pay_code.proofs.laws.steps_add_at_most.Goals as goal

pub returns : goal.returns
returns c = steps_add_at_most
