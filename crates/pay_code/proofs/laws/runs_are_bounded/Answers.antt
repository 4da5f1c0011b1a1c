use Rattle.pay_code.proofs.RunBounds.{runs_are_bounded}
use Rattle.pay_code.proofs.laws.runs_are_bounded.Goals as goal

pub returns : goal.returns
returns c = runs_are_bounded
