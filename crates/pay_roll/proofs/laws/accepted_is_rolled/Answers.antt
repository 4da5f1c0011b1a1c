use Rattle.pay_roll.proofs.RollLaws.{accepted-rolled}
use Rattle.pay_roll.proofs.laws.accepted_is_rolled.Goals as goal

pub returns : goal.returns
returns c = accepted-rolled
