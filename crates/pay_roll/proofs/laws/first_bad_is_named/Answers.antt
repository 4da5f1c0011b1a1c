use Rattle.pay_roll.proofs.RollLaws.{bad-named}
use Rattle.pay_roll.proofs.laws.first_bad_is_named.Goals as goal

pub returns : goal.returns
returns c = bad-named
