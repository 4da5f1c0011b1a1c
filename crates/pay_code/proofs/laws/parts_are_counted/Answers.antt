use Rattle.pay_code.proofs.PartsLaw.{parts_are_counted}
use Rattle.pay_code.proofs.laws.parts_are_counted.Goals as goal

pub returns : goal.returns
returns c = parts_are_counted
