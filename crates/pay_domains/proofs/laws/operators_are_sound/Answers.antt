use Rattle.pay_domains.proofs.OperatorLaws.{operators-sound}
use Rattle.pay_domains.proofs.laws.operators_are_sound.Goals as goal

pub returns : goal.returns
returns c = operators-sound
