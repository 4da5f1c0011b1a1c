use Rattle.pay_domains.proofs.SetLaws.{sets-sound}
use Rattle.pay_domains.proofs.laws.signs_and_unions_are_sound.Goals as goal

pub returns : goal.returns
returns c = sets-sound
