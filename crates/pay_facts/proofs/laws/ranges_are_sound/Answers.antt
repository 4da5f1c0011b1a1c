use Rattle.pay_facts.proofs.RangeLemmas.{ranges-sound}
use Rattle.pay_facts.proofs.laws.ranges_are_sound.Goals as goal

pub returns : goal.returns
returns c = ranges-sound
