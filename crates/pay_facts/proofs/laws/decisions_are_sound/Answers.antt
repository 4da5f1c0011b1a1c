use Rattle.pay_facts.proofs.DecisionLemmas.{decisions-sound}
use Rattle.pay_facts.proofs.laws.decisions_are_sound.Goals as goal

pub returns : goal.returns
returns c = decisions-sound
