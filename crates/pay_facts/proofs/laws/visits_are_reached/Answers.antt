use Rattle.pay_facts.proofs.EventLemmas.{visits_are_reached}
use Rattle.pay_facts.proofs.laws.visits_are_reached.Goals as goal

pub returns : goal.returns
returns c = visits_are_reached
