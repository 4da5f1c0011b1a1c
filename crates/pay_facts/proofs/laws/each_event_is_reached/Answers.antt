use Rattle.pay_facts.proofs.EventLemmas.{each_event_is_reached}
use Rattle.pay_facts.proofs.laws.each_event_is_reached.Goals as goal

pub returns : goal.returns
returns c = each_event_is_reached
