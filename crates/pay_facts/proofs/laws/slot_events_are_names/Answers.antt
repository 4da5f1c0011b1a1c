use Rattle.pay_facts.proofs.SlotFactLemmas.{slot_events_are_names}
use Rattle.pay_facts.proofs.laws.slot_events_are_names.Goals as goal

pub returns : goal.returns
returns c = slot_events_are_names
