use Rattle.pay_facts.proofs.SlotFactLemmas.{slots_are_names}
use Rattle.pay_facts.proofs.laws.slots_are_names.Goals as goal

pub returns : goal.returns
returns c = slots_are_names
