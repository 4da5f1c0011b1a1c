use Rattle.pay_runs.proofs.SlotLaw.{slots_are_names}
use Rattle.pay_runs.proofs.laws.slots_are_names.Goals as goal

pub returns : goal.returns
returns c = slots_are_names
