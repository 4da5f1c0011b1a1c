use Rattle.pay_machine.proofs.NamedOutcomes.{numbers_are_names}
use Rattle.pay_machine.proofs.laws.numbers_are_names.Goals as goal

pub returns : goal.returns
returns c = numbers_are_names
