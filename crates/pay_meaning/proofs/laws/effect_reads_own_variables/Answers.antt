use Rattle.pay_meaning.proofs.VariableLaws.{effect-own}
use Rattle.pay_meaning.proofs.laws.effect_reads_own_variables.Goals as goal

pub returns : goal.returns
returns c = effect-own
