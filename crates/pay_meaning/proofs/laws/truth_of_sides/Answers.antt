use Rattle.pay_meaning.proofs.ConditionLaws.{truth-sides}
use Rattle.pay_meaning.proofs.laws.truth_of_sides.Goals as goal

pub returns : goal.returns
returns c = truth-sides
