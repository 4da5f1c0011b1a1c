use Rattle.pay_meaning.proofs.ConditionLaws.{compared-decides}
use Rattle.pay_meaning.proofs.laws.comparison_is_true_where_it_holds.Goals as goal

pub returns : goal.returns
returns c = compared-decides
