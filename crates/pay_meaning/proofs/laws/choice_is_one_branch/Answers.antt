use Rattle.pay_meaning.proofs.ConditionLaws.{choice-branch}
use Rattle.pay_meaning.proofs.laws.choice_is_one_branch.Goals as goal

pub returns : goal.returns
returns c = choice-branch
