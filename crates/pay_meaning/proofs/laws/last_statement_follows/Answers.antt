use Rattle.pay_meaning.proofs.ConditionLaws.{last-follows}
use Rattle.pay_meaning.proofs.laws.last_statement_follows.Goals as goal

pub returns : goal.returns
returns c = last-follows
