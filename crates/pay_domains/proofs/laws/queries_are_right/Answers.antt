use Rattle.pay_domains.proofs.QueryLaws.{queries-right}
use Rattle.pay_domains.proofs.laws.queries_are_right.Goals as goal

pub returns : goal.returns
returns c = queries-right
