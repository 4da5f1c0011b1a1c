use Rattle.pay_domains.proofs.NormalLaws.{canonical-unique}
use Rattle.pay_domains.proofs.laws.canonical_is_unique.Goals as goal

pub returns : goal.returns
returns c = canonical-unique
