use Rattle.pay_domains.proofs.NormalLaws.{domain-normal}
use Rattle.pay_domains.proofs.laws.domain_is_normal.Goals as goal

pub returns : goal.returns
returns c = domain-normal
