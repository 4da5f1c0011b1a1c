use Rattle.pay_domains.proofs.NormalLaws.{normal-domain}
use Rattle.pay_domains.proofs.laws.normal_is_domain.Goals as goal

pub returns : goal.returns
returns c = normal-domain
