use Rattle.pay_domains.proofs.NormalLaws.{normal-domain}
use Rattle.pay_domains.proofs.domain.Domain.of.Goals as goal

pub invariant_of-result : goal.invariant_of-result
invariant_of-result c = rw c.in_ok-pieces.ensures ((normal-domain c.args.pieces.items c.requires.proper).domain, c.requires.bounded)
