use Rattle.std.proofs.Common.{ap, ◌∙◌}
use Rattle.pay_domains.specs.Pieces.{normal}
use Rattle.pay_domains.specs.Operators.{highest, turned, negated}
use Rattle.pay_domains.proofs.NormalLaws.{canonical_proper}
use Rattle.pay_domains.proofs.SetLaws.{map_proper, turned_proper, negated_between}
use Rattle.pay_domains.proofs.PairLemmas.{each_raw, raws_bounded}
use Rattle.pay_domains.proofs.domain.Domain.neg.Goals as goal

pub all_turned-requires : goal.all_turned-requires
all_turned-requires c =
    rw c.pieces.ensures.same (each_raw c.args.self.now (canonical_proper c.args.self.now c.pieces.ensures.domain.rises) c.requires)

pub of-requires-clause-proper : goal.of-requires-clause-proper
of-requires-clause-proper c =
    rw (c.in_ok-pieces.ensures, c.pieces.ensures.same)
    (map_proper turned turned_proper c.args.self.now (canonical_proper c.args.self.now c.pieces.ensures.domain.rises))

pub of-requires-clause-bounded : goal.of-requires-clause-bounded
unfolding negated
of-requires-clause-bounded c =
    let proper = canonical_proper c.args.self.now c.pieces.ensures.domain.rises in
    rw (c.in_ok-pieces.ensures, c.pieces.ensures.same)
    (raws_bounded (negated c.args.self.now) (negated_between highest c.args.self.now proper c.requires))

pub returns-clause-same : goal.returns-clause-same
unfolding negated
returns-clause-same c = rw (← c.pieces.ensures.same) (c.in_ok-domain.ensures ∙ ap normal c.in_ok-pieces.ensures)

pub returns-clause-within : goal.returns-clause-within
unfolding negated
returns-clause-within c =
    let proper = canonical_proper c.args.self.now c.pieces.ensures.domain.rises in
    rw (c.in_ok-domain.ensures, c.in_ok-pieces.ensures, c.pieces.ensures.same) (negated_between highest c.args.self.now proper c.requires)
