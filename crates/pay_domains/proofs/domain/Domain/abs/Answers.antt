use Rattle.std.proofs.Common.{ap, ◌∙◌}
use Rattle.pay_domains.specs.Pieces.{normal}
use Rattle.pay_domains.specs.Operators.{highest, magnitude, magnitudes}
use Rattle.pay_domains.proofs.NormalLaws.{canonical_proper}
use Rattle.pay_domains.proofs.SetLaws.{map_proper, magnitude_proper, magnitudes_between}
use Rattle.pay_domains.proofs.PairLemmas.{each_raw, raws_bounded}
use Rattle.pay_domains.proofs.domain.Domain.abs.Goals as goal

pub magnitudes-requires : goal.magnitudes-requires
magnitudes-requires c =
    rw c.pieces.ensures.same (each_raw c.args.self.now (canonical_proper c.args.self.now c.pieces.ensures.domain.rises) c.requires)

pub of-requires-clause-proper : goal.of-requires-clause-proper
of-requires-clause-proper c =
    rw (c.in_ok-pieces.ensures, c.pieces.ensures.same)
    (map_proper magnitude magnitude_proper c.args.self.now (canonical_proper c.args.self.now c.pieces.ensures.domain.rises))

pub of-requires-clause-bounded : goal.of-requires-clause-bounded
unfolding magnitudes
of-requires-clause-bounded c =
    let proper = canonical_proper c.args.self.now c.pieces.ensures.domain.rises in
    rw (c.in_ok-pieces.ensures, c.pieces.ensures.same)
    (raws_bounded (magnitudes c.args.self.now) (magnitudes_between highest c.args.self.now proper c.requires))

pub returns-clause-same : goal.returns-clause-same
unfolding magnitudes
returns-clause-same c = rw (← c.pieces.ensures.same) (c.in_ok-domain.ensures ∙ ap normal c.in_ok-pieces.ensures)

pub returns-clause-within : goal.returns-clause-within
unfolding magnitudes
returns-clause-within c =
    let proper = canonical_proper c.args.self.now c.pieces.ensures.domain.rises in
    rw (c.in_ok-domain.ensures, c.in_ok-pieces.ensures, c.pieces.ensures.same) (magnitudes_between highest c.args.self.now proper c.requires)
