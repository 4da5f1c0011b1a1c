use Rattle.std.proofs.Common.{pos, neg_ℤ, ◌*◌, ap, ◌∙◌}
use Rattle.pay_fixed.specs.Round.{limit}
use Rattle.pay_domains.specs.Pieces.{normal}
use Rattle.pay_domains.specs.Operators.{lowest, highest, met}
use Rattle.pay_domains.proofs.SetLaws.{met_pieces_proper, met_between}
use Rattle.pay_domains.proofs.domain.Domain.meet.Goals as goal

pub of-requires-clause-proper : goal.of-requires-clause-proper
of-requires-clause-proper c = rw c.in_ok-pieces.ensures (met_pieces_proper c.pieces.result.now c.pieces-2.result.now)

pub of-requires-clause-bounded : goal.of-requires-clause-bounded
unfolding met
of-requires-clause-bounded c =
    rw (c.in_ok-pieces.ensures, c.pieces.ensures.same, c.pieces-2.ensures.same)
    (met_between (neg_ℤ (pos (2 * limit))) (pos (2 * limit)) c.args.self.now c.args.other.now c.pieces.ensures.bounded)

pub returns-clause-same : goal.returns-clause-same
unfolding met
returns-clause-same c = rw (← c.pieces.ensures.same, ← c.pieces-2.ensures.same) (c.in_ok-domain.ensures ∙ ap normal c.in_ok-pieces.ensures)

pub returns-clause-within : goal.returns-clause-within
unfolding met
returns-clause-within c =
    λ left.
    rw (c.in_ok-domain.ensures, c.in_ok-pieces.ensures, c.pieces.ensures.same, c.pieces-2.ensures.same)
    (met_between lowest highest c.args.self.now c.args.other.now left)
