use Rattle.std.proofs.Common.{pos, neg_ℤ, ◌*◌, ap, ◌∙◌}
use Rattle.pay_fixed.specs.Round.{limit}
use Rattle.pay_domains.specs.Pieces.{normal}
use Rattle.pay_domains.specs.Operators.{lowest, highest, united}
use Rattle.pay_domains.proofs.NormalLaws.{canonical_proper}
use Rattle.pay_domains.proofs.OperatorLaws.{append_proper}
use Rattle.pay_domains.proofs.SetLaws.{united_between}
use Rattle.pay_domains.proofs.domain.Domain.union.Goals as goal

pub of-requires-clause-proper : goal.of-requires-clause-proper
of-requires-clause-proper c =
    let left = canonical_proper c.args.self.now c.pieces.ensures.domain.rises in
    let right = canonical_proper c.args.other.now c.pieces-2.ensures.domain.rises in
    rw (c.in_ok-pieces.ensures, c.pieces.ensures.same, c.pieces-2.ensures.same) (append_proper c.args.self.now c.args.other.now left right)

pub of-requires-clause-bounded : goal.of-requires-clause-bounded
unfolding united
of-requires-clause-bounded c =
    rw (c.in_ok-pieces.ensures, c.pieces.ensures.same, c.pieces-2.ensures.same)
    (united_between (neg_ℤ (pos (2 * limit))) (pos (2 * limit)) c.args.self.now c.args.other.now c.pieces.ensures.bounded c.pieces-2.ensures.bounded)

pub returns-clause-same : goal.returns-clause-same
unfolding united
returns-clause-same c = rw (← c.pieces.ensures.same, ← c.pieces-2.ensures.same) (c.in_ok-domain.ensures ∙ ap normal c.in_ok-pieces.ensures)

pub returns-clause-within : goal.returns-clause-within
unfolding united
returns-clause-within c =
    λ left right.
    rw (c.in_ok-domain.ensures, c.in_ok-pieces.ensures, c.pieces.ensures.same, c.pieces-2.ensures.same)
    (united_between lowest highest c.args.self.now c.args.other.now left right)
