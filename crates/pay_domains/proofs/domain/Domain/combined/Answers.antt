use Rattle.std.proofs.Common.{◌≡◌, ◌∙◌, ap, List, Bool, false}
use Rattle.pay_domains.specs.declared.piece.Piece.{Piece}
use Rattle.pay_domains.specs.declared.ranged.Ranged.{Ranged}
use Rattle.pay_domains.specs.Pieces.{normal}
use Rattle.pay_domains.specs.Operators.{clipped, spans, right_pieces, reach}
use Rattle.pay_domains.specs.Pairs.{meant}
use Rattle.pay_domains.proofs.NormalLaws.{canonical_proper}
use Rattle.pay_domains.proofs.OperatorLaws.{flat_proper, clipped_proper}
use Rattle.pay_domains.proofs.SetLaws.{reach_between}
use Rattle.pay_domains.proofs.PairLemmas.{raws_bounded}
use Rattle.pay_domains.proofs.domain.Domain.combined.Goals as goal

pub add_results-requires-clause-proper : goal.add_results-requires-clause-proper
add_results-requires-clause-proper c = rw c.pieces-right.ensures.same (canonical_proper c.args.other.now c.pieces-right.ensures.domain.rises)

pub of-requires-clause-proper : goal.of-requires-clause-proper
of-requires-clause-proper c =
    let op = meant c.args.operator in
    rw (c.in_ok-overflow.ensures.pieces, c.in_ok-pieces.ensures.items)
    (flat_proper clipped clipped_proper (spans op c.pieces-left.result.now (right_pieces op c.pieces-right.result.now)))

pub of-requires-clause-bounded : goal.of-requires-clause-bounded
unfolding reach
of-requires-clause-bounded c =
    rw (c.in_ok-overflow.ensures.pieces, c.in_ok-pieces.ensures.items)
    (raws_bounded (reach (meant c.args.operator) c.pieces-left.result.now c.pieces-right.result.now).domain
    (reach_between (meant c.args.operator) c.pieces-left.result.now c.pieces-right.result.now))

-- a result and its flags by their parts
ranged : (a b : List Piece) (d e f g : Bool) → a ≡ b → d ≡ e → f ≡ g
    → ◌≡◌ {A = Ranged} (record { domain = a; flags = record { overflow = d; zero = f; missing = false } })
    (record { domain = b; flags = record { overflow = e; zero = g; missing = false } })
ranged a b d e f g h k l = λ i. record { domain = h i; flags = record { overflow = k i; zero = l i; missing = false } }

pub returns-clause-same : goal.returns-clause-same
unfolding reach
returns-clause-same c =
    let items = ap normal (rw c.in_ok-pieces.ensures.items at c.in_ok-overflow.ensures.pieces) in
    rw (← c.pieces-left.ensures.same, ← c.pieces-right.ensures.same)
    (ranged _ _ _ _ _ _ (c.in_ok-domain.ensures ∙ items) c.in_ok-overflow.ensures.beyond c.can_divide_by_zero-zero.ensures)

pub returns-clause-within : goal.returns-clause-within
unfolding reach
returns-clause-within c =
    rw (c.in_ok-domain.ensures, c.in_ok-overflow.ensures.pieces, c.in_ok-pieces.ensures.items)
    (reach_between (meant c.args.operator) c.pieces-left.result.now c.pieces-right.result.now)
