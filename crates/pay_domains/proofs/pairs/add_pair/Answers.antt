use Rattle.std.proofs.Common.{rules, ◌≡◌, ◌++◌, FitsSigned, w64, ◌∙◌}
use Rattle.std.specs.Int.{w128}
use Rattle.pay_domains.specs.Operators.{exact, span, clipped, is_beyond, least_of_four, greatest_of_four}
use Rattle.pay_domains.specs.Pairs.{meant}
use Rattle.pay_domains.specs.Pieces.{from_to}
use Rattle.pay_domains.proofs.Passing.{two_passed, two_wide_passed, four_passed}
use Rattle.pay_domains.proofs.pairs.add_pair.Goals as goal

-- the least and the greatest of the corners
ends : (c : goal.After-is_beyond) → (c.least-low.result ≡ (span (meant c.args.operator) c.args.left c.args.right).low)
    × (c.greatest-high.result ≡ (span (meant c.args.operator) c.args.left c.args.right).high)
ends c =
    let f = exact (meant c.args.operator) in
    let p = c.args.left in
    let q = c.args.right in
    let pl : FitsSigned w64 p.low = search rules in
    let ph : FitsSigned w64 p.high = search rules in
    let ql : FitsSigned w64 q.low = search rules in
    let qh : FitsSigned w64 q.high = search rules in
    let fa : FitsSigned w128 c.exact-a.result = search rules in
    let fb : FitsSigned w128 c.exact-b.result = search rules in
    let fc : FitsSigned w128 c.exact-c.result = search rules in
    let fd : FitsSigned w128 c.exact-d.result = search rules in
    let a = two_passed f _ p.low q.low pl ql c.exact-a.ensures in
    let b = two_passed f _ p.low q.high pl qh c.exact-b.ensures in
    let d = two_passed f _ p.high q.low ph ql c.exact-c.ensures in
    let e = two_passed f _ p.high q.high ph qh c.exact-d.ensures in (
      four_passed least_of_four _ _ _ _ _ _ _ _ _ fa fb fc fd c.least-low.ensures a b d e,
      four_passed greatest_of_four _ _ _ _ _ _ _ _ _ fa fb fc fd c.greatest-high.ensures a b d e,
    )

pub returns-clause-pieces : goal.returns-clause-pieces
returns-clause-pieces c =
    let l : FitsSigned w128 c.least-low.result = search rules in
    let h : FitsSigned w128 c.greatest-high.result = search rules in
    let both = ends c in
    two_wide_passed (λ x y. c.args.into.now.items ++ clipped (from_to x y)) _ c.least-low.result c.greatest-high.result l h c.in_ok-add_clipped.ensures
    ∙ (λ i. c.args.into.now.items ++ clipped (from_to (both.0 i) (both.1 i)))

pub returns-clause-beyond : goal.returns-clause-beyond
returns-clause-beyond c =
    let l : FitsSigned w128 c.least-low.result = search rules in
    let h : FitsSigned w128 c.greatest-high.result = search rules in
    let both = ends c in
    two_wide_passed (λ x y. is_beyond (from_to x y)) _ c.least-low.result c.greatest-high.result l h c.is_beyond.ensures
    ∙ (λ i. is_beyond (from_to (both.0 i) (both.1 i)))
