use Rattle.std.proofs.Common.{◌≡◌, rules, Some, to_z, of_z, w64, ◌∙◌}
use Rattle.pay_domains.specs.Pieces.{from_to}
use Rattle.pay_ranges.proofs.EndLemmas.{ends_rise}
use Rattle.pay_ranges.proofs.comparison.ends.Goals as goal

pub returns : goal.returns
returns c =
    let low : to_z w64 (of_z w64 c.in_ok-first.first.now.low) ≡ c.in_ok-first.first.now.low = search rules in
    let high : to_z w64 (of_z w64 c.in_ok-last.last.now.high) ≡ c.in_ok-last.last.now.high = search rules in
    (λ i. Some (from_to (low i) (high i)))
    ∙ ends_rise c.args.pieces.now c.in_ok-first.first.now c.in_ok-last.last.now c.requires.rises c.in_ok-first.ensures.value c.in_ok-last.ensures.value
