use Rattle.std.proofs.Common.{◌≡◌, ◌∙◌}
use Rattle.std.specs.List.{All, flat_map}
use Rattle.pay_domains.specs.Operators.{parts_beside_zero}
use Rattle.pay_domains.specs.Pairs.{HasNoZero}
use Rattle.pay_domains.proofs.PairLemmas.{parts_no_zero}
use Rattle.pay_domains.proofs.pairs.add_results.Goals as goal

pub add_rows-requires : goal.add_rows-requires
add_rows-requires c =
    let parts : c.deref.result.now ≡ flat_map parts_beside_zero c.args.right.now = c.deref.ensures.value ∙ c.in_ok-parts.ensures in
    let apart : All HasNoZero c.deref.result.now = rw parts (parts_no_zero c.args.right.now c.requires.proper) in
    λ k d within quotient. apart k d within
