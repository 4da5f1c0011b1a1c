use Rattle.std.proofs.Common.{◌≡◌, ◌++◌, drop}
use Rattle.std.specs.List.{flat_map}
use Rattle.pay_domains.specs.Operators.{parts_beside_zero}
use Rattle.pay_domains.proofs.pairs.divisors.Given as goal

-- what is left, after what was added
abbrev pub invariant-loop-piece : goal.invariant-loop-piece
invariant-loop-piece l = l.parts.items ++ flat_map parts_beside_zero (drop l.piece-index l.pieces) ≡ flat_map parts_beside_zero l.pieces
