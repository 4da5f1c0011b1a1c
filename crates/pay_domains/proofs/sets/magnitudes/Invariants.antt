use Rattle.std.proofs.Common.{◌≡◌, map, take}
use Rattle.pay_domains.specs.Operators.{magnitude}
use Rattle.pay_domains.proofs.sets.magnitudes.Given as goal

abbrev pub invariant-loop-piece : goal.invariant-loop-piece
invariant-loop-piece l = l.all.items ≡ map magnitude (take l.piece-index l.pieces)
