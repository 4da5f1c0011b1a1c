use Rattle.std.proofs.Common.{◌≡◌, map, take}
use Rattle.pay_domains.specs.Operators.{turned}
use Rattle.pay_domains.proofs.sets.all_turned.Given as goal

abbrev pub invariant-loop-piece : goal.invariant-loop-piece
invariant-loop-piece l = l.all.items ≡ map turned (take l.piece-index l.pieces)
