use Rattle.std.proofs.Common.{◌≡◌, ◌++◌, ◌-◌, ◌≤◌, drop, length}
use Rattle.pay_domains.specs.Merging.{merged}
use Rattle.pay_domains.proofs.normal.merged.Given as goal

-- what is left, after the pieces that are done
abbrev pub invariant-loop-piece : goal.invariant-loop-piece
invariant-loop-piece l = record {
  room : length l.pieces.items ≤ 15;
  pieces : l.pieces.items ++ merged l.last (drop l.piece-index l.rest) (15 - length l.pieces.items) ≡ merged l.fn.first l.rest 15;
}
