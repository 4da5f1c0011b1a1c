use Rattle.std.proofs.Common.{◌≡◌, ◌++◌, ◌||◌, map, drop}
use Rattle.std.specs.List.{flat_map, list_any}
use Rattle.pay_domains.specs.Operators.{span, clipped, is_beyond}
use Rattle.pay_domains.specs.Pairs.{meant}
use Rattle.pay_domains.proofs.pairs.add_row.Given as goal

-- what is left, after what was added
abbrev pub invariant-loop-piece : goal.invariant-loop-piece
invariant-loop-piece l = record {
  pieces : l.into.items ++ flat_map clipped (map (span (meant l.operator) l.left) (drop l.piece-index l.right))
      ≡ l.fn.into.items ++ flat_map clipped (map (span (meant l.operator) l.left) l.right);
  beyond : (l.beyond || list_any is_beyond (map (span (meant l.operator) l.left) (drop l.piece-index l.right)))
      ≡ list_any is_beyond (map (span (meant l.operator) l.left) l.right);
}
