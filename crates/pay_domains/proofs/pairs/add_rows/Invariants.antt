use Rattle.std.proofs.Common.{◌≡◌, ◌++◌, ◌||◌, drop}
use Rattle.std.specs.List.{flat_map, list_any}
use Rattle.pay_domains.specs.Operators.{spans, clipped, is_beyond}
use Rattle.pay_domains.specs.Pairs.{meant}
use Rattle.pay_domains.proofs.pairs.add_rows.Given as goal

-- what is left, after what was added
abbrev pub invariant-loop-piece : goal.invariant-loop-piece
invariant-loop-piece l = record {
  pieces : l.into.items ++ flat_map clipped (spans (meant l.operator) (drop l.piece-index l.left) l.right)
      ≡ l.fn.into.items ++ flat_map clipped (spans (meant l.operator) l.left l.right);
  beyond : (l.beyond || list_any is_beyond (spans (meant l.operator) (drop l.piece-index l.left) l.right))
      ≡ list_any is_beyond (spans (meant l.operator) l.left l.right);
}
