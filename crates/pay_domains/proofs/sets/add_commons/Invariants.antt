use Rattle.std.proofs.Common.{◌≡◌, ◌++◌, drop}
use Rattle.std.specs.List.{flat_map}
use Rattle.pay_domains.specs.Operators.{common}
use Rattle.pay_domains.proofs.sets.add_commons.Given as goal

-- what is left, after what was added
abbrev pub invariant-loop-piece : goal.invariant-loop-piece
invariant-loop-piece l =
    l.into.items ++ flat_map (common l.left) (drop l.piece-index l.right) ≡ l.fn.into.items ++ flat_map (common l.left) l.right
