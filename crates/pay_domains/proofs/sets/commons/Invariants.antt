use Rattle.std.proofs.Common.{◌≡◌, ◌++◌, drop}
use Rattle.std.specs.List.{flat_map}
use Rattle.pay_domains.specs.Operators.{common}
use Rattle.pay_domains.proofs.sets.commons.Given as goal

-- what is left, after what was added
abbrev pub invariant-loop-piece : goal.invariant-loop-piece
invariant-loop-piece l =
    l.pieces.items ++ flat_map (λ p. flat_map (common p) l.right) (drop l.piece-index l.left) ≡ flat_map (λ p. flat_map (common p) l.right) l.left
