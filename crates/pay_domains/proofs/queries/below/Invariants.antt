use Rattle.std.proofs.Common.{◌≡◌, drop}
use Rattle.pay_domains.specs.Queries.{or_after, last_below}
use Rattle.pay_domains.proofs.queries.below.Given as goal

-- what was found, unless there is another among what is left
abbrev pub invariant-loop-piece : goal.invariant-loop-piece
invariant-loop-piece l = or_after l.last (last_below l.limit (drop l.piece-index l.pieces)) ≡ last_below l.limit l.pieces
