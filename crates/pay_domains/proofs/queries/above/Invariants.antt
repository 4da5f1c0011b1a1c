use Rattle.std.proofs.Common.{◌≡◌, drop}
use Rattle.pay_domains.specs.Queries.{first_above}
use Rattle.pay_domains.proofs.queries.above.Given as goal

-- what is left decides
abbrev pub invariant-loop-piece : goal.invariant-loop-piece
invariant-loop-piece l = first_above l.limit (drop l.piece-index l.pieces) ≡ first_above l.limit l.pieces
