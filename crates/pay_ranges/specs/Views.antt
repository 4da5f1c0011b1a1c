-- What the code's ranges and decisions are, and the ends of a domain.
use Rattle.std.specs.Prelude.{List, [], ◌∷◌, Option, Some, None}
use Rattle.pay_domains.specs.declared.piece.Piece.{Piece}
use Rattle.pay_domains.specs.Pieces.{from_to}
use Rattle.pay_facts.specs.Ranges.{Range}
use Rattle.pay_facts.specs.Decisions.{Decision, least_raw, greatest_raw}
use Rattle.pay_ranges.specs.declared.range.Range.{Range as RangeValue}
use Rattle.pay_ranges.specs.declared.decision.Decision.{Decision as DecisionValue}

-- what a range and a decision of the code are
abbrev pub range_of : RangeValue → Range
range_of range = record { domain = range.domain; flags = range.flags; known = range.known }

abbrev pub decision_of : DecisionValue → Decision
decision_of decision = record { answer = decision.answer; flags = decision.flags; known = decision.known }

-- the piece from the least to the greatest raw, if there is a raw
abbrev pub ends_of : List Piece → Option Piece
ends_of [] = None
ends_of (p ∷ rest) = Some (from_to (least_raw p rest) (greatest_raw p rest))
