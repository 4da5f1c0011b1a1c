-- Whether a condition is decided under facts, the faults that it can have, and whether the fixing is known to be there once it was evaluated.
use Rattle.std.specs.Prelude.{ℤ, int_lt, int_le, Bool, true, false, not, List, [], ◌∷◌, Option, Some, None, if◌then◌else◌}
use Rattle.std.specs.Option.{option_map}
use Rattle.std.specs.Int.{int_min, int_max}
use Rattle.std.specs.Ordering.{int_eq}
use Rattle.pay_meaning.specs.Language.{Comparison, less, at_most, greater, at_least, equals, differs, Event}
use Rattle.pay_meaning.specs.Language.{Condition, compare, negation, conjunction, disjunction, settled, sure}
use Rattle.pay_domains.specs.declared.piece.Piece.{Piece}
use Rattle.pay_domains.specs.declared.flags.Flags.{Flags}
use Rattle.pay_domains.specs.Operators.{no_flags, with_flags, met}
use Rattle.pay_domains.specs.Queries.{is_none, point_of}
use Rattle.pay_facts.specs.Facts.{Domains}
use Rattle.pay_facts.specs.Ranges.{Range, range}

-- what a condition can give: its truth, where it is decided; its faults; and whether the fixing is known to be there afterwards
pub record Decision : Type 0 where
  pub answer : Option Bool
  pub flags : Flags
  pub known : Bool

-- the least and the greatest raw of a piece and of those beside it
abbrev pub least_raw : Piece → List Piece → ℤ
least_raw p [] = p.low
least_raw p (q ∷ rest) = int_min p.low (least_raw q rest)

abbrev pub greatest_raw : Piece → List Piece → ℤ
greatest_raw p [] = p.high
greatest_raw p (q ∷ rest) = int_max p.high (greatest_raw q rest)

-- decided, where one of two tests shows it
abbrev pub decided : Bool → Bool → Option Bool
decided is_true is_false = if is_true then Some true else (if is_false then Some false else None)

-- two raws that are known, and the same
abbrev pub is_same_point : Option ℤ → Option ℤ → Bool
is_same_point None other = false
is_same_point (Some x) None = false
is_same_point (Some x) (Some y) = int_eq x y

-- two domains have no raw in common
abbrev pub are_apart : List Piece → List Piece → Bool
are_apart a b = is_none (met a b)

-- a comparison of raws from these least to these greatest ones
abbrev pub compared_ends : Comparison → ℤ → ℤ → ℤ → ℤ → Bool → Bool → Option Bool
compared_ends less a a' b b' same apart = decided (int_lt a' b) (int_le b' a)
compared_ends at_most a a' b b' same apart = decided (int_le a' b) (int_lt b' a)
compared_ends greater a a' b b' same apart = decided (int_lt b' a) (int_le a' b)
compared_ends at_least a a' b b' same apart = decided (int_le b' a) (int_lt a' b)
compared_ends equals a a' b b' same apart = decided same apart
compared_ends differs a a' b b' same apart = decided apart same

-- the truth of a comparison of two domains, where all their raws agree on it; of an empty one it is open
abbrev pub comparison_answer : Comparison → List Piece → List Piece → Option Bool
comparison_answer op [] b = None
comparison_answer op (p ∷ a) [] = None
comparison_answer op (p ∷ a) (q ∷ b) =
    compared_ends op (least_raw p a) (greatest_raw p a) (least_raw q b) (greatest_raw q b)
    (is_same_point (point_of (p ∷ a)) (point_of (q ∷ b))) (are_apart (p ∷ a) (q ∷ b))

-- a comparison of two numbers
abbrev pub comparison_decision : Comparison → Range → Range → Decision
comparison_decision op left right = record {
  answer = comparison_answer op left.domain right.domain;
  flags = with_flags left.flags right.flags;
  known = right.known;
}

-- a condition with the other answer
abbrev pub turned_decision : Decision → Decision
turned_decision side = record { answer = option_map not side.answer; flags = side.flags; known = side.known }

-- the answer false alone, and the answer true alone; anything else is open
abbrev pub only_false : Option Bool → Option Bool
only_false None = None
only_false (Some true) = None
only_false (Some false) = Some false

abbrev pub only_true : Option Bool → Option Bool
only_true None = None
only_true (Some true) = Some true
only_true (Some false) = None

-- `and`, by the answer of its left side: after a false one the right side is not reached; after a true one it decides; after an open one it may be
-- skipped, so that the fixing is known to be there only as after the left side
abbrev pub and_by : Option Bool → Decision → Decision → Decision
and_by (Some false) left right = left
and_by (Some true) left right = record { answer = right.answer; flags = with_flags left.flags right.flags; known = right.known }
and_by None left right = record { answer = only_false right.answer; flags = with_flags left.flags right.flags; known = left.known }

-- `or`, by the answer of its left side
abbrev pub or_by : Option Bool → Decision → Decision → Decision
or_by (Some true) left right = left
or_by (Some false) left right = record { answer = right.answer; flags = with_flags left.flags right.flags; known = right.known }
or_by None left right = record { answer = only_true right.answer; flags = with_flags left.flags right.flags; known = left.known }

abbrev pub and_decision : Decision → Decision → Decision
and_decision left right = and_by left.answer left right

abbrev pub or_decision : Decision → Decision → Decision
or_decision left right = or_by left.answer left right

-- a condition whose answer is told
abbrev pub told_decision : Bool → Decision → Decision
told_decision answer side = record { answer = Some answer; flags = side.flags; known = side.known }

-- the decision of a condition of an event, where the variables can have these raws and the fixing is perhaps known to be there
abbrev pub decide : Condition → Domains → Bool → Event → Decision
decide (compare op left right note) domains known event =
    comparison_decision op (range left domains known event) (range right domains (range left domains known event).known event)
decide (negation side) domains known event = turned_decision (decide side domains known event)
decide (conjunction left right) domains known event =
    and_decision (decide left domains known event) (decide right domains (decide left domains known event).known event)
decide (disjunction left right) domains known event =
    or_decision (decide left domains known event) (decide right domains (decide left domains known event).known event)
decide (settled answer) domains known event = record { answer = Some answer; flags = no_flags; known = known }
decide (sure answer side) domains known event = told_decision answer (decide side domains known event)
