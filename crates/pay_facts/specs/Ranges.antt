-- The raws that a number can have under facts, the faults that it can have, and whether the fixing is known to be there once it was evaluated.
use Rattle.std.specs.Prelude.{ℤ, pos, neg_ℤ, Bool, true, false, not, List, [], ◌∷◌}
use Rattle.pay_meaning.specs.Language.{Operator, add, subtract, multiply, divide, least, greatest}
use Rattle.pay_meaning.specs.Language.{Number, literal, variable, spot, period, days, negative, absolute, binary, Event}
use Rattle.pay_meaning.specs.Meaning.{whole}
use Rattle.pay_domains.specs.declared.piece.Piece.{Piece}
use Rattle.pay_domains.specs.declared.flags.Flags.{Flags}
use Rattle.pay_domains.specs.declared.ranged.Ranged.{Ranged}
use Rattle.pay_domains.specs.Pieces.{from_to, point, normal}
use Rattle.pay_domains.specs.Operators.{no_flags, with_flags, spans, reach, negated, magnitudes}
use Rattle.pay_facts.specs.Facts.{Domains}

-- what a number can give: its raws, its faults, and whether the fixing is known to be there afterwards
pub record Range : Type 0 where
  pub domain : List Piece
  pub flags : Flags
  pub known : Bool

-- the greatest raw of a fixing: ten to the power of 11, in raws of 1/10,000
abbrev pub fixing_limit : ℤ
fixing_limit = pos 1_000_000_000_000_000

-- the raws that a fixing can have
abbrev pub fixings : List Piece
fixings = from_to (neg_ℤ fixing_limit) fixing_limit ∷ []

-- a raw that is known
abbrev pub exactly : ℤ → Bool → Range
exactly raw known = record { domain = point raw; flags = no_flags; known = known }

-- a fixing is missing, unless it is known to be there; afterwards it is known to be there
abbrev pub fixing_range : Bool → Range
fixing_range known =
    record { domain = fixings; flags = record { overflow = false; zero = false; missing = not known }; known = true }

-- a number whose sign is changed or left out: it has the faults of its side
abbrev pub range_of_one : (List Piece → List Piece) → Range → Range
range_of_one sign side = record { domain = sign side.domain; flags = side.flags; known = side.known }

-- the lesser or the greater of two raws: one of the two, wherever they lie, and no fault
abbrev pub picked : Operator → List Piece → List Piece → Ranged
picked op a b = record { domain = normal (spans op a b); flags = no_flags }

-- what an operator makes of two domains
abbrev pub result_of : Operator → List Piece → List Piece → Ranged
result_of add a b = reach add a b
result_of subtract a b = reach subtract a b
result_of multiply a b = reach multiply a b
result_of divide a b = reach divide a b
result_of least a b = picked least a b
result_of greatest a b = picked greatest a b

-- two numbers under an operator: it has the faults of both sides and its own
abbrev pub range_of_both : Operator → Range → Range → Range
range_of_both op left right = record {
  domain = (result_of op left.domain right.domain).domain;
  flags = with_flags (with_flags left.flags right.flags) (result_of op left.domain right.domain).flags;
  known = right.known;
}

-- the range of a number of an event, where the variables can have these raws and the fixing is perhaps known to be there
abbrev pub range : Number → Domains → Bool → Event → Range
range (literal raw) domains known event = exactly raw known
range (variable name) domains known event = record { domain = domains name; flags = no_flags; known = known }
range spot domains known event = fixing_range known
range period domains known event = exactly (whole event.period) known
range days domains known event = exactly (whole event.days) known
range (negative side) domains known event = range_of_one negated (range side domains known event)
range (absolute side) domains known event = range_of_one magnitudes (range side domains known event)
range (binary op left right) domains known event =
    range_of_both op (range left domains known event) (range right domains (range left domains known event).known event)
