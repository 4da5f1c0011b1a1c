-- What an operator makes of two domains: the raws that it can give, and the faults that it can have.
use Rattle.std.specs.Prelude.{ℤ, pos, negsuc, neg_ℤ, ◌+ℤ◌, ◌-ℤ◌, ◌*ℤ◌, int_lt, int_le, Bool, true, false, ◌||◌, ◌&&◌, List, [], ◌∷◌, ◌++◌, map}
use Rattle.std.specs.Prelude.{if◌then◌else◌}
use Rattle.std.specs.List.{flat_map, list_any}
use Rattle.std.specs.Int.{int_min, int_max}
use Rattle.pay_fixed.specs.Round.{round, limit, scale}
use Rattle.pay_meaning.specs.Language.{Operator, add, subtract, multiply, divide, least, greatest}
use Rattle.pay_domains.specs.declared.piece.Piece.{Piece}
use Rattle.pay_domains.specs.declared.flags.Flags.{Flags}
use Rattle.pay_domains.specs.declared.ranged.Ranged.{Ranged}
use Rattle.pay_domains.specs.Pieces.{from_to, normal}

-- the greatest raw, and the least
abbrev pub highest : ℤ
highest = pos limit

abbrev pub lowest : ℤ
lowest = neg_ℤ (pos limit)

-- no fault
abbrev pub no_flags : Flags
no_flags = record { overflow = false; zero = false; missing = false }

-- the flags of two parts together
abbrev pub with_flags : Flags → Flags → Flags
with_flags a b = record { overflow = a.overflow || b.overflow; zero = a.zero || b.zero; missing = a.missing || b.missing }

-- two raws under an operator, with no limit; a quotient's divisor is not 0
abbrev pub exact : Operator → ℤ → ℤ → ℤ
exact add a b = a +ℤ b
exact subtract a b = a -ℤ b
exact multiply a b = round (a *ℤ b) scale
exact divide a b = round (a *ℤ scale) b
exact least a b = int_min a b
exact greatest a b = int_max a b

-- the least and the greatest of four raws
abbrev pub least_of_four : ℤ → ℤ → ℤ → ℤ → ℤ
least_of_four a b c d = int_min (int_min a b) (int_min c d)

abbrev pub greatest_of_four : ℤ → ℤ → ℤ → ℤ → ℤ
greatest_of_four a b c d = int_max (int_max a b) (int_max c d)

-- the piece from the least to the greatest result at the ends of two pieces
abbrev pub span : Operator → Piece → Piece → Piece
span op p q = from_to
    (least_of_four (exact op p.low q.low) (exact op p.low q.high) (exact op p.high q.low) (exact op p.high q.high))
    (greatest_of_four (exact op p.low q.low) (exact op p.low q.high) (exact op p.high q.low) (exact op p.high q.high))

-- a piece, or nothing where it is empty
abbrev pub unless_empty : Piece → List Piece
unless_empty p = if int_le p.low p.high then p ∷ [] else []

-- the part of a piece within the limit of a raw
abbrev pub clipped : Piece → List Piece
clipped p = unless_empty (from_to (int_max p.low lowest) (int_min p.high highest))

-- a part of a piece lies beyond the limit
abbrev pub is_beyond : Piece → Bool
is_beyond p = int_lt p.low lowest || int_lt highest p.high

-- 0 lies in a piece
abbrev pub holds_zero : Piece → Bool
holds_zero p = int_le p.low (pos 0) && int_le (pos 0) p.high

-- the parts of a piece below 0 and above 0, of which each may be absent; the piece itself where 0 doesn't lie in it
abbrev pub parts_beside_zero : Piece → List Piece
parts_beside_zero p =
    if holds_zero p then unless_empty (from_to p.low (negsuc 0)) ++ unless_empty (from_to (pos 1) p.high) else p ∷ []

-- the operator is a quotient
abbrev pub is_quotient : Operator → Bool
is_quotient add = false
is_quotient subtract = false
is_quotient multiply = false
is_quotient divide = true
is_quotient least = false
is_quotient greatest = false

-- the pieces of the right operand: a divisor's are cut at 0
abbrev pub right_pieces : Operator → List Piece → List Piece
right_pieces op b = if is_quotient op then flat_map parts_beside_zero b else b

-- the span of each piece of one domain with each piece of another
abbrev pub spans : Operator → List Piece → List Piece → List Piece
spans op a b = flat_map (λ p. map (span op p) b) a

-- there is a piece
abbrev pub has_pieces : List Piece → Bool
has_pieces [] = false
has_pieces (p ∷ rest) = true

-- What an operator makes of two domains: the spans of their pieces within the limit. Overflow is flagged where one of them lies beyond it, and
-- ZeroDivisor where a divisor can be 0. An empty operand gives nothing, and has no flag of its own.
unfoldable pub reach : Operator → List Piece → List Piece → Ranged
reach op a b = record {
  domain = normal (flat_map clipped (spans op a (right_pieces op b)));
  flags = record {
    overflow = list_any is_beyond (spans op a (right_pieces op b));
    zero = is_quotient op && has_pieces a && list_any holds_zero b;
    missing = false;
  };
}

-- the pieces with the other sign
abbrev pub turned : Piece → Piece
turned p = from_to (neg_ℤ p.high) (neg_ℤ p.low)

-- the piece of the magnitudes of the raws of a piece
abbrev pub magnitude : Piece → Piece
magnitude p = if int_le (pos 0) p.low then p else (if int_le p.high (pos 0) then turned p else from_to (pos 0) (int_max (neg_ℤ p.low) p.high))

-- the raws of a domain with the other sign, and without their sign
unfoldable pub negated : List Piece → List Piece
negated a = normal (map turned a)

unfoldable pub magnitudes : List Piece → List Piece
magnitudes a = normal (map magnitude a)

-- the raws of either of two domains
unfoldable pub united : List Piece → List Piece → List Piece
united a b = normal (a ++ b)

-- what two pieces have in common
abbrev pub common : Piece → Piece → List Piece
common p q = unless_empty (from_to (int_max p.low q.low) (int_min p.high q.high))

-- the raws of both of two domains
unfoldable pub met : List Piece → List Piece → List Piece
met a b = normal (flat_map (λ p. flat_map (common p) b) a)
