-- What shows that these definitions are the ones meant.
use Rattle.std.specs.Prelude.{◌≡◌, ◌↔◌, ◌≤◌, ℤ, pos, neg_ℤ, ◌+ℤ◌, ◌≤ℤ◌, ◌<ℤ◌, unsigned_abs, Bool, true, false, IsTrue, List, length, Some}
use Rattle.std.specs.Prelude.{Result, Ok, Err}
use Rattle.pay_fixed.specs.Round.{IsRaw}
use Rattle.pay_meaning.specs.Language.{Operator, add, subtract, multiply, divide, least, greatest}
use Rattle.pay_meaning.specs.Meaning.{calculated}
use Rattle.pay_meaning.specs.declared.fault.FaultKind.{FaultKind}
use Rattle.pay_meaning.specs.declared.fault.FaultKind.TheVariants.{Overflow, ZeroDivisor, MissingFixing}
use Rattle.pay_domains.specs.declared.piece.Piece.{Piece}
use Rattle.pay_domains.specs.declared.flags.Flags.{Flags}
use Rattle.pay_domains.specs.declared.ranged.Ranged.{Ranged}
use Rattle.pay_domains.specs.Pieces.{Held, AreProper, IsCanonical, IsDomain, AreBetween, most_pieces, in_order, all_joined, normal}
use Rattle.pay_domains.specs.Operators.{reach, negated, magnitudes, united, met, lowest, highest}
use Rattle.pay_domains.specs.Queries.{is_held, is_none, is_discrete, point_of, last_below, first_above}

-- A domain of pieces none of which is empty: it rises, with at least one raw between neighbours, and has at most sixteen pieces; it holds what
-- they hold; and where joining them leaves at most sixteen, nothing else.
pub record IsNormalOf (pieces : List Piece) : Type 0 where
  pub domain : IsDomain (normal pieces)
  pub keeps : (x : ℤ) → Held x pieces → Held x (normal pieces)
  pub only : length (all_joined (in_order pieces)) ≤ most_pieces → (x : ℤ) → Held x (normal pieces) → Held x pieces

abbrev pub NormalIsDomain : Type 0
NormalIsDomain = (pieces : List Piece) → AreProper pieces → IsNormalOf pieces

-- pieces that rise with a raw between neighbours are the only such list that holds what they hold
abbrev pub CanonicalIsUnique : Type 0
CanonicalIsUnique = (a b : List Piece) → IsCanonical a → IsCanonical b → ((x : ℤ) → Held x a ↔ Held x b) → a ≡ b

-- a domain is that of its own pieces
abbrev pub DomainIsNormal : Type 0
DomainIsNormal = (a : List Piece) → IsDomain a → normal a ≡ a

-- the flag of a fault
abbrev pub flag_of : FaultKind → Flags → Bool
flag_of Overflow flags = flags.overflow
flag_of ZeroDivisor flags = flags.zero
flag_of MissingFixing flags = flags.missing

-- a result is held, or its fault is flagged
abbrev pub Covers : Ranged → Result ℤ FaultKind → Type 0
Covers r (Ok x) = Held x r.domain
Covers r (Err fault) = IsTrue (flag_of fault r.flags)

-- the operator has one of two raws, which no limit bounds
abbrev pub has_no_limit : Operator → Bool
has_no_limit add = false
has_no_limit subtract = false
has_no_limit multiply = false
has_no_limit divide = false
has_no_limit least = true
has_no_limit greatest = true

-- What an operator gives for two raws that are held is held, and where it faults its fault is flagged. What has no limit of its own needs raws
-- within that of a number.
abbrev pub OperatorsAreSound : Type 0
OperatorsAreSound = (op : Operator) (a b : List Piece) (x y : ℤ) → AreProper a → AreProper b → (IsTrue (has_no_limit op) → IsRaw x × IsRaw y)
    → Held x a → Held y b → Covers (reach op a b) (calculated op x y)

-- the same for the signs, unions and intersections, which have no fault
pub record SetsAreSound (a b : List Piece) (x : ℤ) : Type 0 where
  pub negative : Held x a → Held (neg_ℤ x) (negated a)
  pub absolute : Held x a → Held (pos (unsigned_abs x)) (magnitudes a)
  pub united_left : Held x a → Held x (united a b)
  pub united_right : Held x b → Held x (united a b)
  pub met_both : Held x a → Held x b → Held x (met a b)

abbrev pub SignsAndUnionsAreSound : Type 0
SignsAndUnionsAreSound = (a b : List Piece) (x : ℤ) → AreProper a → AreProper b → SetsAreSound a b x

-- the pieces of an operator lie within the limit, and so do those of the others where those of the operands do
pub record AreWithin (a b : List Piece) : Type 0 where
  pub operator : (op : Operator) → AreBetween lowest highest (reach op a b).domain
  pub negative : AreBetween lowest highest (negated a)
  pub absolute : AreBetween lowest highest (magnitudes a)
  pub either : AreBetween lowest highest (united a b)
  pub both : AreBetween lowest highest (met a b)

abbrev pub ResultsStayWithin : Type 0
ResultsStayWithin = (a b : List Piece) → AreProper a → AreProper b → AreBetween lowest highest a → AreBetween lowest highest b → AreWithin a b

-- what is asked of a domain is what its raws show
pub record Shows (a : List Piece) : Type 0 where
  pub held : (x : ℤ) → IsTrue (is_held x a) ↔ Held x a
  pub single : (x : ℤ) → (point_of a ≡ Some x) ↔ (Held x a × ((y : ℤ) → Held y a → y ≡ x))
  pub discrete : IsTrue (is_discrete a) ↔ ((is_none a ≡ false) × ((x : ℤ) → Held x a → ¬ Held (x +ℤ pos 1) a))
  pub below : (limit x : ℤ) → (last_below limit a ≡ Some x) ↔ (Held x a × (x <ℤ limit) × ((y : ℤ) → Held y a → y <ℤ limit → y ≤ℤ x))
  pub above : (limit x : ℤ) → (first_above limit a ≡ Some x) ↔ (Held x a × (limit <ℤ x) × ((y : ℤ) → Held y a → limit <ℤ y → x ≤ℤ y))

abbrev pub QueriesAreRight : Type 0
QueriesAreRight = (a : List Piece) → IsDomain a → Shows a
