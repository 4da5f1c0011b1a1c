-- The pieces of a divisor have no end that is 0, those within the limit are raws, and those are bounded.
use Rattle.std.proofs.Common.{ℤ, pos, negsuc, ◌≤ℤ◌, ◌<ℤ◌, List, [], ◌∷◌, flat_map, inl, inr, arith}
use Rattle.std.proofs.lemmas.Int.{ints}
use Rattle.std.specs.List.{All}
use Rattle.std.proofs.lemmas.List.Elements.{All-nil, All-cons, All-append}
use Rattle.pay_domains.specs.declared.piece.Piece.{Piece}
use Rattle.pay_domains.specs.Pieces.{from_to, AreProper, AreRaws, AreBounded}
use Rattle.pay_domains.specs.Operators.{unless_empty, parts_beside_zero}
use Rattle.pay_domains.specs.Pairs.{HasNoZero, IsRawPiece}
use Rattle.pay_domains.proofs.NormalLemmas.{at_most_cases}

over-zero : (a b : ℤ) → pos 0 <ℤ a → a ≤ℤ b → HasNoZero (from_to a b)
over-zero a b h k = record { low = λ e. omega (arith, ints); high = λ e. omega (arith, ints) }

under-zero : (a b : ℤ) → b <ℤ pos 0 → a ≤ℤ b → HasNoZero (from_to a b)
under-zero a b h k = record { low = λ e. omega (arith, ints); high = λ e. omega (arith, ints) }

below : (a : ℤ) → All HasNoZero (unless_empty (from_to a (negsuc 0)))
below a = elim (at_most_cases a (negsuc 0)) [
  | inl hit ↦ rw hit.0 (All-cons HasNoZero (from_to a (negsuc 0)) [] (under-zero a (negsuc 0) (omega (arith, ints)) hit.1) (All-nil HasNoZero))
  | inr miss ↦ rw miss.0 (All-nil HasNoZero)
]

above : (b : ℤ) → All HasNoZero (unless_empty (from_to (pos 1) b))
above b = elim (at_most_cases (pos 1) b) [
  | inl hit ↦ rw hit.0 (All-cons HasNoZero (from_to (pos 1) b) [] (over-zero (pos 1) b (omega (arith, ints)) hit.1) (All-nil HasNoZero))
  | inr miss ↦ rw miss.0 (All-nil HasNoZero)
]

parts-of-one : (p : Piece) → p.low ≤ℤ p.high → All HasNoZero (parts_beside_zero p)
parts-of-one p h = elim (at_most_cases p.low (pos 0)) [
  | inl low ↦ elim (at_most_cases (pos 0) p.high) [
    | inl high ↦ rw (low.0, high.0)
        (All-append HasNoZero (unless_empty (from_to p.low (negsuc 0))) (unless_empty (from_to (pos 1) p.high)) (below p.low) (above p.high))
    | inr under ↦ rw (low.0, under.0) (All-cons HasNoZero p [] (under-zero p.low p.high under.1 h) (All-nil HasNoZero))
  ]
  | inr over ↦ rw over.0 (All-cons HasNoZero p [] (over-zero p.low p.high over.1 h) (All-nil HasNoZero))
]

pub parts_no_zero : (ps : List Piece) → AreProper ps → All HasNoZero (flat_map parts_beside_zero ps)
parts_no_zero [] h = All-nil HasNoZero
parts_no_zero (p ∷ rest) h =
    All-append HasNoZero (parts_beside_zero p) (flat_map parts_beside_zero rest) (parts-of-one p h.0) (parts_no_zero rest h.1)

-- both ends of each piece within the limit are raws
pub each_raw : (ps : List Piece) → AreProper ps → AreRaws ps → All IsRawPiece ps
each_raw [] h k = All-nil IsRawPiece
each_raw (p ∷ rest) h k =
    All-cons IsRawPiece p rest (record { low = omega (arith, ints, h.0, k.0, k.1); high = omega (arith, ints, h.0, k.0, k.1) }) (each_raw rest h.1 k.2)

-- what lies within the limit lies within twice the limit
pub raws_bounded : (ps : List Piece) → AreRaws ps → AreBounded ps
raws_bounded [] h = tt
raws_bounded (p ∷ rest) h = (omega (arith, ints, h.0), omega (arith, ints, h.1), raws_bounded rest h.2)
