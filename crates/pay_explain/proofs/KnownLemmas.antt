-- Pieces whose ends lie within the limit of a number.
use Rattle.std.proofs.Common.{ℤ, ◌≤ℤ◌, pos, neg_ℤ, List, [], ◌∷◌, arith}
use Rattle.std.proofs.lemmas.Int.{ints}
use Rattle.pay_fixed.specs.Round.{limit, IsRaw}
use Rattle.pay_domains.specs.declared.piece.Piece.{Piece}
use Rattle.pay_domains.specs.Pieces.{AreBeyond, IsCanonical, IsDomain, AreRaws}
use Rattle.pay_explain.specs.Known.{HasRawEnds, HaveRawEnds}

-- a number between the limits is within the limit
between : (z : ℤ) → neg_ℤ (pos limit) ≤ℤ z → z ≤ℤ pos limit → IsRaw z
between z h k = grind (arith, ints)

ends_here : (p : Piece) → p.low ≤ℤ p.high → neg_ℤ (pos limit) ≤ℤ p.low → p.high ≤ℤ pos limit → HasRawEnds p
ends_here p order h k = record { low = between p.low h (omega (arith, ints)); high = between p.high (omega (arith, ints)) k }

ends_beyond : (z : ℤ) (pieces : List Piece) → AreBeyond z pieces → AreRaws pieces → HaveRawEnds pieces
ends_beyond z [] rises raws = tt
ends_beyond z (p ∷ rest) rises raws = (ends_here p rises.1 raws.0 raws.1, ends_beyond p.high rest rises.2 raws.2)

ends_rising : (pieces : List Piece) → IsCanonical pieces → AreRaws pieces → HaveRawEnds pieces
ends_rising [] rises raws = tt
ends_rising (p ∷ rest) rises raws = (ends_here p rises.0 raws.0 raws.1, ends_beyond p.high rest rises.1 raws.2)

-- the ends of a domain within the limit
pub raw_ends : (pieces : List Piece) → IsDomain pieces → AreRaws pieces → HaveRawEnds pieces
raw_ends pieces domain raws = ends_rising pieces domain.rises raws
