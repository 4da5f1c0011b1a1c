-- The domain of pieces that are in order, in one pass.
use Rattle.std.specs.Prelude.{ℕ, zero, suc, ℤ, ◌≤ℤ◌, List, [], ◌∷◌, if◌then◌else◌}
use Rattle.pay_domains.specs.declared.piece.Piece.{Piece}
use Rattle.pay_domains.specs.Pieces.{touches, joined}

-- pieces by their lows from this raw on, none of them empty
abbrev pub AreFrom : ℤ → List Piece → Type 0
AreFrom z [] = Unit {0}
AreFrom z (p ∷ rest) = (z ≤ℤ p.low) × (p.low ≤ℤ p.high) × AreFrom p.low rest

-- pieces by their lows, none of them empty
abbrev pub AreInOrder : List Piece → Type 0
AreInOrder [] = Unit {0}
AreInOrder (p ∷ rest) = (p.low ≤ℤ p.high) × AreFrom p.low rest

-- a piece and those by their lows after it, each joined to the one before it where it touches that, or where the number of pieces before
-- that one is used up
abbrev pub merged : Piece → List Piece → ℕ → List Piece
merged p [] n = p ∷ []
merged p (q ∷ rest) zero = merged (joined p q) rest zero
merged p (q ∷ rest) (suc n) = if touches p q then merged (joined p q) rest (suc n) else p ∷ merged q rest n
