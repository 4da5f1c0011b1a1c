-- Sets of raws as lists of closed pieces, and the one list that stands for a collection of pieces.
use Rattle.std.specs.Prelude.{ℕ, ◌*◌, ◌≤◌, ℤ, pos, neg_ℤ, ◌+ℤ◌, ◌≤ℤ◌, ◌<ℤ◌, int_lt, int_le, Bool, List, [], ◌∷◌, ◌++◌, length, take, drop}
use Rattle.std.specs.Prelude.{◌⊎◌, if◌then◌else◌}
use Rattle.std.specs.Int.{int_max}
use Rattle.pay_fixed.specs.Round.{limit}
use Rattle.pay_domains.specs.declared.piece.Piece.{Piece}

-- a raw lies in a piece
pub record Within (x : ℤ) (p : Piece) : Type 0 where
  pub low : p.low ≤ℤ x
  pub high : x ≤ℤ p.high

-- a raw is held by pieces: it lies in one of them
abbrev pub Held : ℤ → List Piece → Type 0
Held x [] = ⊥
Held x (p ∷ rest) = Within x p ⊎ Held x rest

-- the piece from one raw to another
abbrev pub from_to : ℤ → ℤ → Piece
from_to low high = record { low = low; high = high }

-- the pieces that hold this raw alone
abbrev pub point : ℤ → List Piece
point raw = from_to raw raw ∷ []

-- a piece among pieces by their lows, before the first with a greater one
abbrev pub placed : Piece → List Piece → List Piece
placed p [] = p ∷ []
placed p (q ∷ rest) = if int_lt q.low p.low then q ∷ placed p rest else p ∷ q ∷ rest

-- pieces by their lows
abbrev pub in_order : List Piece → List Piece
in_order [] = []
in_order (p ∷ rest) = placed p (in_order rest)

-- a piece that begins at or before the raw after the end of another: no raw lies between them
abbrev pub touches : Piece → Piece → Bool
touches p q = int_le q.low (p.high +ℤ pos 1)

-- two pieces in one, the second of which doesn't begin before the first
abbrev pub joined : Piece → Piece → Piece
joined p q = from_to p.low (int_max p.high q.high)

-- a piece and those by their lows after it, each joined to the one before it where it touches that
abbrev pub joined_from : Piece → List Piece → List Piece
joined_from p [] = p ∷ []
joined_from p (q ∷ rest) = if touches p q then joined_from (joined p q) rest else p ∷ joined_from q rest

abbrev pub all_joined : List Piece → List Piece
all_joined [] = []
all_joined (p ∷ rest) = joined_from p rest

-- the high of the last piece
abbrev pub last_high : Piece → List Piece → ℤ
last_high p [] = p.high
last_high p (q ∷ rest) = last_high q rest

-- one piece from the first low to the last high
abbrev pub whole : List Piece → List Piece
whole [] = []
whole (p ∷ rest) = from_to p.low (last_high p rest) ∷ []

-- the greatest number of pieces of a domain
abbrev pub most_pieces : ℕ
most_pieces = 16

-- at most so many pieces: the first fifteen, and the rest as one
abbrev pub capped : List Piece → List Piece
capped pieces = take 15 pieces ++ whole (drop 15 pieces)

-- The domain of a collection of pieces: by their lows, with those joined between which no raw lies, and where more than sixteen are left the
-- first fifteen and the rest as one.
unfoldable pub normal : List Piece → List Piece
normal pieces = capped (all_joined (in_order pieces))

-- no piece is empty
abbrev pub AreProper : List Piece → Type 0
AreProper [] = Unit {0}
AreProper (p ∷ rest) = (p.low ≤ℤ p.high) × AreProper rest

-- pieces rise from beyond this raw, with at least one raw between neighbours
abbrev pub AreBeyond : ℤ → List Piece → Type 0
AreBeyond z [] = Unit {0}
AreBeyond z (p ∷ rest) = ((z +ℤ pos 1) <ℤ p.low) × (p.low ≤ℤ p.high) × AreBeyond p.high rest

-- pieces rise, with at least one raw between neighbours
abbrev pub IsCanonical : List Piece → Type 0
IsCanonical [] = Unit {0}
IsCanonical (p ∷ rest) = (p.low ≤ℤ p.high) × AreBeyond p.high rest

-- all pieces lie between two raws
abbrev pub AreBetween : ℤ → ℤ → List Piece → Type 0
AreBetween least greatest [] = Unit {0}
AreBetween least greatest (p ∷ rest) = (least ≤ℤ p.low) × (p.high ≤ℤ greatest) × AreBetween least greatest rest

-- all raws lie at most twice as far from 0 as a number can
abbrev pub AreBounded : List Piece → Type 0
AreBounded pieces = AreBetween (neg_ℤ (pos (2 * limit))) (pos (2 * limit)) pieces

-- all raws are within the limit of a number
abbrev pub AreRaws : List Piece → Type 0
AreRaws pieces = AreBetween (neg_ℤ (pos limit)) (pos limit) pieces

-- a domain: at most sixteen pieces that rise with a raw between neighbours
pub record IsDomain (pieces : List Piece) : Type 0 where
  pub rises : IsCanonical pieces
  pub few : length pieces ≤ most_pieces
