-- What can be asked of a domain.
use Rattle.std.specs.Prelude.{ℤ, pos, ◌+ℤ◌, ◌-ℤ◌, int_lt, int_le, Bool, true, false, ◌&&◌, List, [], ◌∷◌, Option, Some, None, if◌then◌else◌}
use Rattle.std.specs.List.{list_any, list_all}
use Rattle.std.specs.Ordering.{int_eq}
use Rattle.std.specs.Int.{int_min, int_max}
use Rattle.pay_domains.specs.declared.piece.Piece.{Piece}

-- a raw lies in a piece
abbrev pub is_within : ℤ → Piece → Bool
is_within x p = int_le p.low x && int_le x p.high

-- a raw is held
abbrev pub is_held : ℤ → List Piece → Bool
is_held x pieces = list_any (is_within x) pieces

-- there is no raw
abbrev pub is_none : List Piece → Bool
is_none [] = true
is_none (p ∷ rest) = false

-- the piece has one raw
abbrev pub is_point : Piece → Bool
is_point p = int_eq p.low p.high

-- the one raw of a domain, if it has one alone
abbrev pub point_of : List Piece → Option ℤ
point_of [] = None
point_of (p ∷ []) = if is_point p then Some p.low else None
point_of (p ∷ q ∷ rest) = None

-- there are raws, and no two of them are neighbours
abbrev pub is_discrete : List Piece → Bool
is_discrete [] = false
is_discrete (p ∷ rest) = list_all is_point (p ∷ rest)

-- a raw that was found, unless another was found after it
abbrev pub or_after : Option ℤ → Option ℤ → Option ℤ
or_after first None = first
or_after first (Some after) = Some after

-- the greatest raw under a limit, if there is one
abbrev pub last_below : ℤ → List Piece → Option ℤ
last_below limit [] = None
last_below limit (p ∷ rest) =
    if int_lt p.low limit then or_after (Some (int_min p.high (limit -ℤ pos 1))) (last_below limit rest) else None

-- the least raw over a limit, if there is one
abbrev pub first_above : ℤ → List Piece → Option ℤ
first_above limit [] = None
first_above limit (p ∷ rest) = if int_lt limit p.high then Some (int_max p.low (limit +ℤ pos 1)) else first_above limit rest
