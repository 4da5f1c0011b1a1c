-- The cells of a row.
use Rattle.std.specs.Prelude.{◌≤◌, ℤ, unsigned_abs, List, [], ◌∷◌, Option, IfSome}

-- no fixing, or one of at most 10^15 raws in magnitude
abbrev pub IsCell : Option ℤ → Type 0
IsCell cell = IfSome cell (λ raw. unsigned_abs raw ≤ 1_000_000_000_000_000)

-- each of these is one
abbrev pub AreCells : List (Option ℤ) → Type 0
AreCells [] = Unit {0}
AreCells (cell ∷ rest) = IsCell cell × AreCells rest
