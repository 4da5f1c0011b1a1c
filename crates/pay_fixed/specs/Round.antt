-- Rounding to whole numbers, the limit of a number, and the products and quotients that are rounded.
use Rattle.std.specs.Prelude.{ℕ, suc, ◌+◌, ◌*◌, ◌/◌, ◌≤◌, nat_le, ℤ, pos, negsuc, neg_ℤ, ◌-ℤ◌, ◌*ℤ◌, unsigned_abs, ◌≢◌, Result, Ok, Err}
use Rattle.std.specs.Prelude.{if◌then◌else◌}
use Rattle.std.specs.Ordering.{int_eq}

-- one in raws: there are ten thousand to a whole
abbrev pub scale : ℤ
scale = pos 10_000

-- the greatest magnitude of a raw
abbrev pub limit : ℕ
limit = 1_000_000_000_000_000_000

-- the whole number nearest to a / b, a half up
abbrev pub nearest : ℕ → ℕ → ℕ
nearest a b = (2 * a + b) / (2 * b)

-- the whole number nearest to n / d, a half away from zero: `roundTiesToAway` of IEEE 754
abbrev pub round : ℤ → ℤ → ℤ
round (pos a) (pos b) = pos (nearest a b)
round (pos a) (negsuc b) = neg_ℤ (pos (nearest a (suc b)))
round (negsuc a) (pos b) = neg_ℤ (pos (nearest (suc a) b))
round (negsuc a) (negsuc b) = pos (nearest (suc a) (suc b))

-- q lies at most a half from n / d: 2 |n - q d| is at most |d|
abbrev pub IsNear : ℤ → ℤ → ℤ → Type 0
IsNear n d q = 2 * unsigned_abs (n -ℤ (q *ℤ d)) ≤ unsigned_abs d

-- q is the whole number nearest to n / d, and of two that are as near the one farther from zero
pub record IsRounded (n d q : ℤ) : Type 0 where
  pub near : IsNear n d q
  pub away : (other : ℤ) → IsNear n d other → unsigned_abs other ≤ unsigned_abs q

-- `round` gives the nearest whole number, a half away from zero
abbrev pub RoundIsNearest : Type 0
RoundIsNearest = (n d : ℤ) → d ≢ pos 0 → IsRounded n d (round n d)

-- z is within the limit of a raw
abbrev pub IsRaw : ℤ → Type 0
IsRaw z = unsigned_abs z ≤ limit

-- z, or the given fault where z is beyond the limit
abbrev pub limited : {E : Type 0} → E → ℤ → Result ℤ E
limited overflow z = if nat_le (unsigned_abs z) limit then Ok z else Err overflow

-- the product of two raws, rounded once; or the given fault where that is beyond the limit
abbrev pub product : {E : Type 0} → E → ℤ → ℤ → Result ℤ E
product overflow a b = limited overflow (round (a *ℤ b) scale)

-- the quotient of two raws, rounded once; or the second fault where the divisor is zero, and otherwise
-- the first where the rounded quotient is beyond the limit
abbrev pub quotient : {E : Type 0} → E → E → ℤ → ℤ → Result ℤ E
quotient overflow zero_divisor a b = if int_eq b (pos 0) then Err zero_divisor else limited overflow (round (a *ℤ scale) b)
