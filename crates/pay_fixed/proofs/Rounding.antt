-- `round` gives the nearest whole number.
use Rattle.std.proofs.Common.{◌≡◌, ℕ, zero, suc, ◌+◌, ◌*◌, ◌<◌, ◌≤◌, ℤ, pos, negsuc, neg_ℤ, ◌-ℤ◌, ◌*ℤ◌, unsigned_abs, refl, arith}
use Rattle.std.proofs.lemmas.Int.{ints, unsigned_abs-mul}
use Rattle.std.proofs.Math.Nat.{mul-le-mul_left}
use Rattle.pay_fixed.specs.Round.{nearest, round, IsNear, RoundIsNearest}

-- the quotient that `nearest` takes, between two bounds
pub nearest_bounds : (a b : ℕ) → 0 < b → (2 * b * nearest a b ≤ 2 * a + b) × (2 * a + b < 2 * b * nearest a b + 2 * b)
nearest_bounds a b h = grind arith

unsigned_abs-neg : (n : ℕ) → unsigned_abs (neg_ℤ (pos n)) ≡ n
unsigned_abs-neg n = omega (arith, ints)

-- the magnitude of a rounded quotient is the rounded quotient of the magnitudes
pub unsigned_abs-round : (n d : ℤ) → unsigned_abs (round n d) ≡ nearest (unsigned_abs n) (unsigned_abs d)
unsigned_abs-round (pos a) (pos b) = refl
unsigned_abs-round (pos a) (negsuc b) = unsigned_abs-neg (nearest a (suc b))
unsigned_abs-round (negsuc a) (pos b) = unsigned_abs-neg (nearest (suc a) b)
unsigned_abs-round (negsuc a) (negsuc b) = refl

-- the distance, in the four cases of signs
near-same : (a b q : ℕ) → 2 * b * q ≤ 2 * a + b → 2 * a + b < 2 * b * q + 2 * b → 2 * unsigned_abs (pos a -ℤ pos (q * b)) ≤ b
near-same a b q h k = omega (arith, ints)

near-other : (a b q : ℕ) → 2 * b * q ≤ 2 * a + b → 2 * a + b < 2 * b * q + 2 * b → 2 * unsigned_abs (neg_ℤ (pos a) -ℤ neg_ℤ (pos (q * b))) ≤ b
near-other a b q h k = omega (arith, ints)

pub neg-times-pos : (q b : ℕ) → neg_ℤ (pos q) *ℤ pos b ≡ neg_ℤ (pos (q * b))
neg-times-pos zero b = omega (arith, ints)
neg-times-pos (suc q) b = refl

neg-times-neg : (q b : ℕ) → neg_ℤ (pos q) *ℤ negsuc b ≡ pos (q * suc b)
neg-times-neg zero b = omega (arith, ints)
neg-times-neg (suc q) b = refl

near-round : (n d : ℤ) → 0 < unsigned_abs d → IsNear n d (round n d)
near-round (pos a) (pos b) h = let k = nearest_bounds a b h in near-same a b (nearest a b) k.0 k.1
near-round (pos a) (negsuc b) h =
    let k = nearest_bounds a (suc b) h in
    rw (neg-times-neg (nearest a (suc b)) b) (near-same a (suc b) (nearest a (suc b)) k.0 k.1)
near-round (negsuc a) (pos b) h =
    let k = nearest_bounds (suc a) b h in
    rw (neg-times-pos (nearest (suc a) b) b) (near-other (suc a) b (nearest (suc a) b) k.0 k.1)
near-round (negsuc a) (negsuc b) h = let k = nearest_bounds (suc a) (suc b) h in (near-other (suc a) (suc b) (nearest (suc a) (suc b)) k.0 k.1)

-- no number that is as near has a greater magnitude
away-nat : (n d p q : ℕ) → 0 < d → 2 * n + d < 2 * d * q + 2 * d → 2 * (p * d) ≤ 2 * n + d → p ≤ q
away-nat n d p q h above k = grind (arith, mul-le-mul_left)

reach : (n z : ℤ) (d : ℕ) → 2 * unsigned_abs (n -ℤ z) ≤ d → 2 * unsigned_abs z ≤ 2 * unsigned_abs n + d
reach n z d h = omega (arith, ints)

pub round_is_rounded : RoundIsNearest
round_is_rounded n d divides =
    let positive : 0 < unsigned_abs d = omega (arith, ints) in
    let bounds = nearest_bounds (unsigned_abs n) (unsigned_abs d) positive in
    record {
      near = near-round n d positive;
      away = λ (other : ℤ) near.
          let far = rw (unsigned_abs-mul other d) at (reach n (other *ℤ d) (unsigned_abs d) near) in
          let size = nearest (unsigned_abs n) (unsigned_abs d) in
          rw (unsigned_abs-round n d) (away-nat (unsigned_abs n) (unsigned_abs d) (unsigned_abs other) size positive bounds.1 far);
    }
