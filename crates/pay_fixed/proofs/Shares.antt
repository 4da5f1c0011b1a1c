-- Shares of the whole, and the sizes of rounded quotients.
use Rattle.std.proofs.Common.{◌≡◌, ℕ, suc, ◌+◌, ◌*◌, ◌<◌, ◌≤◌, ℤ, pos, ◌<ℤ◌, ◌≤ℤ◌, ◌*ℤ◌, unsigned_abs, refl, arith, true, false, int_lt, ◌⊎◌, inl, inr}
use Rattle.std.proofs.lemmas.Int.{ints, unsigned_abs-mul}
use Rattle.std.proofs.lemmas.Nat.{div_below}
use Rattle.std.proofs.lemmas.Bool.{cases_Bool}
use Rattle.std.proofs.lemmas.Bool.Decides.{Decides-int_eq}
use Rattle.std.specs.Prelude.{int_le}
use Rattle.std.specs.Ordering.{int_eq}
use Rattle.pay_fixed.specs.Round.{nearest}
use Rattle.pay_fixed.specs.Weights.{whole, share}
use Rattle.pay_fixed.proofs.Rounding.{nearest_bounds, unsigned_abs-round}

-- what the tests of two numbers tell
pub lt-cases : (a b : ℤ) → ((int_lt a b ≡ true) × (a <ℤ b)) ⊎ ((int_lt a b ≡ false) × (b ≤ℤ a))
lt-cases a b = elim (cases_Bool (int_lt a b)) [
  | inl hit ↦ inl (hit, grind (arith, ints))
  | inr miss ↦ inr (miss, grind (arith, ints))
]

pub le-cases : (a b : ℤ) → ((int_le a b ≡ true) × (a ≤ℤ b)) ⊎ ((int_le a b ≡ false) × (b <ℤ a))
le-cases a b = elim (cases_Bool (int_le a b)) [
  | inl hit ↦ inl (hit, grind (arith, ints))
  | inr miss ↦ inr (miss, grind (arith, ints))
]

pub eq-cases : (a b : ℤ) → ((int_eq a b ≡ true) × (a ≡ b)) ⊎ ((int_eq a b ≡ false) × ¬ (a ≡ b))
eq-cases a b = elim (cases_Bool (int_eq a b)) [
  | inl hit ↦ inl (hit, (Decides-int_eq a b).0 hit)
  | inr miss ↦ inr (miss, λ same. let hit = (Decides-int_eq a b).1 same in cc)
]

-- a quotient of at most m times the divisor is at most m
pub nearest-at_most : (a b m : ℕ) → 0 < b → a ≤ m * b → nearest a b ≤ m
nearest-at_most a b m h k = let below : 2 * a + b < suc m * (2 * b) = omega arith in omega (arith, div_below (2 * a + b) (2 * b) (suc m) (omega arith) below)

-- of two dividends the greater has the greater quotient
pub nearest-rising : (a c b : ℕ) → 0 < b → a ≤ c → nearest a b ≤ nearest c b
nearest-rising a c b h k =
    let low = nearest_bounds a b h in
    let high = nearest_bounds c b h in
    let below : 2 * a + b < suc (nearest c b) * (2 * b) = omega arith in
    omega (arith, div_below (2 * a + b) (2 * b) (suc (nearest c b)) (omega arith) below)

share-nearest : (part length : ℤ) → share part length ≡ nearest (unsigned_abs part * whole) (unsigned_abs length)
share-nearest part length = rw (unsigned_abs-round (part *ℤ pos whole) length, unsigned_abs-mul part (pos whole)) refl

-- a part has at most the whole
pub share_within : (part length : ℤ) → pos 0 <ℤ length → pos 0 ≤ℤ part → part ≤ℤ length → share part length ≤ whole
share_within part length h k l =
    let size : unsigned_abs part ≤ unsigned_abs length = omega (arith, ints) in
    let some : 0 < unsigned_abs length = omega (arith, ints) in
    rw (share-nearest part length) (nearest-at_most (unsigned_abs part * whole) (unsigned_abs length) whole some (omega arith))

-- of two parts the greater has the greater share
pub share-rising : (part more length : ℤ) → pos 0 <ℤ length → pos 0 ≤ℤ part → part ≤ℤ more → share part length ≤ share more length
share-rising part more length h k l =
    let size : unsigned_abs part ≤ unsigned_abs more = omega (arith, ints) in
    let some : 0 < unsigned_abs length = omega (arith, ints) in
    rw (share-nearest part length, share-nearest more length)
    (nearest-rising (unsigned_abs part * whole) (unsigned_abs more * whole) (unsigned_abs length) some (omega arith))
