-- Blends: their size, and that they lie between their numbers.
use Rattle.std.proofs.Common.{◌≡◌, ℕ, zero, suc, ◌+◌, ◌-◌, ◌*◌, ◌^◌, ◌<◌, ◌≤◌, ℤ, pos, negsuc, ◌+ℤ◌, ◌*ℤ◌, ◌<ℤ◌, ◌≤ℤ◌, unsigned_abs, refl, arith, to_z, of_z, inl, inr}
use Rattle.std.specs.Int.{int_min, int_max, w128}
use Rattle.std.proofs.lemmas.Int.{ints, clamps, to_z-of_z, unsigned_abs-mul, fits_signed_from_abs}
use Rattle.std.proofs.Math.Nat.{mul-le-mul_left, mul-le-mul_right}
use Rattle.std.proofs.Math.IntN.{suc_ℤ, suc_ℤ-*ℤ, *ℤ_comm, *ℤ-zero, zero-*ℤ, +ℤ_idr}
use Rattle.std.specs.Int.Signed.{≤ℤ_refl}
use Rattle.pay_fixed.specs.Round.{round, limit, IsRaw, IsNear}
use Rattle.pay_fixed.specs.Weights.{whole, blended}
use Rattle.pay_fixed.specs.WeightLaws.{IsBlend, BlendLiesBetween, ScaledIsBlended}
use Rattle.pay_fixed.proofs.Rounding.{round_is_rounded}
use Rattle.pay_fixed.proofs.Shares.{lt-cases}

-- the size of a sum of two products
sum-size : (w k : ℕ) (a b : ℤ) → IsRaw a → IsRaw b → unsigned_abs ((pos w *ℤ a) +ℤ (pos k *ℤ b)) ≤ (w + k) * limit
sum-size w k a b h l =
    let first : w * unsigned_abs a ≤ w * limit = mul-le-mul_left w h in
    let second : k * unsigned_abs b ≤ k * limit = mul-le-mul_left k l in
    let one : unsigned_abs (pos w *ℤ a) ≡ w * unsigned_abs a = unsigned_abs-mul (pos w) a in
    let two : unsigned_abs (pos k *ℤ b) ≡ k * unsigned_abs b = unsigned_abs-mul (pos k) b in
    omega (arith, ints)

whole-again : (w : ℕ) → w ≤ whole → w + (whole - w) ≡ whole
whole-again w h = omega arith

pub mixed-size : (w : ℕ) (a b : ℤ) → w ≤ whole → IsRaw a → IsRaw b → unsigned_abs ((pos w *ℤ a) +ℤ (pos (whole - w) *ℤ b)) ≤ whole * limit
mixed-size w a b h k l = rw (whole-again w h) at (sum-size w (whole - w) a b k l)

-- a sum in 128 bits is exact
back : (z : ℤ) → unsigned_abs z ≤ 2 ^ 126 → to_z w128 (of_z w128 z) ≡ z
back z h = to_z-of_z w128 z (fits_signed_from_abs w128 z (omega arith))

pub wide-sum : (p q : ℤ) → unsigned_abs p ≤ 2 ^ 126 → unsigned_abs q ≤ 2 ^ 126 → unsigned_abs (p +ℤ q) ≤ 2 ^ 126
    → to_z w128 (of_z w128 (to_z w128 (of_z w128 p) +ℤ to_z w128 (of_z w128 q))) ≡ p +ℤ q
wide-sum p q h k l = rw (back p h, back q k) (back (p +ℤ q) l)

-- a product grows with its first number
times-rising : (w : ℕ) (a b : ℤ) → a ≤ℤ b → (a *ℤ pos w) ≤ℤ (b *ℤ pos w)
times-rising w (pos a) (pos b) h = let more : a * w ≤ b * w = mul-le-mul_right w (omega (arith, ints)) in omega (arith, ints)
times-rising w (pos a) (negsuc b) h = absurd (omega (arith, ints))
times-rising w (negsuc a) (pos b) h = omega (arith, ints)
times-rising w (negsuc a) (negsuc b) h = let more : suc b * w ≤ suc a * w = mul-le-mul_right w (omega (arith, ints)) in omega (arith, ints)

-- a number by two weights is the number by their sum
parts-of : (w k : ℕ) (a : ℤ) → (pos w *ℤ a) +ℤ (pos k *ℤ a) ≡ a *ℤ pos (w + k)
parts-of w k (pos a) = omega (arith, ints)
parts-of w k (negsuc a) = omega (arith, ints)

next-at_most : (a b : ℤ) → a <ℤ b → suc_ℤ a ≤ℤ b
next-at_most (pos a) b h = omega (arith, ints)
next-at_most (negsuc zero) b h = omega (arith, ints)
next-at_most (negsuc (suc a)) b h = omega (arith, ints)

-- a product past another by one divisor
past : (d : ℕ) (a b : ℤ) → a <ℤ b → ((a *ℤ pos d) +ℤ pos d) ≤ℤ (b *ℤ pos d)
past d a b h = rw (suc_ℤ-*ℤ a (pos d)) at (times-rising d (suc_ℤ a) b (next-at_most a b h))

-- a quotient lies between what the dividend lies between
near-least : (n q a : ℤ) (d : ℕ) → 0 < d → IsNear n (pos d) q → (a *ℤ pos d) ≤ℤ n → a ≤ℤ q
near-least n q a d h near k = elim (lt-cases q a) [
  | inl below ↦ let beyond = past d q a below.1 in absurd (omega (arith, ints))
  | inr above ↦ above.1
]

near-greatest : (n q a : ℤ) (d : ℕ) → 0 < d → IsNear n (pos d) q → n ≤ℤ (a *ℤ pos d) → q ≤ℤ a
near-greatest n q a d h near k = elim (lt-cases a q) [
  | inl above ↦ let beyond = past d a q above.1 in absurd (omega (arith, ints))
  | inr below ↦ below.1
]

round-near : (n : ℤ) (d : ℕ) → 0 < d → IsNear n (pos d) (round n (pos d))
round-near n d h = (round_is_rounded n (pos d) (λ none. absurd (omega (arith, ints)))).near

-- a sum of two products lies between the products with what the two numbers lie between
sum-least : (w k : ℕ) (m a b : ℤ) → m ≤ℤ a → m ≤ℤ b → (m *ℤ pos (w + k)) ≤ℤ ((pos w *ℤ a) +ℤ (pos k *ℤ b))
sum-least w k m a b h l =
    let first : (m *ℤ pos w) ≤ℤ (a *ℤ pos w) = times-rising w m a h in
    let second : (m *ℤ pos k) ≤ℤ (b *ℤ pos k) = times-rising k m b l in
    rw (← parts-of w k m, *ℤ_comm (pos w) m, *ℤ_comm (pos k) m, *ℤ_comm (pos w) a, *ℤ_comm (pos k) b) (omega (arith, ints))

sum-greatest : (w k : ℕ) (m a b : ℤ) → a ≤ℤ m → b ≤ℤ m → ((pos w *ℤ a) +ℤ (pos k *ℤ b)) ≤ℤ (m *ℤ pos (w + k))
sum-greatest w k m a b h l =
    let first : (a *ℤ pos w) ≤ℤ (m *ℤ pos w) = times-rising w a m h in
    let second : (b *ℤ pos k) ≤ℤ (m *ℤ pos k) = times-rising k b m l in
    rw (← parts-of w k m, *ℤ_comm (pos w) m, *ℤ_comm (pos k) m, *ℤ_comm (pos w) a, *ℤ_comm (pos k) b) (omega (arith, ints))

-- a blend is no less than what neither number is less than
blended-least : (w : ℕ) (m a b : ℤ) → w ≤ whole → m ≤ℤ a → m ≤ℤ b → m ≤ℤ blended w a b
blended-least w m a b h k l =
    let n : ℤ = (pos w *ℤ a) +ℤ (pos (whole - w) *ℤ b) in
    let below = rw (whole-again w h) at (sum-least w (whole - w) m a b k l) in
    near-least n (round n (pos whole)) m whole (omega arith) (round-near n whole (omega arith)) below

blended-greatest : (w : ℕ) (m a b : ℤ) → w ≤ whole → a ≤ℤ m → b ≤ℤ m → blended w a b ≤ℤ m
blended-greatest w m a b h k l =
    let n : ℤ = (pos w *ℤ a) +ℤ (pos (whole - w) *ℤ b) in
    let above = rw (whole-again w h) at (sum-greatest w (whole - w) m a b k l) in
    near-greatest n (round n (pos whole)) m whole (omega arith) (round-near n whole (omega arith)) above

blended-equal : (w : ℕ) (a : ℤ) → w ≤ whole → blended w a a ≡ a
blended-equal w a h =
    let least = blended-least w a a a h (≤ℤ_refl a) (≤ℤ_refl a) in
    let greatest = blended-greatest w a a a h (≤ℤ_refl a) (≤ℤ_refl a) in
    omega (arith, ints)

-- at an end of the weights the other number does not count
blended-none : (a b : ℤ) → blended 0 a b ≡ b
blended-none a b = rw (zero-*ℤ a, ← zero-*ℤ b) (blended-equal 0 b (omega arith))

blended-all : (a b : ℤ) → blended whole a b ≡ a
blended-all a b = rw (zero-*ℤ b, ← zero-*ℤ a) (blended-equal whole a (omega arith))

min-both : (a b : ℤ) → (int_min a b ≤ℤ a) × (int_min a b ≤ℤ b)
min-both a b = (omega (arith, ints, clamps), omega (arith, ints, clamps))

max-both : (a b : ℤ) → (a ≤ℤ int_max a b) × (b ≤ℤ int_max a b)
max-both a b = (omega (arith, ints, clamps), omega (arith, ints, clamps))

is_blend : (a b : ℤ) → IsBlend a b
is_blend a b = record {
  least = λ w h. blended-least w (int_min a b) a b h (min-both a b).0 (min-both a b).1;
  greatest = λ w h. blended-greatest w (int_max a b) a b h (max-both a b).0 (max-both a b).1;
  all_second = blended-none a b;
  all_first = blended-all a b;
}

pub blend_lies_between : BlendLiesBetween
blend_lies_between = record { between = is_blend; equal = blended-equal }

pub scaled_is_blended : ScaledIsBlended
scaled_is_blended w a = rw (*ℤ-zero (pos (whole - w)), +ℤ_idr (pos w *ℤ a)) refl
