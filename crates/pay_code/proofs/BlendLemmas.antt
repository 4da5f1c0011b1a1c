-- A blend of two equal numbers is that number.
use Rattle.std.proofs.Common.{◌≡◌, ℕ, zero, suc, ◌+◌, ◌-◌, ◌*◌, ◌<◌, ◌≤◌, ℤ, pos, negsuc, ◌+ℤ◌, ◌*ℤ◌, ◌<ℤ◌, ◌≤ℤ◌, arith, inl, inr, int_lt, ◌⊎◌}
use Rattle.std.proofs.lemmas.Int.{ints}
use Rattle.std.proofs.lemmas.Bool.{cases_Bool}
use Rattle.std.proofs.Math.Nat.{mul-le-mul_right}
use Rattle.std.proofs.Math.IntN.{suc_ℤ, suc_ℤ-*ℤ}
use Rattle.pay_fixed.specs.Round.{round, IsNear}
use Rattle.pay_fixed.proofs.Rounding.{round_is_rounded}
use Rattle.pay_fixed.specs.Weights.{whole, blended}

less-cases : (a b : ℤ) → (a <ℤ b) ⊎ (b ≤ℤ a)
less-cases a b = elim (cases_Bool (int_lt a b)) [
  | inl hit ↦ inl (grind (arith, ints))
  | inr miss ↦ inr (grind (arith, ints))
]

whole-again : (w : ℕ) → w ≤ whole → w + (whole - w) ≡ whole
whole-again w h = omega arith

-- a product grows with its first number
times-rising : (w : ℕ) (a b : ℤ) → a ≤ℤ b → (a *ℤ pos w) ≤ℤ (b *ℤ pos w)
times-rising w (pos a) (pos b) h = let more : a * w ≤ b * w = mul-le-mul_right w (omega (arith, ints)) in omega (arith, ints)
times-rising w (pos a) (negsuc b) h = absurd (omega (arith, ints))
times-rising w (negsuc a) (pos b) h = omega (arith, ints)
times-rising w (negsuc a) (negsuc b) h = let more : suc b * w ≤ suc a * w = mul-le-mul_right w (omega (arith, ints)) in omega (arith, ints)

-- a number by two weights is the number by their sum
parts-of : (w k : ℕ) (a : ℤ) → (pos w *ℤ a) +ℤ (pos k *ℤ a) ≡ a *ℤ pos (w + k)
parts-of w k (pos a) = omega (arith, ints)
parts-of w k (negsuc a) = omega (arith, ints)

next-at_most : (a b : ℤ) → a <ℤ b → suc_ℤ a ≤ℤ b
next-at_most (pos a) b h = omega (arith, ints)
next-at_most (negsuc zero) b h = omega (arith, ints)
next-at_most (negsuc (suc a)) b h = omega (arith, ints)

-- a product past another by one divisor
past : (d : ℕ) (a b : ℤ) → a <ℤ b → ((a *ℤ pos d) +ℤ pos d) ≤ℤ (b *ℤ pos d)
past d a b h = rw (suc_ℤ-*ℤ a (pos d)) at (times-rising d (suc_ℤ a) b (next-at_most a b h))

-- a quotient of a product by one of its numbers is the other
near-equal : (n q a : ℤ) (d : ℕ) → 0 < d → IsNear n (pos d) q → n ≡ a *ℤ pos d → q ≡ a
near-equal n q a d h near same = elim (less-cases q a) [
  | inl below ↦ let beyond = past d q a below in absurd (omega (arith, ints))
  | inr above ↦ elim (less-cases a q) [
    | inl over ↦ let beyond = past d a q over in absurd (omega (arith, ints))
    | inr under ↦ omega (arith, ints)
  ]
]

round-near : (n : ℤ) (d : ℕ) → 0 < d → IsNear n (pos d) (round n (pos d))
round-near n d h = (round_is_rounded n (pos d) (λ none. absurd (omega (arith, ints)))).near

pub blended_equal : (w : ℕ) (a : ℤ) → w ≤ whole → blended w a a ≡ a
blended_equal w a h =
    let n : ℤ = (pos w *ℤ a) +ℤ (pos (whole - w) *ℤ a) in
    let product : n ≡ a *ℤ pos whole = rw (whole-again w h) at (parts-of w (whole - w) a) in
    near-equal n (round n (pos whole)) a whole (omega arith) (round-near n whole (omega arith)) product
