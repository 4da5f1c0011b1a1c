-- What is needed of blends.
use Rattle.std.proofs.Common.{◌≡◌, ℕ, ◌-◌, pos, ◌+ℤ◌}
use Rattle.std.proofs.Math.IntN.{*ℤ-zero}
use Rattle.pay_fixed.specs.Round.{round}
use Rattle.pay_fixed.specs.Weights.{whole, blended}

-- nothing and nothing, by any weight, is nothing
pub blended_nothing : (w : ℕ) → blended w (pos 0) (pos 0) ≡ pos 0
blended_nothing w = λ i. round (*ℤ-zero (pos w) i +ℤ *ℤ-zero (pos (whole - w)) i) (pos whole)
