-- What shows that weights and blends are as meant.
use Rattle.std.specs.Prelude.{◌≡◌, ℕ, ◌≤◌, ℤ, pos, ◌<ℤ◌, ◌≤ℤ◌, Option, Some, None}
use Rattle.std.specs.Int.{int_min, int_max}
use Rattle.pay_fixed.specs.declared.smooth.Smooth.{Smooth}
use Rattle.pay_fixed.specs.declared.smooth.Smooth.TheVariants.{Rise, Peak}
use Rattle.pay_fixed.specs.Weights.{whole, weight_of, blended, scaled}

-- a weight lies from 0 to the whole
abbrev pub WeightIsWithin : Type 0
WeightIsWithin = (kind : Smooth) (x : ℤ) → weight_of kind x ≤ whole

-- a rise is false up to `low` and true from `high` on
pub record RiseIsSharpOutside (low high x : ℤ) : Type 0 where
  pub under : x ≤ℤ low → weight_of (Rise low high) x ≡ 0
  pub over : low <ℤ high → high ≤ℤ x → weight_of (Rise low high) x ≡ whole

-- above 0 a peak is false from `above` on, or true where there is none
abbrev pub FallsTo : Option ℤ → ℕ → ℤ → Type 0
FallsTo None weight x = pos 0 <ℤ x → weight ≡ whole
FallsTo (Some above) weight x = pos 0 <ℤ above → above ≤ℤ x → weight ≡ 0

-- below 0 a peak is false up to `below`, or true where there is none
abbrev pub ClimbsFrom : Option ℤ → ℕ → ℤ → Type 0
ClimbsFrom None weight x = x <ℤ pos 0 → weight ≡ whole
ClimbsFrom (Some below) weight x = below <ℤ pos 0 → x ≤ℤ below → weight ≡ 0

-- a peak is true at 0, and sharp outside its ends
pub record PeakIsSharpOutside (below above : Option ℤ) (x : ℤ) : Type 0 where
  pub centre : x ≡ pos 0 → weight_of (Peak below above) x ≡ whole
  pub over : FallsTo above (weight_of (Peak below above) x) x
  pub under : ClimbsFrom below (weight_of (Peak below above) x) x

-- outside the open interval of a smoothing, each weight is 0 or the whole
pub record WeightIsSharpOutside : Type 0 where
  pub rise : (low high x : ℤ) → RiseIsSharpOutside low high x
  pub peak : (below above : Option ℤ) (x : ℤ) → PeakIsSharpOutside below above x

-- a rise never falls as the gap grows
abbrev pub RiseNeverFalls : Type 0
RiseNeverFalls = (low high x y : ℤ) → x ≤ℤ y → weight_of (Rise low high) x ≤ weight_of (Rise low high) y

-- a blend lies between its two numbers, and is one of them at either end of the weights
pub record IsBlend (a b : ℤ) : Type 0 where
  pub least : (w : ℕ) → w ≤ whole → int_min a b ≤ℤ blended w a b
  pub greatest : (w : ℕ) → w ≤ whole → blended w a b ≤ℤ int_max a b
  pub all_second : blended 0 a b ≡ b
  pub all_first : blended whole a b ≡ a

-- blends lie between their numbers, and blends of two equal numbers are that number
pub record BlendLiesBetween : Type 0 where
  pub between : (a b : ℤ) → IsBlend a b
  pub equal : (w : ℕ) (a : ℤ) → w ≤ whole → blended w a a ≡ a

-- to scale a number is to blend it with 0
abbrev pub ScaledIsBlended : Type 0
ScaledIsBlended = (w : ℕ) (a : ℤ) → scaled w a ≡ blended w a (pos 0)
