-- Which smoothings are good.
use Rattle.std.specs.Prelude.{◌*◌, ◌≤◌, ℤ, pos, ◌<ℤ◌, unsigned_abs, Option, Some, None}
use Rattle.pay_fixed.specs.Round.{limit}
use Rattle.pay_fixed.specs.declared.smooth.Smooth.{Smooth}
use Rattle.pay_fixed.specs.declared.smooth.Smooth.TheVariants.{Rise, Peak}

-- z is the difference of two raws
abbrev pub IsGap : ℤ → Type 0
IsGap z = unsigned_abs z ≤ 2 * limit

-- where there is a gap, it lies below 0
abbrev pub IsBelow : Option ℤ → Type 0
IsBelow None = Unit {0}
IsBelow (Some below) = (below <ℤ pos 0) × IsGap below

-- where there is a gap, it lies above 0
abbrev pub IsAbove : Option ℤ → Type 0
IsAbove None = Unit {0}
IsAbove (Some above) = (pos 0 <ℤ above) × IsGap above

-- a smoothing is good where its ends are differences of raws: a rise from a lesser to a greater one, a peak from one below 0 to one above 0
abbrev pub IsGood : Smooth → Type 0
IsGood (Rise low high) = (low <ℤ high) × IsGap low × IsGap high
IsGood (Peak below above) = IsBelow below × IsAbove above
