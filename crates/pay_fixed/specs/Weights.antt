-- What a smoothed comparison weighs, and what a weight makes of numbers.
use Rattle.std.specs.Prelude.{ℕ, ◌-◌, ℤ, pos, neg_ℤ, ◌+ℤ◌, ◌-ℤ◌, ◌*ℤ◌, int_le, int_lt, unsigned_abs, Option, Some, None, if◌then◌else◌}
use Rattle.std.specs.Ordering.{int_eq}
use Rattle.pay_fixed.specs.Round.{round}
use Rattle.pay_fixed.specs.declared.smooth.Smooth.{Smooth}
use Rattle.pay_fixed.specs.declared.smooth.Smooth.TheVariants.{Rise, Peak}

-- the weight of what is true; what is false weighs 0
abbrev pub whole : ℕ
whole = 1_000_000

-- the share of the whole that `part` is of `length`, rounded once
abbrev pub share : ℤ → ℤ → ℕ
share part length = unsigned_abs (round (part *ℤ pos whole) length)

-- false up to `low`, true from `high` on, and in between the share of the way from `low` to `high`
abbrev pub rise : ℤ → ℤ → ℤ → ℕ
rise low high x = if int_le x low then 0 else (if int_le high x then whole else share (x -ℤ low) (high -ℤ low))

-- above 0: false from `above` on, and before it the share of the way that is left; without `above` true
abbrev pub fall : Option ℤ → ℤ → ℕ
fall None x = whole
fall (Some above) x = if int_le above x then 0 else share (above -ℤ x) above

-- below 0: false up to `below`, and after it the share of the way from it to 0; without `below` true
abbrev pub climb : Option ℤ → ℤ → ℕ
climb None x = whole
climb (Some below) x = if int_le x below then 0 else share (x -ℤ below) (neg_ℤ below)

-- true at 0, and on each side of it as far as that side says
abbrev pub peak : Option ℤ → Option ℤ → ℤ → ℕ
peak below above x = if int_eq x (pos 0) then whole else (if int_lt (pos 0) x then fall above x else climb below x)

-- the weight of a comparison whose gap is x
unfoldable pub weight_of : Smooth → ℤ → ℕ
weight_of (Rise low high) x = rise low high x
weight_of (Peak below above) x = peak below above x

-- the first number by the weight w and the second by what is left of the whole, rounded once
abbrev pub blended : ℕ → ℤ → ℤ → ℤ
blended w a b = round ((pos w *ℤ a) +ℤ (pos (whole - w) *ℤ b)) (pos whole)

-- a number by the weight w, rounded once
abbrev pub scaled : ℕ → ℤ → ℤ
scaled w a = round (pos w *ℤ a) (pos whole)
