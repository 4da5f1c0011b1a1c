-- No rule moves a day out of the years 1900 to 2199.
use Rattle.std.proofs.Common.{◌≡◌, ℕ, Bool, true, false, ◌⊎◌, inl, inr, ℤ, pos, ◌+ℤ◌, ◌-ℤ◌, if◌then◌else◌, arith}
use Rattle.jiff_core.specs.Calendar.{weekday_number}
use Rattle.jiff_core.proofs.SignedLemmas.{signed_arith}
use Rattle.jiff_core.proofs.CalendarLemmas.{weekday_number-parts}
use Rattle.pay_dates.specs.Days.{Date, IsDay, IsNumberOfRange, day_number}
use Rattle.pay_dates.specs.Rolls.{days_to_monday, days_to_friday, moved, stays_in_month}
use Rattle.pay_dates.specs.declared.roll.Rule.{Rule}
use Rattle.pay_dates.specs.declared.roll.Rule.TheVariants.{Stay, Following, Preceding, Modified}
use Rattle.pay_dates.proofs.DayLemmas.{day_number-range}

pub monday_cases : (w : ℕ) → ((w ≡ 5) × (days_to_monday w ≡ 2)) ⊎ (((w ≡ 6) × (days_to_monday w ≡ 1)) ⊎ (days_to_monday w ≡ 0))
monday_cases w = grind arith

pub friday_cases : (w : ℕ) → ((w ≡ 5) × (days_to_friday w ≡ 1)) ⊎ (((w ≡ 6) × (days_to_friday w ≡ 2)) ⊎ (days_to_friday w ≡ 0))
friday_cases w = grind arith

-- a weekend at either end of the range has its Monday and its Friday in it
ahead_in : (z : ℤ) → IsNumberOfRange z → IsNumberOfRange (z +ℤ pos (days_to_monday (weekday_number z)))
ahead_in z h = elim (monday_cases (weekday_number z)) [
  | inl two ↦ rw two.1 (omega (arith, signed_arith, weekday_number-parts z, two.0))
  | inr (inl one) ↦ rw one.1 (omega (arith, signed_arith, weekday_number-parts z, one.0))
  | inr (inr none) ↦ rw none (omega (arith, signed_arith))
]

back_in : (z : ℤ) → IsNumberOfRange z → IsNumberOfRange (z -ℤ pos (days_to_friday (weekday_number z)))
back_in z h = elim (friday_cases (weekday_number z)) [
  | inl one ↦ rw one.1 (omega (arith, signed_arith, weekday_number-parts z, one.0))
  | inr (inl two) ↦ rw two.1 (omega (arith, signed_arith, weekday_number-parts z, two.0))
  | inr (inr none) ↦ rw none (omega (arith, signed_arith))
]

either_in : (t : Bool) (a b : ℤ) → IsNumberOfRange a → IsNumberOfRange b → IsNumberOfRange (if t then a else b)
either_in true a b h k = h
either_in false a b h k = k

-- no rule leaves the range
pub moved_in : (d : Date) (rule : Rule) → IsDay d → IsNumberOfRange (moved rule d)
moved_in d Stay h = day_number-range d h
moved_in d Following h = ahead_in (day_number d) (day_number-range d h)
moved_in d Preceding h = back_in (day_number d) (day_number-range d h)
moved_in d Modified h = either_in (stays_in_month d) _ _ (ahead_in (day_number d) (day_number-range d h)) (back_in (day_number d) (day_number-range d h))
