-- What a span of one unit of the calendar does to a day, and how the sums of a schedule grow.
use Rattle.std.proofs.Common.{◌≡◌, ℕ, zero, suc, ◌+◌, ◌*◌, ◌<◌, ◌≤◌, ◌⊎◌, inl, inr, ℤ, pos, negsuc, neg_ℤ, nat_abs, ◌+ℤ◌, ◌*ℤ◌, ◌<ℤ◌, ◌≤ℤ◌, refl, ◌∙◌, mul-one, mul-zero, arith}
use Rattle.std.proofs.lemmas.Int.{by_lt_z}
use Rattle.jiff_core.specs.declared.span.Span.{Span}
use Rattle.jiff_core.specs.declared.unit.Unit.{Unit as TimeUnit}
use Rattle.jiff_core.specs.declared.unit.Unit.TheVariants.{Year, Month, Week, Day, Hour, Minute, Second, Millisecond, Microsecond, Nanosecond}
use Rattle.jiff_core.specs.Calendar.{IsEpochDay, IsCivilDate, day_count, days_from_civil}
use Rattle.jiff_core.specs.Span.{IsOnly, magnitude, clock_days}
use Rattle.jiff_core.specs.Units.{rank, unit_months, unit_days}
use Rattle.jiff_core.proofs.SignedLemmas.{signed_arith}
use Rattle.jiff_core.proofs.CalendarLemmas.{days_from_civil-day_count, day_count_bounds, days_in_month_bounds, day_count-lt_year, day_count-day_of_year}
use Rattle.jiff_core.proofs.CalendarLemmas.{day_count-later_year, day_count-next_year}
use Rattle.jiff_core.proofs.MarchLemmas.{day_count-early, day_count-late}
use Rattle.jiff_span.specs.Add.{date_add, CanAddToDate}
use Rattle.jiff_span.specs.Months.{add_months, IsShiftable, month_number, shifted_year, shifted_month}
use Rattle.jiff_span.proofs.DifferenceLemmas.{signed_zero}
use Rattle.jiff_span.proofs.MonthLemmas.{add_months-zero, shifted_civil, shifted_month_in, shifted_number, days_from_civil-month}
use Rattle.pay_dates.specs.Days.{Date, IsDay, IsNumberOfRange, day_number}
use Rattle.pay_dates.specs.Rolls.{units_after}
use Rattle.pay_dates.specs.Steps.{IsStep, time_unit}
use Rattle.pay_dates.specs.declared.roll.Unit.{Unit}
use Rattle.pay_dates.specs.declared.roll.Unit.TheVariants.{Days, Weeks, Months, Years}
use Rattle.pay_dates.proofs.DayLemmas.{day_number-range}

-- a span of a unit of the calendar has no clock part
no_clock : (unit : TimeUnit) (n : ℤ) (s : Span) → 5 < rank unit → IsOnly unit n s → clock_days s ≡ pos 0
no_clock unit n s big h =
    let a : magnitude Hour s ≡ 0 = h.others Hour (omega arith) in
    let b : magnitude Minute s ≡ 0 = h.others Minute (omega arith) in
    let c : magnitude Second s ≡ 0 = h.others Second (omega arith) in
    let d : magnitude Millisecond s ≡ 0 = h.others Millisecond (omega arith) in
    let e : magnitude Microsecond s ≡ 0 = h.others Microsecond (omega arith) in
    let f : magnitude Nanosecond s ≡ 0 = h.others Nanosecond (omega arith) in
    signed_zero s.negative _ (omega arith)

-- it moves a date by its months and then by its days
pub date_add-only : (a : Date) (unit : TimeUnit) (n : ℤ) (s : Span) → 5 < rank unit → IsOnly unit n s
    → date_add a s ≡ add_months a (n *ℤ pos (unit_months unit)) +ℤ n *ℤ pos (unit_days unit)
date_add-only a unit n s big h = rw (h.months, h.days, no_clock unit n s big h) (omega (arith, signed_arith))

-- months that lead to before the year 3500
pub months_shiftable : (a : Date) (k : ℕ) → IsDay a → k ≤ 15_600 → IsShiftable a (pos k)
months_shiftable a k h small = omega (arith, signed_arith, a.month_in)

months_in : (a : Date) (k : ℤ) → IsShiftable a k → IsEpochDay (add_months a k)
months_in a k h = omega (arith, signed_arith, days_from_civil-day_count, day_count_bounds _ _ _ (shifted_civil a k h))

-- so a step of the calendar succeeds
can_add-only : (a : Date) (unit : TimeUnit) (n : ℕ) (s : Span) → 5 < rank unit → IsOnly unit (pos n) s → IsDay a
    → n * unit_months unit ≤ 15_600 → n * unit_days unit ≤ 210_000 → (unit_months unit ≡ 0) ⊎ (unit_days unit ≡ 0) → CanAddToDate a s
can_add-only a unit n s big h range months days one =
    let can : IsShiftable a (pos (n * unit_months unit)) = months_shiftable a (n * unit_months unit) range months in
    let day : IsEpochDay (add_months a (pos (n * unit_months unit)) +ℤ pos (n * unit_days unit)) = elim one [
      | inl none ↦
          let zero : n * unit_months unit ≡ 0 = rw none (omega arith) in
          rw (zero, add_months-zero a) (omega (arith, signed_arith, day_number-range a range))
      | inr none ↦
          let zero : n * unit_days unit ≡ 0 = rw none (omega arith) in
          rw zero (omega (arith, signed_arith, months_in a (pos (n * unit_months unit)) can))
    ] in
    (rw h.months can, rw (date_add-only a unit (pos n) s big h) day)

-- a step as a schedule has it
pub step_is : (a : Date) (unit : Unit) (n : ℕ) (s : Span) → IsOnly (time_unit unit) (pos n) s → date_add a s ≡ units_after a unit n
step_is a Days n s h = date_add-only a Day (pos n) s (omega arith) h ∙ rw (mul-zero n, add_months-zero a, mul-one n) refl
step_is a Weeks n s h = date_add-only a Week (pos n) s (omega arith) h ∙ rw (mul-zero n, add_months-zero a) refl
step_is a Months n s h = date_add-only a Month (pos n) s (omega arith) h ∙ rw (mul-zero n, mul-one n) (omega (arith, signed_arith))
step_is a Years n s h = date_add-only a Year (pos n) s (omega arith) h ∙ rw (mul-zero n) (omega (arith, signed_arith))

pub can_step : (a : Date) (unit : Unit) (n : ℕ) (s : Span) → IsStep unit n → IsOnly (time_unit unit) (pos n) s → IsDay a → CanAddToDate a s
can_step a Days n s k h r = can_add-only a Day n s (omega arith) h r (omega arith) (omega arith) (inl refl)
can_step a Weeks n s k h r = can_add-only a Week n s (omega arith) h r (omega arith) (omega arith) (inl refl)
can_step a Months n s k h r = can_add-only a Month n s (omega arith) h r (omega arith) (omega arith) (inr refl)
can_step a Years n s k h r = can_add-only a Year n s (omega arith) h r (omega arith) (omega arith) (inr refl)

-- no step is no move
pub no_units : (a : Date) (unit : Unit) → units_after a unit 0 ≡ day_number a
no_units a Days = omega (arith, signed_arith)
no_units a Weeks = omega (arith, signed_arith)
no_units a Months = add_months-zero a
no_units a Years = add_months-zero a

-- more months lead to a later date
months_grow : (d : Date) (a b : ℕ) → IsDay d → a ≤ 15_600 → a < b → add_months d (pos a) <ℤ add_months d (pos b)
months_grow d a b range small lt =
    let s = shifted_civil d (pos a) (months_shiftable d a range small) in
    let t = shifted_month_in d (pos b) in
    let long = days_in_month_bounds (shifted_year d (pos b)) (shifted_month d (pos b)) in
    let here = shifted_number d (pos a) in
    let there = shifted_number d (pos b) in
    days_from_civil-month _ _ _ _ _ _ s t.0 t.1 (omega (arith, d.day_in, long)) (omega (arith, signed_arith))

-- more units lead to a later date
pub units_grow : (d : Date) (unit : Unit) (a b : ℕ) → IsDay d → IsStep unit a → a < b → units_after d unit a <ℤ units_after d unit b
units_grow d Days a b h small lt = omega (arith, signed_arith)
units_grow d Weeks a b h small lt = omega (arith, signed_arith)
units_grow d Months a b h small lt = months_grow d a b h (omega arith) lt
units_grow d Years a b h small lt = months_grow d (a * 12) (b * 12) h (omega arith) (omega arith)

pub zero_step : (unit : Unit) → IsStep unit 0
zero_step Days = omega arith
zero_step Weeks = omega arith
zero_step Months = omega arith
zero_step Years = omega arith

-- and none leads to an earlier one
pub units_from : (d : Date) (unit : Unit) (n : ℕ) → IsDay d → day_number d ≤ℤ units_after d unit n
units_from d unit zero h = omega (arith, signed_arith, no_units d unit)
units_from d unit (suc n) h = omega (arith, signed_arith, no_units d unit, units_grow d unit 0 (suc n) h (zero_step unit) (omega arith))

-- 31 December 2199 has the number 84,005
pub last_number : days_from_civil (pos 2199) 12 31 ≡ pos 84_005
last_number =
    let count : day_count (pos 2199) 12 31 ≡ 4_455_958 = day_count-late (pos 2199) 12199 12 31 refl (omega arith) (omega arith) (omega arith) in
    omega (arith, signed_arith, days_from_civil-day_count (pos 2199) 12 31, count)

-- 1 January 1900 has the number -25,567
pub first_number : days_from_civil (pos 1900) 1 1 ≡ neg_ℤ (pos 25_567)
first_number =
    let count : day_count (pos 1900) 1 1 ≡ 4_346_386 = day_count-early (pos 1900) 11899 1 1 refl (omega arith) (omega arith) (omega arith) in
    omega (arith, signed_arith, days_from_civil-day_count (pos 1900) 1 1, count)

-- months that lead to a day of the range are few
months_reached : (d : Date) (k : ℕ) → IsDay d → add_months d (pos k) ≤ℤ pos 84_005 → k ≤ 3_600
months_reached d k range h =
    by_lt_z (pos 2199 *ℤ pos 12 +ℤ pos 11) (month_number d +ℤ pos k)
    (λ lt.
    let t = shifted_month_in d (pos k) in
    let long = days_in_month_bounds (shifted_year d (pos k)) (shifted_month d (pos k)) in
    let there = shifted_number d (pos k) in
    let civil : IsCivilDate (pos 2199) 12 31 = ((omega (arith, signed_arith), omega (arith, signed_arith)), (omega arith, omega arith), (omega arith, omega arith)) in
    let past : days_from_civil (pos 2199) 12 31 <ℤ add_months d (pos k) = days_from_civil-month _ _ _ _ _ _ civil t.0 t.1 (omega (arith, d.day_in, long)) (omega (arith, signed_arith)) in
    absurd (omega (arith, signed_arith, past, last_number, h)))
    (λ le. omega (arith, signed_arith, d.month_in))

-- so one more step of a schedule is counted
pub one_more_step : (d : Date) (unit : Unit) (n more : ℕ) → IsDay d → units_after d unit n ≤ℤ pos 84_005 → more ≤ 999 → IsStep unit (n + more)
one_more_step d Days n more range h small = omega (arith, signed_arith, day_number-range d range)
one_more_step d Weeks n more range h small = omega (arith, signed_arith, day_number-range d range)
one_more_step d Months n more range h small = omega (arith, months_reached d n range h)
one_more_step d Years n more range h small = omega (arith, months_reached d (n * 12) range h)

-- the days of the range have its years
pub day_in_range : (d : Date) → IsNumberOfRange (day_number d) → IsDay d
day_in_range d h =
    let civil : IsCivilDate d.year d.month d.day = (d.year_in, d.month_in, d.day_in) in
    let first : day_count (pos 1900) 1 1 ≡ 4_346_386 = day_count-early (pos 1900) 11899 1 1 refl (omega arith) (omega arith) (omega arith) in
    let past : day_count (pos 2200) 1 1 ≡ 4_455_959 = day_count-early (pos 2200) 12199 1 1 refl (omega arith) (omega arith) (omega arith) in
    let here = days_from_civil-day_count d.year d.month d.day in
    let low : pos 1900 ≤ℤ d.year = by_lt_z d.year (pos 1900)
    (λ lt. absurd (omega (arith, signed_arith, here, first, day_count-lt_year d.year d.month d.day (pos 1900) 1 1 civil (omega arith) lt)))
    (λ le. le) in
    let high : d.year ≤ℤ pos 2199 = by_lt_z (pos 2199) d.year
    (λ lt. absurd (omega (arith, signed_arith, here, past, day_count-day_of_year d.year d.month d.day d.day_in.0, day_count-next_year (pos 2199) (pos 2200) (omega (arith, signed_arith)) refl, day_count-later_year (pos 2199) d.year (omega (arith, signed_arith)) lt, d.day_in, d.month_in)))
    (λ le. le) in
    (low, high)

-- a move within the range is a number of days that `jiff` takes
abs_small : (n : ℕ) (z : ℤ) → neg_ℤ (pos n) ≤ℤ z → z ≤ℤ pos n → nat_abs z ≤ n
abs_small n (pos m) low high = omega (arith, signed_arith, high)
abs_small n (negsuc m) low high = omega (arith, signed_arith, low)

pub short_move : (number days : ℤ) → IsNumberOfRange number → IsNumberOfRange (number +ℤ days) → nat_abs days ≤ 7_304_484
short_move number days h k = abs_small 7_304_484 days (omega (arith, signed_arith)) (omega (arith, signed_arith))
