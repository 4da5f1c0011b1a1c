-- The rolls of a schedule: its unadjusted dates, their adjusted dates, and the list of rolls.
use Rattle.std.specs.Prelude.{ℕ, zero, suc, ◌+◌, ◌-◌, ◌*◌, ◌<◌, ◌≤◌, Bool, ◌||◌, ◌==◌, nat_le, nat_lt, if◌then◌else◌, List, [], ◌∷◌, ◌++◌, length}
use Rattle.std.specs.Prelude.{ℤ, pos, ◌+ℤ◌, ◌-ℤ◌, ◌<ℤ◌, int_lt, unsigned_abs}
use Rattle.std.specs.Option.{unwrap_or}
use Rattle.std.specs.Int.Signed.{le_z_yes}
use Rattle.std.proofs.Math.Dec.{lit≤}
use Rattle.jiff_core.specs.Date.{weekday_of, month_length}
use Rattle.jiff_span.specs.Months.{add_months}
use Rattle.pay_dates.specs.Days.{Date, day_number, day_of}
use Rattle.pay_dates.specs.declared.roll.Roll.{Roll}
use Rattle.pay_dates.specs.declared.roll.RollFault.{RollFault}
use Rattle.pay_dates.specs.declared.roll.RollFault.TheVariants.{BadSchedule, TooMany, NoMemory}
use Rattle.pay_dates.specs.declared.roll.Rule.{Rule}
use Rattle.pay_dates.specs.declared.roll.Rule.TheVariants.{Stay, Following, Preceding, Modified}
use Rattle.pay_dates.specs.declared.roll.Unit.{Unit}
use Rattle.pay_dates.specs.declared.roll.Unit.TheVariants.{Days, Weeks, Months, Years}

-- 1 January 1900, a Monday
abbrev pub first_day : Date
first_day = record {
  year = pos 1900;
  month = 1;
  day = 1;
  year_in = (le_z_yes tt, le_z_yes tt);
  month_in = (lit≤ tt, lit≤ tt);
  day_in = (lit≤ tt, lit≤ tt);
}

-- the day after: the next of its month, or else the first of the next month, or else the first of the next year
unfoldable pub next_day : Date → Date
next_day d =
    unwrap_or (day_of (unsigned_abs d.year) d.month (d.day + 1))
    (unwrap_or (day_of (unsigned_abs d.year) (d.month + 1) 1) (unwrap_or (day_of (unsigned_abs d.year + 1) 1 1) d))

-- the day n days after the first
unfoldable pub days_after_first : ℕ → Date
days_after_first zero = first_day
days_after_first (suc n) = next_day (days_after_first n)

-- the day with this number, from 1900-01-01 on
unfoldable pub day_numbered : ℤ → Date
day_numbered z = days_after_first (unsigned_abs (z +ℤ pos 25_567))

-- the number of the date n units after a day; a sum in months or years past a month's end is the month's last day
abbrev pub units_after : Date → Unit → ℕ → ℤ
units_after d Days n = day_number d +ℤ pos n
units_after d Weeks n = day_number d +ℤ pos (n * 7)
units_after d Months n = add_months d (pos n)
units_after d Years n = add_months d (pos (n * 12))

-- the k-th unadjusted date: that many steps after the first date, or the last date once these reach it
unfoldable pub unadjusted : Date → Date → ℕ → Unit → ℕ → ℤ
unadjusted first last every unit k =
    if int_lt (units_after first unit (k * every)) (day_number last) then units_after first unit (k * every)
    else day_number last

-- from a Saturday or a Sunday to the next Monday
abbrev pub days_to_monday : ℕ → ℕ
days_to_monday weekday = if weekday == 5 then 2 else (if weekday == 6 then 1 else 0)

-- from a Saturday or a Sunday back to the Friday before
abbrev pub days_to_friday : ℕ → ℕ
days_to_friday weekday = if weekday == 5 then 1 else (if weekday == 6 then 2 else 0)

-- the next Monday of a day on a weekend, and otherwise the day
abbrev pub following : Date → ℤ
following d = day_number d +ℤ pos (days_to_monday (weekday_of d))

-- the Friday before a day on a weekend, and otherwise the day
abbrev pub preceding : Date → ℤ
preceding d = day_number d -ℤ pos (days_to_friday (weekday_of d))

-- the next Monday is in the month of the day
abbrev pub stays_in_month : Date → Bool
stays_in_month d = nat_le (d.day + days_to_monday (weekday_of d)) (month_length d)

-- where a rule moves a day
abbrev pub moved : Rule → Date → ℤ
moved Stay d = day_number d
moved Following d = following d
moved Preceding d = preceding d
moved Modified d = if stays_in_month d then following d else preceding d

-- the k-th adjusted date
unfoldable pub adjusted : Date → Date → ℕ → Unit → Rule → ℕ → ℤ
adjusted first last every unit rule k = moved rule (day_numbered (unadjusted first last every unit k))

-- the roll of the k-th period: its adjusted date, and the days since the adjusted date before
unfoldable pub roll_at : Date → Date → ℕ → Unit → Rule → ℕ → Roll
roll_at first last every unit rule k = record {
  date = day_numbered (adjusted first last every unit rule k);
  period = k;
  days = unsigned_abs (adjusted first last every unit rule k -ℤ adjusted first last every unit rule (k - 1));
}

-- the first period gives its roll all the same; a later one where its date is not the date before
abbrev pub is_given : (period days : ℕ) → Bool
is_given period days = (period == 1) || nat_lt 0 days

-- the rolls and one more, if it is given
abbrev pub with_roll : List Roll → Roll → List Roll
with_roll rolls roll = if is_given roll.period roll.days then rolls ++ roll ∷ [] else rolls

-- the rolls of the first k periods
unfoldable pub rolls_to : Date → Date → ℕ → Unit → Rule → ℕ → List Roll
rolls_to first last every unit rule zero = []
rolls_to first last every unit rule (suc k) = with_roll (rolls_to first last every unit rule k) (roll_at first last every unit rule (suc k))

-- the days from one day to another
abbrev pub days_between : Date → Date → ℕ
days_between first last = unsigned_abs (day_number last -ℤ day_number first)

-- the rolls of a schedule. A step takes a day at least, so that many periods reach the last date; those after it would repeat that date,
-- and give no roll.
unfoldable pub rolls_of : Date → Date → ℕ → Unit → Rule → List Roll
rolls_of first last every unit rule = rolls_to first last every unit rule (days_between first last)

-- the first date comes before the last, and a step has 1 to 999 units
abbrev pub IsSchedule : Date → Date → ℕ → Type 0
IsSchedule first last every = (day_number first <ℤ day_number last) × (1 ≤ every) × (every ≤ 999)

-- why there are no rolls: there is no schedule, there are more than 4,096 of them, or there was no memory for them
abbrev pub IsRollCause : Date → Date → ℕ → Unit → Rule → RollFault → Type 0
IsRollCause first last every unit rule BadSchedule = IsSchedule first last every → ⊥
IsRollCause first last every unit rule TooMany =
    IsSchedule first last every × (4096 < length (rolls_of first last every unit rule))
IsRollCause first last every unit rule NoMemory = IsSchedule first last every
