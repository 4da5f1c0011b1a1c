-- How far the steps of a schedule are counted: where the calendar of `jiff` ends lies far beyond.
use Rattle.std.specs.Prelude.{ℕ, ◌≤◌}
use Rattle.pay_dates.specs.declared.roll.Unit.{Unit}
use Rattle.pay_dates.specs.declared.roll.Unit.TheVariants.{Days, Weeks, Months, Years}
use Rattle.jiff_core.specs.declared.unit.Unit.{Unit as TimeUnit}
use Rattle.jiff_core.specs.declared.unit.Unit.TheVariants.{Day, Week, Month, Year}

-- the most units that are counted from a day
abbrev pub step_limit : Unit → ℕ
step_limit Days = 200_000
step_limit Weeks = 30_000
step_limit Months = 5_000
step_limit Years = 1_300

-- so many units are counted from a day, to a date before the year 3500
abbrev pub IsStep : Unit → ℕ → Type 0
IsStep unit n = n ≤ step_limit unit

-- the unit of `jiff` for a unit of a schedule
abbrev pub time_unit : Unit → TimeUnit
time_unit Days = Day
time_unit Weeks = Week
time_unit Months = Month
time_unit Years = Year
