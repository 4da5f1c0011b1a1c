-- What clauses see of a day: the plain date, its number, its text, and the reading of a text.
use Rattle.std.specs.Prelude.{◌≡◌, ℕ, Bool, true, false, if◌then◌else◌, List, Option, Some, None, ℤ, pos, neg_ℤ, refl}
use Rattle.jiff_core.specs.Calendar.{IsBetween}
use Rattle.std.specs.Ordering.{int_cmp}
use Rattle.std.specs.declared.cmp.Ordering.{Ordering}
pub use Rattle.jiff_core.specs.declared.civil.date.Date.{Date}
pub use Rattle.jiff_core.specs.Date.{epoch_day}
pub use Rattle.jiff.specs.Words.{date_text}
pub use Rattle.pay_dates.specs.Parts.{IsYearOfRange, IsDayOf, is_day_of, has_form, two_at, year_at}
use Rattle.pay_dates.specs.Parts.{year_in, month_in, day_in_month}

-- a date of the years 1900 to 2199
abbrev pub IsDay : Date → Type 0
IsDay d = IsYearOfRange d.year

-- the text of a day, `2024-06-19`
abbrev pub day_text : Date → List ℕ
day_text d = date_text d

-- the number of a day: days since 1970-01-01
abbrev pub day_number : Date → ℤ
day_number d = epoch_day d

-- a number of a day: -25,567 is 1900-01-01 and 84,005 is 2199-12-31
abbrev pub IsNumberOfRange : ℤ → Type 0
IsNumberOfRange n = IsBetween (neg_ℤ (pos 25_567)) (pos 84_005) n

-- days in the order of their numbers
abbrev pub day_cmp : Date → Date → Ordering
day_cmp a b = int_cmp (day_number a) (day_number b)

-- the day with these numbers, given the answer of the test whether there is one
abbrev pub day_if : (y m d : ℕ) (test : Bool) → is_day_of y m d ≡ test → Option Date
day_if y m d false e = None
day_if y m d true e = Some (record {
  year = pos y;
  month = m;
  day = d;
  year_in = year_in y m d e;
  month_in = month_in y m d e;
  day_in = day_in_month y m d e;
})

-- the day with these numbers, where there is one from 1900 to 2199
unfoldable pub day_of : ℕ → ℕ → ℕ → Option Date
day_of y m d = day_if y m d (is_day_of y m d) refl

-- the day that a text writes as `2024-06-19`, if it is one
unfoldable pub day_in : List ℕ → Option Date
day_in xs = if has_form xs then day_of (year_at xs) (two_at 5 xs) (two_at 8 xs) else None
