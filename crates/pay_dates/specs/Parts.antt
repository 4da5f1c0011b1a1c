-- The numbers of a day, and where they stand in its text.
use Rattle.std.specs.Prelude.{◌≡◌, ℕ, ◌+◌, ◌-◌, ◌*◌, ◌≤◌, Bool, true, ◌&&◌, ◌==◌, List, length, slice_index, ℤ, pos, ◌≤ℤ◌}
use Rattle.std.specs.Int.{is_in_range, IsInRange}
use Rattle.std.specs.Int.Signed.{le_z_yes}
use Rattle.std.proofs.Math.Dec.{le→leb, lit≤}
use Rattle.std.proofs.Math.Nat.{le_trans}
use Rattle.std.proofs.lemmas.Bool.{and_parts, leb-true}
use Rattle.jiff_core.specs.Calendar.{IsYear, IsDate, days_in_month}

-- a year from 1900 to 2199
abbrev pub IsYearOfRange : ℤ → Type 0
IsYearOfRange y = (pos 1900 ≤ℤ y) × (y ≤ℤ pos 2199)

-- the calendar has this day, and its year is from 1900 to 2199
abbrev pub IsDayOf : ℕ → ℕ → ℕ → Type 0
IsDayOf y m d = IsYearOfRange (pos y) × IsDate (pos y) (pos m) (pos d)

-- the test whether the calendar has this day, and its year is from 1900 to 2199
abbrev pub is_day_of : ℕ → ℕ → ℕ → Bool
is_day_of y m d =
    is_in_range 1900 2199 y && (is_in_range 1 12 m && is_in_range 1 (days_in_month (pos y) m) d)

-- a number that passed the test of a range lies in it
pub in_range : (low high n : ℕ) → is_in_range low high n ≡ true → IsInRange low high n
in_range low high n e =
    let p = and_parts _ _ e in
    (leb-true low n p.0, leb-true n high p.1)

-- a year from 1900 to 2199 is one that the calendar has
pub year_in : (y m d : ℕ) → is_day_of y m d ≡ true → IsYear (pos y)
year_in y m d e =
    let year = in_range 1900 2199 y (and_parts _ _ e).0 in
    let small : y ≤ 9999 = le_trans year.1 (lit≤ tt) in
    (le_z_yes tt, le_z_yes (le→leb y 9999 small))

-- a month that passed the test is one of twelve
pub month_in : (y m d : ℕ) → is_day_of y m d ≡ true → IsInRange 1 12 m
month_in y m d e = in_range 1 12 m (and_parts _ _ (and_parts _ _ e).1).0

-- a day that passed the test is one that its month has
pub day_in_month : (y m d : ℕ) → is_day_of y m d ≡ true → IsInRange 1 (days_in_month (pos y) m) d
day_in_month y m d e = in_range 1 (days_in_month (pos y) m) d (and_parts _ _ (and_parts _ _ e).1).1

-- the byte is a decimal digit
abbrev pub is_digit : ℕ → Bool
is_digit b = is_in_range 48 57 b

-- the two bytes from index i on are digits
abbrev pub has_two_digits : ℕ → List ℕ → Bool
has_two_digits i xs = is_digit (slice_index xs i) && is_digit (slice_index xs (i + 1))

-- ten bytes, digits but for a `-` after the fourth and after the seventh
abbrev pub has_form : List ℕ → Bool
has_form xs =
    (length xs == 10) && has_two_digits 0 xs && has_two_digits 2 xs && (slice_index xs 4 == 45)
    && has_two_digits 5 xs && (slice_index xs 7 == 45) && has_two_digits 8 xs

-- the number that the two digits from index i on write
abbrev pub two_at : ℕ → List ℕ → ℕ
two_at i xs = 10 * (slice_index xs i - 48) + (slice_index xs (i + 1) - 48)

-- the number that the first four bytes write
abbrev pub year_at : List ℕ → ℕ
year_at xs = 100 * two_at 0 xs + two_at 2 xs
