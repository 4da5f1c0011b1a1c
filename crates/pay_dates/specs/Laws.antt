-- The laws of days: a text and its reading, and a number, its order and its steps.
use Rattle.std.specs.Prelude.{◌≡◌, ℕ, ◌+◌, ◌<◌, pos, ◌+ℤ◌, ◌<ℤ◌, ◌⊎◌, List, length, Some}
use Rattle.jiff_core.specs.Calendar.{days_in_month}
use Rattle.pay_dates.specs.Days.{Date, IsDay, day_text, day_number, day_in}

-- the text of each day has ten bytes
abbrev pub TextHasTenBytes : Type 0
TextHasTenBytes = (d : Date) → IsDay d → length (day_text d) ≡ 10

-- the text of each day reads as that day
abbrev pub TextReadsBack : Type 0
TextReadsBack = (d : Date) → IsDay d → day_in (day_text d) ≡ Some d

-- what reads as a day is that day's text
abbrev pub ReadingIsText : Type 0
ReadingIsText = (bytes : List ℕ) (d : Date) → day_in bytes ≡ Some d → IsDay d × (day_text d ≡ bytes)

-- dates with one number are one date
abbrev pub NumberNamesDay : Type 0
NumberNamesDay = (a b : Date) → day_number a ≡ day_number b → a ≡ b

-- the first date comes before the second in the order of year, month and day
abbrev pub IsEarlier : Date → Date → Type 0
IsEarlier a b =
    (a.year <ℤ b.year)
    ⊎ ((a.year ≡ b.year) × ((a.month < b.month) ⊎ ((a.month ≡ b.month) × (a.day < b.day))))

-- an earlier date has a smaller number
abbrev pub EarlierIsSmaller : Type 0
EarlierIsSmaller = (a b : Date) → IsEarlier a b → day_number a <ℤ day_number b

-- 1 January 1970 has the number 0
abbrev pub EpochIsZero : Type 0
EpochIsZero = (d : Date) → d.year ≡ pos 1970 → d.month ≡ 1 → d.day ≡ 1 → day_number d ≡ pos 0

-- the second date is the next day of the first one's month
abbrev pub IsNextOfMonth : Date → Date → Type 0
IsNextOfMonth a b = (b.year ≡ a.year) × (b.month ≡ a.month) × (b.day ≡ a.day + 1)

-- the first date is the last of its month, and the second is the first of the month after it
abbrev pub BeginsNextMonth : Date → Date → Type 0
BeginsNextMonth a b =
    (b.year ≡ a.year) × (b.month ≡ a.month + 1) × (b.day ≡ 1) × (a.day ≡ days_in_month a.year a.month)

-- the first date is a 31 December, and the second is the 1 January after it
abbrev pub BeginsNextYear : Date → Date → Type 0
BeginsNextYear a b = (b.year ≡ a.year +ℤ pos 1) × (a.month ≡ 12) × (a.day ≡ 31) × (b.month ≡ 1) × (b.day ≡ 1)

-- the day after a day has the next number
abbrev pub NextIsOneMore : Type 0
NextIsOneMore =
    (a b : Date) → IsNextOfMonth a b ⊎ (BeginsNextMonth a b ⊎ BeginsNextYear a b)
    → day_number b ≡ day_number a +ℤ pos 1
