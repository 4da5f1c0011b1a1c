-- A table of scenarios as plain data, and what makes it and past fixings good.
use Rattle.std.specs.Prelude.{ℕ, ◌≤◌, All, nat_le, Bool, true, not, ◌&&◌, IsTrue, ℤ, ◌<ℤ◌, unsigned_abs, ◌≡◌, List, [], ◌∷◌, length, Option, IfSome}
use Rattle.std.specs.List.{list_any, zip}
use Rattle.std.specs.Ordering.{int_eq}
use Rattle.pay_dates.specs.Days.{day_number}
use Rattle.pay_dates.specs.declared.day.Day.{Day}
use Rattle.pay_meaning.specs.Meaning.{Cells}

-- a scenario: its label, and a raw or nothing for each date
pub record Row : Type 0 where
  pub label : List ℕ
  pub cells : List (Option ℤ)

-- the dates of the columns, and the scenarios in the order of the file
pub record Table : Type 0 where
  pub dates : List Day
  pub rows : List Row

-- the cells of a row by the dates of its table
abbrev pub cells_of : Table → Row → Cells
cells_of table row = zip table.dates row.cells

-- a raw of at most 10^15 in magnitude
abbrev pub is_fixing : ℤ → Bool
is_fixing raw = nat_le (unsigned_abs raw) 1_000_000_000_000_000

-- an empty cell, or one with a raw that can be a fixing
abbrev pub IsCell : Option ℤ → Type 0
IsCell cell = IfSome cell (λ raw. IsTrue (is_fixing raw))

-- a day is one of these
abbrev pub is_among : Day → List Day → Bool
is_among date dates = list_any (λ other. int_eq (day_number other) (day_number date)) dates

-- no two days are one
abbrev pub are_distinct : List Day → Bool
are_distinct [] = true
are_distinct (date ∷ dates) = not (is_among date dates) && are_distinct dates

-- a good table: at most 4,096 dates, no two of them one, and at most 100,000 rows, each with a cell for each date, which is empty or can be a fixing
pub record IsGood (table : Table) : Type 0 where
  pub few_dates : length table.dates ≤ 4096
  pub distinct : IsTrue (are_distinct table.dates)
  pub few_rows : length table.rows ≤ 100_000
  pub full : All (λ row. length row.cells ≡ length table.dates) table.rows
  pub fixings : All (λ row. All IsCell row.cells) table.rows

-- a day comes before the first of these
abbrev pub IsBefore : Day → Cells → Type 0
IsBefore date [] = Unit {0}
IsBefore date (cell ∷ rest) = day_number date <ℤ day_number cell.0

-- each day comes before the next
abbrev pub AreRising : Cells → Type 0
AreRising [] = Unit {0}
AreRising (cell ∷ rest) = IsBefore cell.0 rest × AreRising rest

-- good past fixings: at most 100,000, in order of date, no two on one date, and each is empty or can be a fixing
pub record IsGoodPast (past : Cells) : Type 0 where
  pub few : length past ≤ 100_000
  pub rising : AreRising past
  pub fixings : All (λ cell. IsCell cell.1) past
