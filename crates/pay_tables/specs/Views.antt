-- A table and past fixings of the code as plain data, and what a refusal says of a file.
use Rattle.std.specs.Prelude.{◌≡◌, map, Option, Some, Result, Err, ℤ}
use Rattle.pay_dates.specs.declared.day.Day.{Day}
use Rattle.pay_meaning.specs.Meaning.{Cells}
use Rattle.pay_tables.specs.declared.scenarios.ScenarioRow.{ScenarioRow}
use Rattle.pay_tables.specs.declared.scenarios.Scenarios.{Scenarios}
use Rattle.pay_tables.specs.declared.past.PastRow.{PastRow}
use Rattle.pay_tables.specs.declared.past.Past.{Past}
use Rattle.pay_tables.specs.declared.refusal.TableRefusal.{TableRefusal}
use Rattle.pay_tables.specs.declared.refusal.TableRefusal.TheVariants.{BadHeader, BadDate, SameDate, BadRow, BadName, BadCell, TooMany, NoMemory}
use Rattle.pay_tables.specs.Tables.{Row, Table}

-- a scenario of the code as plain data
abbrev pub row : ScenarioRow → Row
row r = record { label = r.label; cells = r.cells.items }

-- a table of the code as plain data
abbrev pub table : Scenarios → Table
table t = record { dates = t.dates.items; rows = map row t.rows.items }

-- a past fixing of the code as plain data
abbrev pub past_cell : PastRow → Day × Option ℤ
past_cell r = (r.date, r.value)

-- past fixings of the code as plain data
abbrev pub past : Past → Cells
past p = map past_cell p.rows.items

-- there is a refusal, and it is this one; memory may be wanted for any file
abbrev pub IsFirst : Option TableRefusal → TableRefusal → Type 0
IsFirst found BadHeader = found ≡ Some BadHeader
IsFirst found (BadDate place) = found ≡ Some (BadDate place)
IsFirst found (SameDate place) = found ≡ Some (SameDate place)
IsFirst found (BadRow row) = found ≡ Some (BadRow row)
IsFirst found (BadName row) = found ≡ Some (BadName row)
IsFirst found (BadCell row column) = found ≡ Some (BadCell row column)
IsFirst found (TooMany what limit) = found ≡ Some (TooMany what limit)
IsFirst found NoMemory = Unit {0}

-- a file is refused, for this reason; memory may be wanted for any file
abbrev pub Refuses : {A : Type 0} → Result A TableRefusal → TableRefusal → Type 0
Refuses read BadHeader = read ≡ Err BadHeader
Refuses read (BadDate place) = read ≡ Err (BadDate place)
Refuses read (SameDate place) = read ≡ Err (SameDate place)
Refuses read (BadRow row) = read ≡ Err (BadRow row)
Refuses read (BadName row) = read ≡ Err (BadName row)
Refuses read (BadCell row column) = read ≡ Err (BadCell row column)
Refuses read (TooMany what limit) = read ≡ Err (TooMany what limit)
Refuses read NoMemory = Unit {0}
