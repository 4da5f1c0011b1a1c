-- Where the fixing at a date stands: among the past ones, or in a column of a row.
use Rattle.std.specs.Prelude.{ℕ, ℤ, suc, List, [], ◌∷◌, Option, Some, None, if◌then◌else◌, slice_index_or}
use Rattle.std.specs.Option.{option_map}
use Rattle.std.specs.Ordering.{int_eq}
use Rattle.pay_dates.specs.Days.{day_number}
use Rattle.pay_dates.specs.declared.day.Day.{Day}
use Rattle.pay_meaning.specs.Meaning.{Cells, Past as Known, fixing_at, fixings_in, is_past}
use Rattle.pay_scenarios.specs.declared.columns.FixingSource.{FixingSource}
use Rattle.pay_scenarios.specs.declared.columns.FixingSource.TheVariants.{Past, Column}

-- the first place of the day with this number, if it is there
abbrev pub place_of : ℤ → List Day → Option ℕ
place_of number [] = None
place_of number (date ∷ dates) = if int_eq (day_number date) number then Some 0 else option_map suc (place_of number dates)

-- the cell in a column; without a column there is no raw
abbrev pub cell_at : List (Option ℤ) → Option ℕ → Option ℤ
cell_at cells None = None
cell_at cells (Some place) = slice_index_or cells place None

-- the fixing of a source in a row with these cells
abbrev pub fixing_from : FixingSource → List (Option ℤ) → Option ℤ
fixing_from (Past fixing) cells = fixing
fixing_from (Column column) cells = cell_at cells column

-- the source at a date, of which the past has this fixing and a row this column: the past, where it is given and the date isn't after its as-of date
abbrev pub source_by : Option Known → Day → Option ℤ → Option ℕ → FixingSource
source_by None date fixing column = Column column
source_by (Some past) date fixing column = if is_past past.asof date then Past fixing else Column column

-- the cells of the past fixings that are given, if there are any
abbrev pub past_cells : Option Known → Cells
past_cells None = []
past_cells (Some past) = past.cells

-- the source of the fixing at a date, with these past fixings and these dates of columns
abbrev pub source_of : Option Known → List Day → Day → FixingSource
source_of past dates date = source_by past date (fixing_at (fixings_in (past_cells past)) date) (place_of (day_number date) dates)
