-- The past fixings of a fixings file, or what it is refused for: the first of its refusals, in the order in which they are asked.
use Rattle.std.specs.Prelude.{◌≡◌, ℕ, ◌+◌, nat_le, codes, Bool, false, not, ◌&&◌, List, [], ◌∷◌, ◌++◌, Option, Some, None, Result, IfOk, IsOk, ℤ, filter}
use Rattle.std.specs.Option.{option_map}
use Rattle.std.specs.List.{filter_map}
use Rattle.std.specs.Ordering.{int_eq}
use Rattle.std.specs.Str.{str_eq_ignore_ascii_case}
use Rattle.pay_dates.specs.Days.{day_in, day_number}
use Rattle.pay_dates.specs.declared.day.Day.{Day}
use Rattle.pay_meaning.specs.Meaning.{Cells}
use Rattle.pay_roll.specs.Rolling.{first_of}
use Rattle.pay_roll.specs.declared.refusal.What.TheVariants.{Rows}
use Rattle.pay_tables.specs.declared.refusal.TableRefusal.{TableRefusal}
use Rattle.pay_tables.specs.declared.refusal.TableRefusal.TheVariants.{BadHeader, BadRow, TooMany}
use Rattle.pay_tables.specs.Tables.{AreRising}
use Rattle.pay_tables.specs.Records.{Record, records_in}
use Rattle.pay_tables.specs.Fields.{cell_in, refused_if, date_refusal, with_day, cell_refusal, unless}
use Rattle.pay_tables.specs.ScenarioFile.{cell_of}

-- the two fields `date` and `value`, in whatever case
abbrev pub is_past_header : Record → Bool
is_past_header (first ∷ second ∷ []) = str_eq_ignore_ascii_case first (codes "date") && str_eq_ignore_ascii_case second (codes "value")
is_past_header other = false

-- the date of a row, if it has one
abbrev pub date_in : Record → Option Day
date_in [] = None
date_in (date ∷ fields) = day_in date

-- what the fields of a row are refused for, after rows of these days: there are not two; the first is no date, or a date once more; the second,
-- in column 2, is no cell
abbrev pub past_field_refusals : ℕ → List Day → Record → List (Option TableRefusal)
past_field_refusals row before (date ∷ value ∷ []) = date_refusal row before (day_in date) ∷ cell_refusal row 2 (cell_in value) ∷ []
past_field_refusals row before other = Some (BadRow row) ∷ []

-- what a record is refused for, after rows of these days: it is the row after the last that there may be, or its fields
abbrev pub past_row_refusals : ℕ → List Day → Record → List (Option TableRefusal)
past_row_refusals row before fields = refused_if (not (nat_le row 100_000)) (TooMany Rows 100_000) ∷ past_field_refusals row before fields

-- what records are refused for, one after the other: the first of them is this row, after rows of these days
abbrev pub past_rows_refusals : ℕ → List Day → List Record → List (Option TableRefusal)
past_rows_refusals row before [] = []
past_rows_refusals row before (fields ∷ rest) =
    past_row_refusals row before fields ++ past_rows_refusals (row + 1) (with_day (date_in fields) before) rest

-- what the records of a fixings file are refused for
abbrev pub past_refusals : List Record → List (Option TableRefusal)
past_refusals [] = Some BadHeader ∷ []
past_refusals (header ∷ rows) = refused_if (not (is_past_header header)) BadHeader ∷ past_rows_refusals 1 [] rows

-- the past fixing of a row, if it has a date
abbrev pub past_cell : Record → Option (Day × Option ℤ)
past_cell (date ∷ value ∷ []) = option_map (λ day. (day, cell_of value)) (day_in date)
past_cell other = None

-- the past fixings of records that nothing is refused of, in the order of the file
abbrev pub past_of : List Record → Cells
past_of [] = []
past_of (header ∷ rows) = filter_map past_cell rows

-- the past fixings of records, or the first refusal
unfoldable pub fixings_of : List Record → Result Cells TableRefusal
fixings_of records = unless (first_of (past_refusals records)) (past_of records)

-- the past fixings of a fixings file's bytes in the order of the file, or the first refusal
unfoldable pub fixings_in : List ℕ → Result Cells TableRefusal
fixings_in bytes = fixings_of (records_in bytes)

-- the cells on the date of a number
abbrev pub cells_at : ℤ → Cells → Cells
cells_at number cells = filter (λ cell. int_eq (day_number cell.0) number) cells

-- these cells in order of date: the days rise, and at each date they are the same
pub record IsInOrder (cells ordered : Cells) : Type 0 where
  pub rising : AreRising ordered
  pub same : (number : ℤ) → cells_at number ordered ≡ cells_at number cells

-- what was read is past fixings, and these are they in order of date
abbrev pub IsRead : Result Cells TableRefusal → Cells → Type 0
IsRead read ordered = IfOk read (λ cells. IsInOrder cells ordered) × IsOk read
