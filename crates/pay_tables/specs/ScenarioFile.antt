-- The table of a scenario file, or what it is refused for: the first of its refusals, in the order in which they are asked.
use Rattle.std.specs.Prelude.{ℕ, ◌+◌, ◌==◌, nat_le, codes, not, List, [], ◌∷◌, ◌++◌, length, map, Option, Some, None, Result, ℤ, unwrap_or}
use Rattle.std.specs.List.{filter_map}
use Rattle.std.specs.Str.{str_eq_ignore_ascii_case}
use Rattle.pay_dates.specs.Days.{day_in}
use Rattle.pay_dates.specs.declared.day.Day.{Day}
use Rattle.pay_roll.specs.Rolling.{first_of}
use Rattle.pay_roll.specs.declared.refusal.What.TheVariants.{Rows, Columns}
use Rattle.pay_tables.specs.declared.refusal.TableRefusal.{TableRefusal}
use Rattle.pay_tables.specs.declared.refusal.TableRefusal.TheVariants.{BadHeader, BadRow, BadName, TooMany}
use Rattle.pay_tables.specs.Labels.{is_label}
use Rattle.pay_tables.specs.Tables.{Row, Table}
use Rattle.pay_tables.specs.Records.{Record, records_in}
use Rattle.pay_tables.specs.Fields.{cell_in, refused_if, date_refusal, with_day, cell_refusal, unless}

-- what dates are refused for, from the left: the first of these fields is in this column, after these days
abbrev pub date_refusals : ℕ → List Day → List (List ℕ) → List (Option TableRefusal)
date_refusals column before [] = []
date_refusals column before (field ∷ rest) =
    date_refusal column before (day_in field) ∷ date_refusals (column + 1) (with_day (day_in field) before) rest

-- what the first record is refused for: its first field isn't `scenario`, in whatever case; more than 4,096 fields follow; one of these,
-- of which the first is in column 2, is no date or a date once more
abbrev pub header_refusals : Record → List (Option TableRefusal)
header_refusals [] = Some BadHeader ∷ []
header_refusals (word ∷ fields) =
    refused_if (not (str_eq_ignore_ascii_case word (codes "scenario"))) BadHeader
    ∷ refused_if (not (nat_le (length fields) 4096)) (TooMany Columns 4096)
    ∷ date_refusals 2 [] fields

-- what cells are refused for, from the left: the first of these fields is in this column
abbrev pub cell_refusals : ℕ → ℕ → List (List ℕ) → List (Option TableRefusal)
cell_refusals row column [] = []
cell_refusals row column (field ∷ rest) = cell_refusal row column (cell_in field) ∷ cell_refusals row (column + 1) rest

-- what the fields of a row are refused for: the first is no label, or one after it is no cell
abbrev pub field_refusals : ℕ → Record → List (Option TableRefusal)
field_refusals row [] = []
field_refusals row (label ∷ fields) = refused_if (not (is_label label)) (BadName row) ∷ cell_refusals row 2 fields

-- what a record under a header of so many fields is refused for: it is the row after the last that there may be; it has another number of fields;
-- or one of its fields
abbrev pub row_refusals : ℕ → ℕ → Record → List (Option TableRefusal)
row_refusals width row fields =
    refused_if (not (nat_le row 100_000)) (TooMany Rows 100_000)
    ∷ refused_if (not (length fields == width)) (BadRow row)
    ∷ field_refusals row fields

-- what records under a header of so many fields are refused for, one after the other: the first of them is this row
abbrev pub rows_refusals : ℕ → ℕ → List Record → List (Option TableRefusal)
rows_refusals width row [] = []
rows_refusals width row (fields ∷ rest) = row_refusals width row fields ++ rows_refusals width (row + 1) rest

-- what the records of a scenario file are refused for
abbrev pub table_refusals : List Record → List (Option TableRefusal)
table_refusals [] = Some BadHeader ∷ []
table_refusals (header ∷ rows) = header_refusals header ++ rows_refusals (length header) 1 rows

-- the dates of a header
abbrev pub dates_of : Record → List Day
dates_of [] = []
dates_of (word ∷ fields) = filter_map day_in fields

-- the cell of a field that is one
abbrev pub cell_of : List ℕ → Option ℤ
cell_of field = unwrap_or (cell_in field) None

-- the scenario of a row
abbrev pub row_of : Record → Row
row_of [] = record { label = []; cells = [] }
row_of (label ∷ fields) = record { label = label; cells = map cell_of fields }

-- the table of records that nothing is refused of
abbrev pub table_of : List Record → Table
table_of [] = record { dates = []; rows = [] }
table_of (header ∷ rows) = record { dates = dates_of header; rows = map row_of rows }

-- the table of records, or the first refusal
unfoldable pub scenarios_of : List Record → Result Table TableRefusal
scenarios_of records = unless (first_of (table_refusals records)) (table_of records)

-- the table of a scenario file's bytes, or the first refusal
unfoldable pub scenarios_in : List ℕ → Result Table TableRefusal
scenarios_in bytes = scenarios_of (records_in bytes)
