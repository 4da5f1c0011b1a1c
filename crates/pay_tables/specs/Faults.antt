-- Why records are refused, over all ways to cut them: nothing here is read in an order. Each fault says that none is there that is asked before it.
use Rattle.std.specs.Prelude.{◌≡◌, ◌≢◌, ℕ, ◌+◌, ◌<◌, ◌≤◌, codes, false, IsTrue, ℤ, List, [], ◌∷◌, ◌++◌, length, map, Option}
use Rattle.pay_dates.specs.Days.{IsDay, day_text}
use Rattle.pay_dates.specs.declared.day.Day.{Day}
use Rattle.pay_meaning.specs.Meaning.{Cells}
use Rattle.pay_roll.specs.declared.refusal.What.TheVariants.{Rows, Columns}
use Rattle.pay_tables.specs.declared.refusal.TableRefusal.{TableRefusal}
use Rattle.pay_tables.specs.declared.refusal.TableRefusal.TheVariants.{BadHeader, BadDate, SameDate, BadRow, BadName, BadCell, TooMany}
use Rattle.pay_tables.specs.Labels.{is_label}
use Rattle.pay_tables.specs.Tables.{Row, are_distinct, is_among}
use Rattle.pay_tables.specs.Records.{Record}
use Rattle.pay_tables.specs.Spelling.{IsWord, SpellsCell, SpellsCells, SpellsDates, SpellsRows, SpellsPastRows}

-- a field is the text of no day
abbrev pub IsNoDay : List ℕ → Type 0
IsNoDay field = (date : Day) → IsDay date → field ≢ day_text date

-- a field is no cell
abbrev pub IsNoCell : List ℕ → Type 0
IsNoCell field = (cell : Option ℤ) → ¬ SpellsCell field cell

-- a field is the text of one of these days
pub record IsOldDay (field : List ℕ) (dates : List Day) : Type 0 where
  pub date : Day
  pub day : IsDay date
  pub text : field ≡ day_text date
  pub old : IsTrue (is_among date dates)

-- why a field is refused as a date in this place, after these dates: it is none, or one of them
pub data IsDateFault (place : ℕ) (dates : List Day) (field : List ℕ) : TableRefusal → Type 0 where
  no_day : IsNoDay field → IsDateFault place dates field (BadDate place)
  old_day : IsOldDay field dates → IsDateFault place dates field (SameDate place)

-- a record is `scenario` and these fields
pub record IsHeader (header : Record) (fields : List (List ℕ)) : Type 0 where
  pub word : List ℕ
  pub cut : header ≡ word ∷ fields
  pub named : IsWord (codes "scenario") word

-- a record is `scenario` and at most 4,096 different dates
pub record SpellsHeader (header : Record) (dates : List Day) : Type 0 where
  pub fields : List (List ℕ)
  pub is_header : IsHeader header fields
  pub spells_dates : SpellsDates fields dates
  pub distinct : IsTrue (are_distinct dates)
  pub few_dates : length dates ≤ 4096

-- a record is `scenario` and at most 4,096 fields: different dates, and after them this field in this column; `scenario` is column 1
pub record HasDatesBefore (header : Record) (column : ℕ) (field : List ℕ) (dates : List Day) : Type 0 where
  pub before : List (List ℕ)
  pub after : List (List ℕ)
  pub is_header : IsHeader header (before ++ field ∷ after)
  pub few_fields : length (before ++ field ∷ after) ≤ 4096
  pub counted : column ≡ length before + 2
  pub spells_dates : SpellsDates before dates
  pub distinct : IsTrue (are_distinct dates)

-- why a record is refused as the header of a scenario file: it isn't `scenario` and fields; or these are too many; or one of them is no date, or a
-- date once more, and those before it are different dates
pub data IsHeaderFault (header : Record) : TableRefusal → Type 0 where
  no_header : ((fields : List (List ℕ)) → ¬ IsHeader header fields) → IsHeaderFault header BadHeader
  many_columns : (fields : List (List ℕ)) → IsHeader header fields → 4096 < length fields → IsHeaderFault header (TooMany Columns 4096)
  bad_date : (column : ℕ) (field : List ℕ) (dates : List Day) (refusal : TableRefusal) → HasDatesBefore header column field dates
      → IsDateFault column dates field refusal → IsHeaderFault header refusal

-- a record has a first field and one in each column after it, and there may be such a row
pub record IsFullRow (columns row : ℕ) (fields : Record) (label : List ℕ) (others : List (List ℕ)) : Type 0 where
  pub few_rows : row ≤ 100_000
  pub cut : fields ≡ label ∷ others
  pub full : length others ≡ columns

-- why a record is refused as this row of a label and so many columns: it is the first row too many; or its fields are too few or too many; or the
-- first is no label; or another is no cell, and those before it are cells
pub data IsRowFault (columns row : ℕ) (fields : Record) : TableRefusal → Type 0 where
  many_rows : row ≡ 100_001 → IsRowFault columns row fields (TooMany Rows 100_000)
  bad_row : row ≤ 100_000 → length fields ≢ columns + 1 → IsRowFault columns row fields (BadRow row)
  bad_name : (label : List ℕ) (others : List (List ℕ)) → IsFullRow columns row fields label others → is_label label ≡ false
      → IsRowFault columns row fields (BadName row)
  bad_cell : (label : List ℕ) (before : List (List ℕ)) (field : List ℕ) (after : List (List ℕ)) (cells : List (Option ℤ))
      → IsFullRow columns row fields label (before ++ field ∷ after) → IsTrue (is_label label) → SpellsCells before cells → IsNoCell field
      → IsRowFault columns row fields (BadCell row (length before + 2))

-- why records are refused as a scenario file: there is none; or the first is refused as its header; or one under a good header is refused as a row,
-- and those between spell rows; the row right under the header is row 1
pub data IsTableFault (records : List Record) : TableRefusal → Type 0 where
  no_record : records ≡ [] → IsTableFault records BadHeader
  bad_header : (header : Record) (below : List Record) (refusal : TableRefusal) → records ≡ header ∷ below → IsHeaderFault header refusal
      → IsTableFault records refusal
  bad_record : (header : Record) (above : List Record) (fields : Record) (below : List Record) (dates : List Day) (rows : List Row)
      (refusal : TableRefusal) → records ≡ header ∷ (above ++ fields ∷ below) → SpellsHeader header dates → SpellsRows (length dates) above rows
      → IsRowFault (length dates) (length above + 1) fields refusal → IsTableFault records refusal

-- a record is the fields `date` and `value`
pub record IsPastHeader (header : Record) : Type 0 where
  pub first : List ℕ
  pub second : List ℕ
  pub cut : header ≡ first ∷ second ∷ []
  pub named_date : IsWord (codes "date") first
  pub named_value : IsWord (codes "value") second

-- the days of past fixings
abbrev pub days_of : Cells → List Day
days_of cells = map (λ cell. cell.0) cells

-- a record has two fields, and there may be such a row
pub record IsFullPastRow (row : ℕ) (fields : Record) (first second : List ℕ) : Type 0 where
  pub few_rows : row ≤ 100_000
  pub cut : fields ≡ first ∷ second ∷ []

-- why a record is refused as this row under rows of these days: it is the first row too many; or its fields aren't two; or the first is no date, or a
-- date once more; or the first is a new date, and the second is no cell
pub data IsPastRowFault (row : ℕ) (dates : List Day) (fields : Record) : TableRefusal → Type 0 where
  many_rows : row ≡ 100_001 → IsPastRowFault row dates fields (TooMany Rows 100_000)
  bad_row : row ≤ 100_000 → length fields ≢ 2 → IsPastRowFault row dates fields (BadRow row)
  bad_date : (first second : List ℕ) (refusal : TableRefusal) → IsFullPastRow row fields first second → IsDateFault row dates first refusal
      → IsPastRowFault row dates fields refusal
  bad_cell : (date : Day) (second : List ℕ) → IsFullPastRow row fields (day_text date) second → IsDay date → is_among date dates ≡ false
      → IsNoCell second → IsPastRowFault row dates fields (BadCell row 2)

-- why records are refused as a fixings file: there is none; or the first isn't its header; or one under it is refused as a row, and those between
-- spell past fixings of different days
pub data IsPastFault (records : List Record) : TableRefusal → Type 0 where
  no_record : records ≡ [] → IsPastFault records BadHeader
  no_header : (header : Record) (below : List Record) → records ≡ header ∷ below → ¬ IsPastHeader header → IsPastFault records BadHeader
  bad_record : (header : Record) (above : List Record) (fields : Record) (below : List Record) (cells : Cells) (refusal : TableRefusal)
      → records ≡ header ∷ (above ++ fields ∷ below) → IsPastHeader header → SpellsPastRows above cells → IsTrue (are_distinct (days_of cells))
      → IsPastRowFault (length above + 1) (days_of cells) fields refusal → IsPastFault records refusal
