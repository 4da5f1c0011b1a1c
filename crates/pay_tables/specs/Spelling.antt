-- Which records spell which table, and which spell which past fixings: nothing here is read in an order.
use Rattle.std.specs.Prelude.{◌≡◌, ℕ, ◌≤◌, codes, IsTrue, ℤ, List, [], ◌∷◌, length, map, Option, Some, None}
use Rattle.std.specs.Str.{str_eq_ignore_ascii_case}
use Rattle.pay_dates.specs.Days.{IsDay, day_text}
use Rattle.pay_dates.specs.declared.day.Day.{Day}
use Rattle.pay_fixed.specs.Grammar.{SpellsRaw}
use Rattle.pay_meaning.specs.Meaning.{Cells}
use Rattle.pay_tables.specs.Labels.{is_label}
use Rattle.pay_tables.specs.Tables.{Row, Table, is_fixing, are_distinct}
use Rattle.pay_tables.specs.Records.{Record}

-- a field is this word, in whatever case
abbrev pub IsWord : List ℕ → List ℕ → Type 0
IsWord word field = IsTrue (str_eq_ignore_ascii_case field word)

-- an empty field is an empty cell, and a field that spells a raw that can be a fixing is that raw
pub data SpellsCell : List ℕ → Option ℤ → Type 0 where
  empty_cell : SpellsCell [] None
  given_cell : (field : List ℕ) (raw : ℤ) → SpellsRaw field raw → IsTrue (is_fixing raw) → SpellsCell field (Some raw)

-- a field for each cell
pub data SpellsCells : List (List ℕ) → List (Option ℤ) → Type 0 where
  no_cell : SpellsCells [] []
  next_cell : (field : List ℕ) (cell : Option ℤ) (fields : List (List ℕ)) (cells : List (Option ℤ)) → SpellsCell field cell
      → SpellsCells fields cells → SpellsCells (field ∷ fields) (cell ∷ cells)

-- a field for each day
pub data SpellsDates : List (List ℕ) → List Day → Type 0 where
  no_date : SpellsDates [] []
  next_date : (date : Day) (fields : List (List ℕ)) (dates : List Day) → IsDay date → SpellsDates fields dates
      → SpellsDates (day_text date ∷ fields) (date ∷ dates)

-- records of a label and a cell for each of so many columns
pub data SpellsRows (columns : ℕ) : List Record → List Row → Type 0 where
  no_row : SpellsRows columns [] []
  next_row : (label : List ℕ) (fields : List (List ℕ)) (cells : List (Option ℤ)) (records : List Record) (rows : List Row)
      → IsTrue (is_label label) → SpellsCells fields cells → length cells ≡ columns → SpellsRows columns records rows
      → SpellsRows columns ((label ∷ fields) ∷ records) (record { label = label; cells = cells } ∷ rows)

-- these records spell this table: `scenario` with at most 4,096 different dates, and under it at most 100,000 rows with a cell for each date
pub record SpellsTable (records : List Record) (table : Table) : Type 0 where
  pub word : List ℕ
  pub fields : List (List ℕ)
  pub below : List Record
  pub cut : records ≡ (word ∷ fields) ∷ below
  pub named : IsWord (codes "scenario") word
  pub spells_dates : SpellsDates fields table.dates
  pub distinct : IsTrue (are_distinct table.dates)
  pub few_dates : length table.dates ≤ 4096
  pub spells_rows : SpellsRows (length table.dates) below table.rows
  pub few_rows : length table.rows ≤ 100_000

-- records of a day and a cell
pub data SpellsPastRows : List Record → Cells → Type 0 where
  no_past : SpellsPastRows [] []
  next_past : (date : Day) (field : List ℕ) (cell : Option ℤ) (records : List Record) (cells : Cells) → IsDay date → SpellsCell field cell
      → SpellsPastRows records cells → SpellsPastRows ((day_text date ∷ field ∷ []) ∷ records) ((date, cell) ∷ cells)

-- these records spell these past fixings: `date` and `value`, and under them at most 100,000 rows of different days with a cell each
pub record SpellsPast (records : List Record) (past : Cells) : Type 0 where
  pub first : List ℕ
  pub second : List ℕ
  pub below : List Record
  pub cut : records ≡ (first ∷ second ∷ []) ∷ below
  pub named_date : IsWord (codes "date") first
  pub named_value : IsWord (codes "value") second
  pub spells_rows : SpellsPastRows below past
  pub distinct : IsTrue (are_distinct (map (λ cell. cell.0) past))
  pub few_rows : length past ≤ 100_000
