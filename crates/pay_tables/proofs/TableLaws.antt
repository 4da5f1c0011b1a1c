-- Records are read as a table exactly where they spell it.
use Rattle.std.proofs.Common.{◌≡◌, ℕ, suc, ◌+◌, ◌≤◌, List, [], ◌∷◌, All, length, map, None, Ok, refl, sym, ap, subst, ◌∙◌}
use Rattle.std.proofs.Common.{arith, eqb-true, eq-eqb, leb-true, le-leb}
use Rattle.std.specs.List.{filter_map}
use Rattle.std.proofs.lemmas.List.{length-map}
use Rattle.std.proofs.lemmas.List.Elements.{All-nil, All-cons, All-weaker}
use Rattle.pay_dates.specs.Days.{day_in}
use Rattle.pay_dates.specs.declared.day.Day.{Day}
use Rattle.pay_roll.specs.Rolling.{first_of}
use Rattle.pay_tables.specs.Tables.{Row, Table, IsCell, IsGood}
use Rattle.pay_tables.specs.Records.{Record}
use Rattle.pay_tables.specs.ScenarioFile.{header_refusals, cell_refusals, field_refusals, row_refusals, rows_refusals, table_refusals}
use Rattle.pay_tables.specs.ScenarioFile.{cell_of, dates_of, row_of, table_of, scenarios_of}
use Rattle.pay_tables.specs.Spelling.{SpellsRows, SpellsTable}
use Rattle.pay_tables.specs.Faults.{SpellsHeader}
use Rattle.pay_tables.specs.Laws.{TableIsSpelled}
use Rattle.pay_tables.proofs.Refusals.{first_of-back, none-cons, none-append, refused_if-not-none, unless-ok}
use Rattle.pay_tables.proofs.NewDays.{new-distinct}
use Rattle.pay_tables.proofs.FieldLaws.{cells-spelled, spelled-cells, length-cells, cells-good, dates-spelled, spelled-dates, length-dates}

-- a record of which nothing is refused isn't beyond the last row, has as many fields as the header, and nothing of them is refused
row-parts : (width row : ℕ) (fields : Record) → first_of (row_refusals width row fields) ≡ None
    → (row ≤ 100_000) × (length fields ≡ width) × (first_of (field_refusals row fields) ≡ None)
row-parts width row fields none =
    let few = none-cons _ _ none in
    let full = none-cons _ _ few.1 in
    (leb-true row 100_000 (refused_if-not-none _ _ few.0), eqb-true (length fields) width (refused_if-not-none _ _ full.0), full.1)

-- records of which nothing is refused spell their rows, and none is beyond the last that there may be
pub rows-spelled : (columns row : ℕ) (records : List Record) → row ≤ 100_001 → first_of (rows_refusals (suc columns) row records) ≡ None
    → SpellsRows columns records (map row_of records) × (row + length records ≤ 100_001)
rows-spelled columns row [] few none = (SpellsRows.no_row, omega arith)
rows-spelled columns row (fields ∷ rest) few none =
    let parts = none-append (row_refusals (suc columns) row fields) _ none in
    let first = row-parts (suc columns) row fields parts.0 in
    let next = rows-spelled columns (row + 1) rest (omega arith) parts.1 in
    (at fields first.1 first.2 next.0, omega arith)
  where
    at : (fields : Record) → length fields ≡ suc columns → first_of (field_refusals row fields) ≡ None → SpellsRows columns rest (map row_of rest)
        → SpellsRows columns (fields ∷ rest) (row_of fields ∷ map row_of rest)
    at [] full none more = cc
    at (label ∷ fields) full none more =
        let parts = none-cons _ _ none in
        let cells = cells-spelled row 2 fields parts.1 in
        SpellsRows.next_row label fields (map cell_of fields) rest (map row_of rest) (refused_if-not-none _ _ parts.0) cells
        (omega (arith, length-cells fields (map cell_of fields) cells)) more

-- a header of which nothing is refused spells its dates
pub header-spelled : (header : Record) → first_of (header_refusals header) ≡ None → SpellsHeader header (dates_of header)
header-spelled [] none = cc
header-spelled (word ∷ fields) none =
    let named = none-cons _ _ none in
    let few = none-cons _ _ named.1 in
    let dates = dates-spelled 2 [] fields few.1 in
    let size = length-dates fields (filter_map day_in fields) dates.0 in
    record {
      fields = fields;
      is_header = record { word = word; cut = refl; named = refused_if-not-none _ _ named.0 };
      spells_dates = dates.0;
      distinct = sym (new-distinct (filter_map day_in fields)) ∙ dates.1;
      few_dates = subst (λ count. count ≤ 4096) size (leb-true (length fields) 4096 (refused_if-not-none _ _ few.0));
    }

-- nothing is refused of a header that spells dates, and it is read as these
pub spelled-header : (header : Record) (dates : List Day) → SpellsHeader header dates
    → (first_of (header_refusals header) ≡ None) × (dates_of header ≡ dates)
spelled-header header dates s =
    let size = length-dates s.fields dates s.spells_dates in
    let read = spelled-dates 2 [] s.fields dates s.spells_dates (new-distinct dates ∙ s.distinct) in
    rw (s.is_header.cut, s.is_header.named, le-leb (length s.fields) 4096 (omega (arith, s.few_dates))) read

-- a header has a field for each date, and one more
pub length-header : (header : Record) (dates : List Day) → SpellsHeader header dates → length header ≡ suc (length dates)
length-header header dates s = rw s.is_header.cut (ap suc (length-dates s.fields dates s.spells_dates))

-- records of which nothing is refused spell their table
table-spelled : (records : List Record) → first_of (table_refusals records) ≡ None → SpellsTable records (table_of records)
table-spelled [] none = cc
table-spelled (header ∷ below) none =
    let parts = none-append (header_refusals header) (rows_refusals (length header) 1 below) none in
    let dates = header-spelled header parts.0 in
    let size = length-header header (dates_of header) dates in
    let accepted = subst (λ width. first_of (rows_refusals width 1 below) ≡ None) size parts.1 in
    let rows = rows-spelled (length (dates_of header)) 1 below (omega arith) accepted in
    record {
      word = dates.is_header.word;
      fields = dates.fields;
      below = below;
      cut = ap (λ (fields : Record). fields ∷ below) dates.is_header.cut;
      named = dates.is_header.named;
      spells_dates = dates.spells_dates;
      distinct = dates.distinct;
      few_dates = dates.few_dates;
      spells_rows = rows.0;
      few_rows = omega (arith, rows.1, length-map below row_of);
    }

-- nothing is refused of records that spell rows, and they are read as these
pub spelled-rows : (columns row : ℕ) (records : List Record) (rows : List Row) → SpellsRows columns records rows → row + length rows ≤ 100_001
    → (first_of (rows_refusals (suc columns) row records) ≡ None) × (map row_of records ≡ rows)
spelled-rows columns row records rows SpellsRows.no_row few = (refl, refl)
spelled-rows columns row records rows (SpellsRows.next_row label fields cells rest others is spells full more) few =
    let read = spelled-cells row 2 fields cells spells in
    let next = spelled-rows columns (row + 1) rest others more (omega arith) in
    let size : length fields ≡ columns = length-cells fields cells spells ∙ full in
    rw (le-leb row 100_000 (omega arith), eq-eqb (length (label ∷ fields)) (suc columns) (ap suc size), is, read.1) (
      first_of-back (cell_refusals row 2 fields) (rows_refusals (suc columns) (row + 1) rest) read.0 ∙ next.0,
      ap (λ xs. record { label = label; cells = cells } ∷ xs) next.1,
    )

-- nothing is refused of records that spell a table, and they are read as it
spelled-table : (records : List Record) (table : Table) → SpellsTable records table
    → (first_of (table_refusals records) ≡ None) × (table_of records ≡ table)
spelled-table records table s =
    let header : SpellsHeader (s.word ∷ s.fields) table.dates = record {
      fields = s.fields;
      is_header = record { word = s.word; cut = refl; named = s.named };
      spells_dates = s.spells_dates;
      distinct = s.distinct;
      few_dates = s.few_dates;
    } in
    let dates = spelled-header (s.word ∷ s.fields) table.dates header in
    let rows = spelled-rows (length table.dates) 1 s.below table.rows s.spells_rows (omega (arith, s.few_rows)) in
    rw (s.cut, length-header (s.word ∷ s.fields) table.dates header, dates.1, rows.1)
    (first_of-back (header_refusals (s.word ∷ s.fields)) _ dates.0 ∙ rows.0, refl)

-- a row has a cell for each column, which is empty or can be a fixing
abbrev IsFull : ℕ → Row → Type 0
IsFull columns row = (length row.cells ≡ columns) × All IsCell row.cells

-- rows that are spelled are full
rows-full : (columns : ℕ) (records : List Record) (rows : List Row) → SpellsRows columns records rows → All (IsFull columns) rows
rows-full columns records rows SpellsRows.no_row = All-nil (IsFull columns)
rows-full columns records rows (SpellsRows.next_row label fields cells rest others is spells full more) =
    All-cons (IsFull columns) (record { label = label; cells = cells }) others
    (full, cells-good fields cells spells) (rows-full columns rest others more)

-- a table that records spell is good
spelled-good : (records : List Record) (table : Table) → SpellsTable records table → IsGood table
spelled-good records table s =
    let rows = rows-full (length table.dates) s.below table.rows s.spells_rows in
    record {
      few_dates = s.few_dates;
      distinct = s.distinct;
      few_rows = s.few_rows;
      full = All-weaker (IsFull (length table.dates)) (λ row. length row.cells ≡ length table.dates) (λ row both. both.0) table.rows rows;
      fixings = All-weaker (IsFull (length table.dates)) (λ row. All IsCell row.cells) (λ row both. both.1) table.rows rows;
    }

-- the table of records of which nothing is refused is good
pub table-good : (records : List Record) → first_of (table_refusals records) ≡ None → IsGood (table_of records)
table-good records none = spelled-good records (table_of records) (table-spelled records none)

-- records are read as a table exactly where they spell it, and then it is good
pub table-is-spelled : TableIsSpelled
unfolding scenarios_of
table-is-spelled = record {
  spelled = λ records table is.
      let read = unless-ok (first_of (table_refusals records)) (table_of records) table is in
      subst (SpellsTable records) read.1 (table-spelled records read.0);
  read = λ records table s. let read = spelled-table records table s in rw read.0 (ap (λ found. Ok found) read.1);
  good = spelled-good;
}
