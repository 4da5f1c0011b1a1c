-- Records are read as past fixings exactly where they spell them.
use Rattle.std.proofs.Common.{◌≡◌, ℕ, ◌+◌, ◌≤◌, true, not, List, [], ◌∷◌, ◌++◌, length, None, Option, Ok, refl, sym, ap, subst}
use Rattle.std.proofs.Common.{◌∙◌, arith, leb-true, le-leb}
use Rattle.std.specs.Prelude.{nat_le, codes}
use Rattle.std.specs.List.{filter_map}
use Rattle.std.specs.Str.{str_eq_ignore_ascii_case}
use Rattle.std.proofs.lemmas.Bool.{and_parts, not-true}
use Rattle.pay_dates.specs.Days.{day_in}
use Rattle.pay_dates.specs.declared.day.Day.{Day}
use Rattle.pay_dates.proofs.DayLemmas.{day_in-day_text}
use Rattle.pay_meaning.specs.Meaning.{Cells}
use Rattle.pay_roll.specs.Rolling.{first_of}
use Rattle.pay_roll.specs.declared.refusal.What.TheVariants.{Rows}
use Rattle.pay_tables.specs.declared.refusal.TableRefusal.{TableRefusal}
use Rattle.pay_tables.specs.declared.refusal.TableRefusal.TheVariants.{TooMany}
use Rattle.pay_tables.specs.Tables.{is_among}
use Rattle.pay_tables.specs.Records.{Record}
use Rattle.pay_tables.specs.Fields.{refused_if, cell_in, date_refusal, cell_refusal}
use Rattle.pay_tables.specs.ScenarioFile.{cell_of}
use Rattle.pay_tables.specs.FixingsFile.{is_past_header, past_cell, past_of, past_row_refusals, past_rows_refusals, past_refusals, fixings_of}
use Rattle.pay_tables.specs.Spelling.{SpellsPastRows, SpellsPast}
use Rattle.pay_tables.specs.Faults.{IsPastHeader, days_of}
use Rattle.pay_tables.specs.Laws.{PastIsSpelled}
use Rattle.pay_tables.proofs.Refusals.{none-cons, refused_if-not-none, unless-ok}
use Rattle.pay_tables.proofs.NewDays.{are_new, new-distinct}
use Rattle.pay_tables.proofs.FieldLaws.{cell-spelled, spelled-cell, date-read}

-- a record of which nothing is refused isn't beyond the last row, and nothing of its date, its cell and what follows is refused
row-parts : (row : ℕ) (before : List Day) (date value : List ℕ) (more : List (Option TableRefusal))
    → first_of (past_row_refusals row before (date ∷ value ∷ []) ++ more) ≡ None
    → (row ≤ 100_000) × (date_refusal row before (day_in date) ≡ None) × (cell_refusal row 2 (cell_in value) ≡ None) × (first_of more ≡ None)
row-parts row before date value more none =
    let few = none-cons _ _ none in
    let date_good = none-cons _ _ few.1 in
    let value_good = none-cons _ _ date_good.1 in
    (leb-true row 100_000 (refused_if-not-none _ _ few.0), date_good.0, value_good.0, value_good.1)

-- records of which nothing is refused spell their past fixings, of new days, and none is beyond the last that there may be
pub rows-spelled : (row : ℕ) (before : List Day) (records : List Record) → row ≤ 100_001 → first_of (past_rows_refusals row before records) ≡ None
    → SpellsPastRows records (filter_map past_cell records) × (are_new before (days_of (filter_map past_cell records)) ≡ true)
    × (row + length (filter_map past_cell records) ≤ 100_001)
rows-spelled row before [] few none = (SpellsPastRows.no_past, refl, omega arith)
rows-spelled row before ((text ∷ value ∷ []) ∷ rest) few none =
    let parts = row-parts row before text value _ none in
    let first = date-read row before text parts.1 in
    let date = first.0 in
    let is = first.1 in
    let next = rows-spelled (row + 1) (date ∷ before) rest (omega arith) (rw is.read at parts.3) in
    let cell = cell-spelled row 2 value parts.2 in
    let spells = SpellsPastRows.next_past date value (cell_of value) rest (filter_map past_cell rest) is.day cell next.0 in
    rw (is.read, is.new) (
      subst (λ field. SpellsPastRows ((field ∷ value ∷ []) ∷ rest) ((date, cell_of value) ∷ filter_map past_cell rest)) is.text spells,
      next.1,
      omega arith,
    )
rows-spelled row before (other ∷ rest) few none =
    let few = none-cons (refused_if (not (nat_le row 100_000)) (TooMany Rows 100_000)) _ none in
    cc few.1

-- a header that isn't refused is `date` and `value`
pub header-spelled : (header : Record) → is_past_header header ≡ true → IsPastHeader header
header-spelled (first ∷ second ∷ []) is =
    let both = and_parts (str_eq_ignore_ascii_case first (codes "date")) (str_eq_ignore_ascii_case second (codes "value")) is in
    record { first = first; second = second; cut = refl; named_date = both.0; named_value = both.1 }
header-spelled other is = cc

-- and `date` and `value` aren't refused
pub spelled-header : (header : Record) → IsPastHeader header → is_past_header header ≡ true
spelled-header header is = rw (is.cut, is.named_date, is.named_value) refl

-- records of which nothing is refused spell their past fixings
past-spelled : (records : List Record) → first_of (past_refusals records) ≡ None → SpellsPast records (past_of records)
past-spelled [] none = cc
past-spelled (header ∷ below) none =
    let parts = none-cons _ _ none in
    let named = header-spelled header (refused_if-not-none _ _ parts.0) in
    let rows = rows-spelled 1 [] below (omega arith) parts.1 in
    record {
      first = named.first;
      second = named.second;
      below = below;
      cut = ap (λ (fields : Record). fields ∷ below) named.cut;
      named_date = named.named_date;
      named_value = named.named_value;
      spells_rows = rows.0;
      distinct = sym (new-distinct (days_of (filter_map past_cell below))) ∙ rows.1;
      few_rows = omega (arith, rows.2);
    }

-- nothing is refused of records that spell past fixings of new days, and they are read as these
pub spelled-rows : (row : ℕ) (before : List Day) (records : List Record) (cells : Cells) → SpellsPastRows records cells
    → are_new before (days_of cells) ≡ true → row + length cells ≤ 100_001
    → (first_of (past_rows_refusals row before records) ≡ None) × (filter_map past_cell records ≡ cells)
spelled-rows row before records cells SpellsPastRows.no_past new few = (refl, refl)
spelled-rows row before records cells (SpellsPastRows.next_past date field cell rest others is spells more) new few =
    let parts = and_parts (not (is_among date before)) (are_new (date ∷ before) (days_of others)) new in
    let next = spelled-rows (row + 1) (date ∷ before) rest others more parts.1 (omega arith) in
    rw (le-leb row 100_000 (omega arith), day_in-day_text date is, not-true (is_among date before) parts.0, spelled-cell field cell spells)
    (next.0, ap (λ (xs : Cells). (date, cell) ∷ xs) next.1)

-- nothing is refused of records that spell past fixings, and they are read as these
spelled-past : (records : List Record) (past : Cells) → SpellsPast records past → (first_of (past_refusals records) ≡ None) × (past_of records ≡ past)
spelled-past records past s =
    let rows = spelled-rows 1 [] s.below past s.spells_rows (new-distinct (days_of past) ∙ s.distinct) (omega (arith, s.few_rows)) in
    rw s.cut (rw (s.named_date, s.named_value) rows.0, rows.1)

-- records are read as past fixings exactly where they spell them
pub past-is-spelled : PastIsSpelled
unfolding fixings_of
past-is-spelled = record {
  spelled = λ records past is.
      let read = unless-ok (first_of (past_refusals records)) (past_of records) past is in
      subst (SpellsPast records) read.1 (past-spelled records read.0);
  read = λ records past s. let read = spelled-past records past s in rw read.0 (ap (λ found. Ok found) read.1);
}
