-- The rows of a fixings file, asked one after the other, and their fixings in a map by date.
use Rattle.std.proofs.Common.{◌≡◌, ℕ, ◌+◌, ℤ, false, ◌||◌, List, [], ◌∷◌, ◌++◌, length, Option, Some, None, Ok, IsTrue, refl, sym, ap, subst, ◌∙◌}
use Rattle.std.proofs.lemmas.List.{append-nil}
use Rattle.std.specs.BTreeMap.{insert_entry}
use Rattle.std.specs.List.{filter_map, cons_option}
use Rattle.std.specs.List.Sorted.{IsStrictlySortedBy}
use Rattle.std.specs.Map.{keys_of}
use Rattle.std.specs.Option.{option_map}
use Rattle.std.specs.Ordering.{int_eq}
use Rattle.pay_dates.specs.Days.{day_in, day_number, day_cmp}
use Rattle.pay_dates.specs.declared.day.Day.{Day}
use Rattle.pay_meaning.specs.Meaning.{Cells}
use Rattle.pay_roll.specs.Rolling.{first_of}
use Rattle.pay_tables.specs.declared.refusal.TableRefusal.{TableRefusal}
use Rattle.pay_tables.specs.declared.refusal.TableRefusal.TheVariants.{SameDate}
use Rattle.pay_tables.specs.Fields.{date_refusal, refused_if, unless, with_day}
use Rattle.pay_tables.specs.FixingsFile.{IsInOrder, cells_at, date_in, fixings_in, fixings_of, is_past_header, past_cell, past_of}
use Rattle.pay_tables.specs.FixingsFile.{past_refusals, past_row_refusals, past_rows_refusals}
use Rattle.pay_tables.specs.Records.{Record, records_in}
use Rattle.pay_tables.specs.ScenarioFile.{cell_of}
use Rattle.pay_tables.specs.Tables.{is_among}
use Rattle.pay_tables.specs.Views.{IsFirst, Refuses}
use Rattle.pay_tables.proofs.DayMaps.{HaveSame, cells_at-insert, ordered-rising}
use Rattle.pay_tables.proofs.Refusals.{first_of-back, IsFirst-front, Refuses-unless}

-- days refuse the dates that the same days refuse
date_refusal-same : (row : ℕ) (days others : List Day) (found : Option Day) → HaveSame days others
    → date_refusal row days found ≡ date_refusal row others found
date_refusal-same row days others None same = refl
date_refusal-same row days others (Some date) same = ap (λ seen. refused_if seen (SameDate row)) (same date)

-- days have the same with one day more
with_day-same : (days others : List Day) (found : Option Day) → HaveSame days others → HaveSame (with_day found days) (with_day found others)
with_day-same days others None same = same
with_day-same days others (Some day) same = λ date. ap (λ seen. int_eq (day_number day) (day_number date) || seen) (same date)

-- days refuse the row that the same days refuse
row-same : (row : ℕ) (days others : List Day) (fields : Record) → HaveSame days others
    → past_row_refusals row days fields ≡ past_row_refusals row others fields
row-same row days others (date ∷ value ∷ []) same = rw (date_refusal-same row days others (day_in date) same) refl
row-same row days others fields same = refl

-- days refuse the rows that the same days refuse
rows-same : (row : ℕ) (days others : List Day) (rows : List Record) → HaveSame days others
    → past_rows_refusals row days rows ≡ past_rows_refusals row others rows
rows-same row days others [] same = refl
rows-same row days others (fields ∷ rest) same =
    ap (λ first. first ++ past_rows_refusals (row + 1) (with_day (date_in fields) days) rest) (row-same row days others fields same)
    ∙ ap (λ rows. past_row_refusals row others fields ++ rows) (rows-same (row + 1) _ _ rest (with_day-same days others (date_in fields) same))

-- the date of a row that has a past fixing is the fixing's
date_in-cell : (fields : Record) (cell : Day × Option ℤ) → past_cell fields ≡ Some cell → date_in fields ≡ Some cell.0
date_in-cell (date ∷ value ∷ []) cell is = at (day_in date) is
  where
    at : (found : Option Day) → option_map (λ day. (day, cell_of value)) found ≡ Some cell → found ≡ Some cell.0
    at None is = cc
    at (Some day) is = ap (option_map (λ (pair : Day × Option ℤ). pair.0)) is
date_in-cell fields cell is = cc

-- a row that nothing is refused of is followed by the others, after its date
row_accepted : (row : ℕ) (before after : List Day) (fields : Record) (rest : List Record) (cell : Day × Option ℤ)
    → first_of (past_row_refusals row before fields) ≡ None → past_cell fields ≡ Some cell → HaveSame (cell.0 ∷ before) after
    → first_of (past_rows_refusals row before (fields ∷ rest)) ≡ first_of (past_rows_refusals (row + 1) after rest)
row_accepted row before after fields rest cell accepted is same =
    first_of-back (past_row_refusals row before fields) _ accepted
    ∙ ap (λ found. first_of (past_rows_refusals (row + 1) (with_day found before) rest)) (date_in-cell fields cell is)
    ∙ ap (λ refusals. first_of refusals) (rows-same (row + 1) (cell.0 ∷ before) after rest same)

-- the cells of a map and those of the rows that are left stay the same while a row goes into the map
cells_at-row : (number : ℤ) (cells : Cells) (fields : Record) (rest : List Record) (cell : Day × Option ℤ)
    → past_cell fields ≡ Some cell → is_among cell.0 (keys_of cells) ≡ false
    → cells_at number (insert_entry day_cmp cells cell.0 cell.1) ++ cells_at number (filter_map past_cell rest)
    ≡ cells_at number cells ++ cells_at number (filter_map past_cell (fields ∷ rest))
cells_at-row number cells fields rest cell is new =
    cells_at-insert number cell.0 cell.1 cells (filter_map past_cell rest) new
    ∙ ap (λ found. cells_at number cells ++ cells_at number (cons_option found (filter_map past_cell rest))) (sym is)

-- the rows of a file up to those that are left are in a map: nothing is refused of them, and their cells are those of the map
pub record IsUpTo (all rest : List Record) (cells : Cells) : Type 0 where
  pub accepted : first_of (past_rows_refusals 1 [] all) ≡ first_of (past_rows_refusals (length cells + 1) (keys_of cells) rest)
  pub same : (number : ℤ) → cells_at number cells ++ cells_at number (filter_map past_cell rest) ≡ cells_at number (filter_map past_cell all)

-- one row more is in the map
pub more_up_to : {all rows rest : List Record} {fields : Record} {cells after : Cells} (cell : Day × Option ℤ) (count : ℕ)
    → IsUpTo all rows cells → rows ≡ fields ∷ rest → count ≡ length cells → first_of (past_row_refusals (count + 1) (keys_of cells) fields) ≡ None
    → past_cell fields ≡ Some cell → is_among cell.0 (keys_of cells) ≡ false → after ≡ insert_entry day_cmp cells cell.0 cell.1
    → HaveSame (cell.0 ∷ keys_of cells) (keys_of after) → length after ≡ length cells + 1 → IsUpTo all rest after
more_up_to {rest = rest} {fields = fields} {cells = cells} {after = after} cell count so_far cut counted accepted is new put keys longer =
    let fine = subst (λ (n : ℕ). first_of (past_row_refusals (n + 1) (keys_of cells) fields) ≡ None) counted accepted in
    record {
      accepted = rw longer
          (so_far.accepted ∙ ap (λ rows. first_of (past_rows_refusals (length cells + 1) (keys_of cells) rows)) cut
          ∙ row_accepted (length cells + 1) (keys_of cells) (keys_of after) fields rest cell fine is keys);
      same = λ number. rw put
          (cells_at-row number cells fields rest cell is new ∙ ap (λ rows. cells_at number cells ++ cells_at number (filter_map past_cell rows)) (sym cut)
          ∙ so_far.same number);
    }

-- what refuses the next row refuses the rows
pub refused_up_to : {all rows rest : List Record} {fields : Record} {cells : Cells} (count : ℕ) (refusal : TableRefusal) → IsUpTo all rows cells
    → rows ≡ fields ∷ rest → count ≡ length cells → IsFirst (first_of (past_row_refusals (count + 1) (keys_of cells) fields)) refusal
    → IsFirst (first_of (past_rows_refusals 1 [] all)) refusal
refused_up_to {rest = rest} {fields = fields} {cells = cells} count refusal so_far cut counted is =
    let row = subst (λ (n : ℕ). IsFirst (first_of (past_row_refusals (n + 1) (keys_of cells) fields)) refusal) counted is in
    let rows = so_far.accepted ∙ ap (λ rows. first_of (past_rows_refusals (length cells + 1) (keys_of cells) rows)) cut in
    subst (λ found. IsFirst found refusal) (sym rows) (IsFirst-front (past_row_refusals (length cells + 1) (keys_of cells) fields) _ refusal row)

-- once no row is left nothing is refused of any
pub accepted_up_to : {all rows : List Record} {cells : Cells} → IsUpTo all rows cells → rows ≡ [] → first_of (past_rows_refusals 1 [] all) ≡ None
accepted_up_to {cells = cells} so_far ends =
    so_far.accepted ∙ ap (λ rest. first_of (past_rows_refusals (length cells + 1) (keys_of cells) rest)) ends

-- once no row is left the map has the cells of the rows in order
pub in_order_up_to : {all rows : List Record} {cells : Cells} → IsUpTo all rows cells → rows ≡ [] → IsStrictlySortedBy day_cmp (keys_of cells)
    → IsInOrder (filter_map past_cell all) cells
in_order_up_to {cells = cells} so_far ends sorted = record {
  rising = ordered-rising cells sorted;
  same = λ number.
      sym (append-nil (cells_at number cells)) ∙ ap (λ rows. cells_at number cells ++ cells_at number (filter_map past_cell rows)) (sym ends)
      ∙ so_far.same number;
}

-- a file is refused for the first refusal of its records
pub file_refused : (bytes : List ℕ) (records : List Record) (refusal : TableRefusal) → records ≡ records_in bytes
    → IsFirst (first_of (past_refusals records)) refusal → Refuses (fixings_in bytes) refusal
unfolding fixings_in fixings_of
file_refused bytes records refusal same is = rw (sym same) (Refuses-unless (first_of (past_refusals records)) (past_of records) refusal is)

-- under a header the rows decide
under_header : (header : Record) (rows : List Record) → IsTrue (is_past_header header)
    → first_of (past_refusals (header ∷ rows)) ≡ first_of (past_rows_refusals 1 [] rows)
under_header header rows named = rw named refl

-- a file with a header is refused for the first refusal of its rows
pub rows_refused : (bytes : List ℕ) (header : Record) (rows : List Record) (refusal : TableRefusal) → header ∷ rows ≡ records_in bytes
    → IsTrue (is_past_header header) → IsFirst (first_of (past_rows_refusals 1 [] rows)) refusal → Refuses (fixings_in bytes) refusal
rows_refused bytes header rows refusal same named is =
    file_refused bytes (header ∷ rows) refusal same (subst (λ found. IsFirst found refusal) (sym (under_header header rows named)) is)

-- a file with a header is read where nothing refuses its rows
pub rows_read : (bytes : List ℕ) (header : Record) (rows : List Record) → header ∷ rows ≡ records_in bytes
    → IsTrue (is_past_header header) → first_of (past_rows_refusals 1 [] rows) ≡ None → fixings_in bytes ≡ Ok (filter_map past_cell rows)
unfolding fixings_in fixings_of
rows_read bytes header rows same named accepted =
    rw (sym same) (ap (λ found. unless found (filter_map past_cell rows)) (under_header header rows named ∙ accepted))
