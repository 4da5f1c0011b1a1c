-- Records are refused as past fixings exactly for their fault.
use Rattle.std.proofs.Common.{◌≡◌, ◌≢◌, ℕ, suc, ◌+◌, ◌≤◌, List, [], ◌∷◌, length, Some, refl, sym, ap, subst, ◌∙◌, arith, inl, inr}
use Rattle.std.proofs.Common.{leb-true, le-leb, leb-false}
use Rattle.std.specs.Prelude.{nat_le}
use Rattle.std.specs.List.{filter_map}
use Rattle.std.proofs.lemmas.Bool.{lt-leb, false_from_ne_true, false≢true}
use Rattle.pay_dates.specs.Days.{day_in}
use Rattle.pay_dates.specs.declared.day.Day.{Day}
use Rattle.pay_dates.proofs.DayLemmas.{day_in-day_text}
use Rattle.pay_meaning.specs.Meaning.{Cells}
use Rattle.pay_roll.specs.Rolling.{first_of}
use Rattle.pay_tables.specs.declared.refusal.TableRefusal.{TableRefusal}
use Rattle.pay_tables.specs.declared.refusal.TableRefusal.TheVariants.{BadHeader, BadRow}
use Rattle.pay_tables.specs.Faults.{IsPastRowFault, IsPastFault, days_of}
use Rattle.pay_tables.specs.Fields.{cell_in, date_refusal, cell_refusal}
use Rattle.pay_tables.specs.FixingsFile.{is_past_header, date_in, past_cell, past_of, past_field_refusals, past_row_refusals, past_rows_refusals}
use Rattle.pay_tables.specs.FixingsFile.{past_refusals, fixings_of}
use Rattle.pay_tables.specs.Laws.{PastRefusalHasCause}
use Rattle.pay_tables.specs.Records.{Record}
use Rattle.pay_tables.specs.Spelling.{SpellsPastRows}
use Rattle.pay_tables.specs.Tables.{is_among}
use Rattle.pay_tables.proofs.Asking.{Asking, found, refused-first, seen, seen-same}
use Rattle.pay_tables.proofs.DayMaps.{HaveSame}
use Rattle.pay_tables.proofs.FieldFaults.{date-fault, fault-date, read-no_cell, no_cell-read}
use Rattle.pay_tables.proofs.FieldLaws.{date-read}
use Rattle.pay_tables.proofs.NewDays.{new-distinct}
use Rattle.pay_tables.proofs.PastLaws.{header-spelled, spelled-header, rows-spelled, spelled-rows}
use Rattle.pay_tables.proofs.Refusals.{first_of-one, some-append, test-first, unless-err}

-- how the rows are asked
abbrev ask_rows : Asking Record
ask_rows = record {
  day = date_in;
  one = past_row_refusals;
  all = past_rows_refusals;
  none = λ row before. refl;
  more = λ row before fields rest. refl;
}

-- the dates of records that spell past fixings are the days of these
dates-past : (records : List Record) (cells : Cells) → SpellsPastRows records cells → filter_map date_in records ≡ days_of cells
dates-past records cells SpellsPastRows.no_past = refl
dates-past records cells (SpellsPastRows.next_past date field cell rest others is spells more) =
    rw (day_in-day_text date is) (ap (λ days. date ∷ days) (dates-past rest others more))

-- so these days are seen of them
seen-past : (records : List Record) (cells : Cells) → SpellsPastRows records cells → HaveSame (seen date_in [] records) (days_of cells)
seen-past records cells spells date = seen-same date_in records date ∙ ap (is_among date) (dates-past records cells spells)

-- there is a record for each past fixing
length-past : (records : List Record) (cells : Cells) → SpellsPastRows records cells → length records ≡ length cells
length-past records cells SpellsPastRows.no_past = refl
length-past records cells (SpellsPastRows.next_past date field cell rest others is spells more) = ap suc (length-past rest others more)

-- two fields that are refused are a fault of the row
fields-fault : (row : ℕ) (days dates : List Day) (first second : List ℕ) (refusal : TableRefusal) → HaveSame days dates → row ≤ 100_000
    → first_of (past_field_refusals row days (first ∷ second ∷ [])) ≡ Some refusal → IsPastRowFault row dates (first ∷ second ∷ []) refusal
fields-fault row days dates first second refusal same few is =
    elim (some-append (date_refusal row days (day_in first) ∷ []) (cell_refusal row 2 (cell_in second) ∷ []) refusal is) [
      | inl bad ↦
          let fault = date-fault row days dates first refusal same (sym (first_of-one _) ∙ bad) in
          IsPastRowFault.bad_date first second refusal (record { few_rows = few; cut = refl }) fault
      | inr good ↦
          let date = date-read row days first (sym (first_of-one _) ∙ good.0) in
          let no_cell = read-no_cell row 2 second refusal (sym (first_of-one _) ∙ good.1) in
          let cut = ap (λ (text : List ℕ). text ∷ second ∷ []) (sym date.1.text) in
          subst (IsPastRowFault row dates (first ∷ second ∷ [])) no_cell.1
          (IsPastRowFault.bad_cell date.0 second (record { few_rows = few; cut = cut }) date.1.day (sym (same date.0) ∙ date.1.new) no_cell.0)
    ]

-- a row that is refused has its fault
row-fault : (row : ℕ) (days dates : List Day) (fields : Record) (refusal : TableRefusal) → HaveSame days dates → row ≤ 100_001
    → first_of (past_row_refusals row days fields) ≡ Some refusal → IsPastRowFault row dates fields refusal
row-fault row days dates fields refusal same low is =
    elim (test-first (nat_le row 100_000) _ _ refusal is) [
      | inl many ↦
          let first : row ≡ 100_001 = omega (arith, leb-false row 100_000 many.0) in
          subst (IsPastRowFault row dates fields) many.1 (IsPastRowFault.many_rows first)
      | inr few ↦ cut fields (leb-true row 100_000 few.0) few.1
    ]
  where
    other : (fields : Record) → row ≤ 100_000 → length fields ≢ 2 → Some (BadRow row) ≡ Some refusal → IsPastRowFault row dates fields refusal
    other fields few differ is =
        let same : BadRow row ≡ refusal = cc in
        subst (IsPastRowFault row dates fields) same (IsPastRowFault.bad_row few differ)

    cut : (fields : Record) → row ≤ 100_000 → first_of (past_field_refusals row days fields) ≡ Some refusal → IsPastRowFault row dates fields refusal
    cut (first ∷ second ∷ []) few is = fields-fault row days dates first second refusal same few is
    cut fields few is = other fields few (λ same. omega (arith, same)) is

-- a row that hasn't two fields is refused
other-refused : (row : ℕ) (days : List Day) (fields : Record) → length fields ≢ 2
    → first_of (past_field_refusals row days fields) ≡ Some (BadRow row)
other-refused row days (first ∷ second ∷ []) differ = absurd (differ refl)
other-refused row days fields differ = refl

-- and so is a row with a fault
fault-row : (row : ℕ) (days dates : List Day) (fields : Record) (refusal : TableRefusal) → HaveSame days dates
    → IsPastRowFault row dates fields refusal → first_of (past_row_refusals row days fields) ≡ Some refusal
fault-row row days dates fields refusal same (IsPastRowFault.many_rows is) = rw (lt-leb row 100_000 (omega (arith, is))) refl
fault-row row days dates fields refusal same (IsPastRowFault.bad_row few differ) =
    rw (le-leb row 100_000 few) (other-refused row days fields differ)
fault-row row days dates fields refusal same (IsPastRowFault.bad_date first second _ full fault) =
    rw (full.cut, le-leb row 100_000 full.few_rows, fault-date row days dates first refusal same fault) refl
fault-row row days dates fields refusal same (IsPastRowFault.bad_cell date second full is new no_cell) =
    rw (full.cut, le-leb row 100_000 full.few_rows, day_in-day_text date is, same date ∙ new) (first_of-one _ ∙ no_cell-read row 2 second no_cell)

-- a row with a fault is the first too many, or one before it
row-low : (row : ℕ) (dates : List Day) (fields : Record) (refusal : TableRefusal) → IsPastRowFault row dates fields refusal → row ≤ 100_001
row-low row dates fields refusal (IsPastRowFault.many_rows is) = omega (arith, is)
row-low row dates fields refusal (IsPastRowFault.bad_row few differ) = omega (arith, few)
row-low row dates fields refusal (IsPastRowFault.bad_date first second _ full fault) = omega (arith, full.few_rows)
row-low row dates fields refusal (IsPastRowFault.bad_cell date second full is new no_cell) = omega (arith, full.few_rows)

-- records that are refused have their fault
past-fault : (records : List Record) (refusal : TableRefusal) → first_of (past_refusals records) ≡ Some refusal → IsPastFault records refusal
past-fault [] refusal is = let same : BadHeader ≡ refusal = cc in subst (IsPastFault []) same (IsPastFault.no_record refl)
past-fault (header ∷ below) refusal is =
    elim (test-first (is_past_header header) BadHeader (past_rows_refusals 1 [] below) refusal is) [
      | inl other ↦
          let no_header = IsPastFault.no_header header below refl (λ named. false≢true (sym other.0 ∙ spelled-header header named)) in
          subst (IsPastFault (header ∷ below)) other.1 no_header
      | inr good ↦
          let row = found ask_rows 1 [] below refusal good.1 in
          let cells = filter_map past_cell row.before in
          let above = rows-spelled 1 [] row.before (omega arith) row.accepted in
          let low : length row.before + 1 ≤ 100_001 = omega (arith, above.2, length-past row.before cells above.0) in
          let counted : 1 + length row.before ≡ length row.before + 1 = omega arith in
          let days = seen date_in [] row.before in
          let refused = subst (λ number. first_of (past_row_refusals number days row.thing) ≡ Some refusal) counted row.refused in
          IsPastFault.bad_record header row.before row.thing row.after cells refusal (ap (λ (below : List Record). header ∷ below) row.cut)
          (header-spelled header good.0) above.0 (sym (new-distinct (days_of cells)) ∙ above.1)
          (row-fault (length row.before + 1) days (days_of cells) row.thing refusal (seen-past row.before cells above.0) low refused)
    ]

-- and records with a fault are refused
fault-past : (records : List Record) (refusal : TableRefusal) → IsPastFault records refusal → first_of (past_refusals records) ≡ Some refusal
fault-past records refusal (IsPastFault.no_record none) = rw none refl
fault-past records refusal (IsPastFault.no_header header below cut none) =
    rw (cut, false_from_ne_true (is_past_header header) (λ is. none (header-spelled header is))) refl
fault-past records refusal (IsPastFault.bad_record header above fields below cells _ cut named spells distinct fault) =
    let days = days_of cells in
    let low = row-low (length above + 1) days fields refusal fault in
    let read = spelled-rows 1 [] above cells spells (new-distinct days ∙ distinct) (omega (arith, low, length-past above cells spells)) in
    let counted : length above + 1 ≡ 1 + length above = omega arith in
    let refused = subst (λ number. first_of (past_row_refusals number (seen date_in [] above) fields) ≡ Some refusal) counted
    (fault-row (length above + 1) (seen date_in [] above) days fields refusal (seen-past above cells spells) fault) in
    rw (cut, spelled-header header named) (refused-first ask_rows 1 [] above fields below refusal read.0 refused)

-- records are refused as past fixings exactly for their fault
pub past-refusal-has-cause : PastRefusalHasCause
unfolding fixings_of
past-refusal-has-cause records refusal =
    let err = unless-err (first_of (past_refusals records)) (past_of records) refusal in
    (λ is. past-fault records refusal (err.0 is), λ fault. err.1 (fault-past records refusal fault))
