-- Records are refused as a scenario file exactly for their fault.
use Rattle.std.proofs.Common.{◌≡◌, ℕ, suc, ◌+◌, ◌≤◌, ◌==◌, true, false, List, [], ◌∷◌, ◌++◌, length, map, Some, None, refl, sym, ap, subst}
use Rattle.std.proofs.Common.{◌∙◌, arith, inl, inr, eqb-true, eq-eqb, ne_eqb, leb-true, le-leb, leb-false}
use Rattle.std.specs.Prelude.{nat_le, codes}
use Rattle.std.specs.List.{filter_map}
use Rattle.std.specs.Str.{str_eq_ignore_ascii_case}
use Rattle.std.proofs.lemmas.Bool.{lt-leb, eqb-false, false_from_ne_true, false≢true}
use Rattle.pay_dates.specs.Days.{day_in}
use Rattle.pay_roll.specs.Rolling.{first_of}
use Rattle.pay_tables.specs.declared.refusal.TableRefusal.{TableRefusal}
use Rattle.pay_tables.specs.declared.refusal.TableRefusal.TheVariants.{BadHeader, BadCell}
use Rattle.pay_tables.specs.Faults.{IsHeader, IsHeaderFault, IsFullRow, IsRowFault, IsTableFault}
use Rattle.pay_tables.specs.Fields.{cell_in, date_refusal, cell_refusal}
use Rattle.pay_tables.specs.Labels.{is_label}
use Rattle.pay_tables.specs.Laws.{TableRefusalHasCause}
use Rattle.pay_tables.specs.Records.{Record}
use Rattle.pay_tables.specs.ScenarioFile.{date_refusals, header_refusals, cell_refusals, field_refusals, row_refusals, rows_refusals, table_refusals}
use Rattle.pay_tables.specs.ScenarioFile.{cell_of, dates_of, row_of, scenarios_of, table_of}
use Rattle.pay_tables.specs.Spelling.{SpellsRows}
use Rattle.pay_tables.specs.Tables.{Row, is_among}
use Rattle.pay_tables.proofs.Asking.{Asking, found, refused-first, seen, seen-same}
use Rattle.pay_tables.proofs.DayMaps.{HaveSame}
use Rattle.pay_tables.proofs.FieldFaults.{date-fault, fault-date, read-no_cell, no_cell-read}
use Rattle.pay_tables.proofs.FieldLaws.{cells-spelled, spelled-cells, dates-spelled, spelled-dates}
use Rattle.pay_tables.proofs.NewDays.{new-distinct}
use Rattle.pay_tables.proofs.Refusals.{first_of-back, first_of-front, first_of-one, some-append, test-first, unless-err}
use Rattle.pay_tables.proofs.TableLaws.{header-spelled, spelled-header, length-header, rows-spelled, spelled-rows}

-- how the dates of a header are asked
abbrev ask_dates : Asking (List ℕ)
ask_dates = record {
  day = day_in;
  one = λ column before field. date_refusal column before (day_in field) ∷ [];
  all = date_refusals;
  none = λ column before. refl;
  more = λ column before field rest. refl;
}

-- how the cells of a row are asked
abbrev ask_cells : ℕ → Asking (List ℕ)
ask_cells row = record {
  day = λ field. None;
  one = λ column before field. cell_refusal row column (cell_in field) ∷ [];
  all = λ column before. cell_refusals row column;
  none = λ column before. refl;
  more = λ column before field rest. refl;
}

-- how the rows under a header are asked
abbrev ask_rows : ℕ → Asking Record
ask_rows width = record {
  day = λ fields. None;
  one = λ row before. row_refusals width row;
  all = λ row before. rows_refusals width row;
  none = λ row before. refl;
  more = λ row before fields rest. refl;
}

-- dates that are refused after `scenario` are a fault of the header
dates-fault : (header : Record) (fields : List (List ℕ)) (refusal : TableRefusal) → IsHeader header fields → length fields ≤ 4096
    → first_of (date_refusals 2 [] fields) ≡ Some refusal → IsHeaderFault header refusal
dates-fault header fields refusal is_header few is =
    let date = found ask_dates 2 [] fields refusal is in
    let column = length date.before + 2 in
    let read = dates-spelled 2 [] date.before date.accepted in
    let days = filter_map day_in date.before in
    let refused = subst (λ (place : ℕ). first_of (ask_dates.one place (seen day_in [] date.before) date.thing) ≡ Some refusal) (omega arith) date.refused in
    let fault = date-fault column (seen day_in [] date.before) days date.thing refusal (seen-same day_in date.before)
    (sym (first_of-one _) ∙ refused) in
    IsHeaderFault.bad_date column date.thing days refusal
    (record {
      before = date.before;
      after = date.after;
      is_header = subst (IsHeader header) date.cut is_header;
      few_fields = subst (λ (fields : List (List ℕ)). length fields ≤ 4096) date.cut few;
      counted = refl;
      spells_dates = read.0;
      distinct = sym (new-distinct days) ∙ read.1;
    })
    fault

-- a record with another first field is no header
other-header : (word : List ℕ) (fields others : List (List ℕ)) → str_eq_ignore_ascii_case word (codes "scenario") ≡ false
    → ¬ IsHeader (word ∷ fields) others
other-header word fields others other header =
    let cut = header.cut in
    let named : str_eq_ignore_ascii_case header.word (codes "scenario") ≡ true = header.named in
    let same : word ≡ header.word = cc in
    false≢true (sym other ∙ rw same named)

-- a header that is refused has its fault
header-fault : (header : Record) (refusal : TableRefusal) → first_of (header_refusals header) ≡ Some refusal → IsHeaderFault header refusal
header-fault [] refusal is =
    let same : BadHeader ≡ refusal = cc in
    subst (IsHeaderFault []) same (IsHeaderFault.no_header (λ fields header. let cut = header.cut in cc))
header-fault (word ∷ fields) refusal is =
    elim (test-first (str_eq_ignore_ascii_case word (codes "scenario")) _ _ refusal is) [
      | inl other ↦
          let no_header = IsHeaderFault.no_header (λ others. other-header word fields others other.0) in
          subst (IsHeaderFault (word ∷ fields)) other.1 no_header
      | inr named ↦
          let header : IsHeader (word ∷ fields) fields = record { word = word; cut = refl; named = named.0 } in
          elim (test-first (nat_le (length fields) 4096) _ _ refusal named.1) [
            | inl many ↦
                let many_columns = IsHeaderFault.many_columns fields header (leb-false (length fields) 4096 many.0) in
                subst (IsHeaderFault (word ∷ fields)) many.1 many_columns
            | inr few ↦ dates-fault (word ∷ fields) fields refusal header (leb-true (length fields) 4096 few.0) few.1
          ]
    ]

-- a header that isn't `scenario` and fields is refused
no_header-refused : (header : Record) → ((fields : List (List ℕ)) → ¬ IsHeader header fields) → first_of (header_refusals header) ≡ Some BadHeader
no_header-refused [] none = refl
no_header-refused (word ∷ fields) none =
    let other = false_from_ne_true (str_eq_ignore_ascii_case word (codes "scenario"))
    (λ named. none fields (record { word = word; cut = refl; named = named })) in
    rw other refl

-- and so is a header with a fault
fault-header : (header : Record) (refusal : TableRefusal) → IsHeaderFault header refusal → first_of (header_refusals header) ≡ Some refusal
fault-header header refusal (IsHeaderFault.no_header none) = no_header-refused header none
fault-header header refusal (IsHeaderFault.many_columns fields is many) = rw (is.cut, is.named, lt-leb (length fields) 4096 many) refl
fault-header header refusal (IsHeaderFault.bad_date column field days _ has fault) =
    let read = spelled-dates 2 [] has.before days has.spells_dates (new-distinct days ∙ has.distinct) in
    let same : HaveSame (seen day_in [] has.before) days = λ date. seen-same day_in has.before date ∙ ap (is_among date) read.1 in
    let one = fault-date column (seen day_in [] has.before) days field refusal same fault in
    let at = subst (λ (place : ℕ). date_refusal place (seen day_in [] has.before) (day_in field) ≡ Some refusal)
    (let counted = has.counted in omega (arith, counted)) one in
    rw (has.is_header.cut, has.is_header.named, le-leb (length (has.before ++ field ∷ has.after)) 4096 has.few_fields)
    (refused-first ask_dates 2 [] has.before field has.after refusal read.0 (first_of-one _ ∙ at))

-- the fields of a row that are refused are its fault
fields-fault : (columns row : ℕ) (label : List ℕ) (fields : List (List ℕ)) (refusal : TableRefusal) → IsFullRow columns row (label ∷ fields) label fields
    → first_of (field_refusals row (label ∷ fields)) ≡ Some refusal → IsRowFault columns row (label ∷ fields) refusal
fields-fault columns row label fields refusal full is =
    elim (test-first (is_label label) _ _ refusal is) [
      | inl bad ↦ subst (IsRowFault columns row (label ∷ fields)) bad.1 (IsRowFault.bad_name label fields full bad.0)
      | inr good ↦
          let cell = found (ask_cells row) 2 [] fields refusal good.1 in
          let no_cell = read-no_cell row (2 + length cell.before) cell.thing refusal (sym (first_of-one _) ∙ cell.refused) in
          let column : length cell.before + 2 ≡ 2 + length cell.before = omega arith in
          let read = cells-spelled row 2 cell.before cell.accepted in
          let full = subst (IsFullRow columns row (label ∷ fields) label) cell.cut full in
          subst (IsRowFault columns row (label ∷ fields)) (ap (BadCell row) column ∙ no_cell.1)
          (IsRowFault.bad_cell label cell.before cell.thing cell.after (map cell_of cell.before) full good.0 read no_cell.0)
    ]

-- a row that is refused has its fault
row-fault : (columns row : ℕ) (fields : Record) (refusal : TableRefusal) → row ≤ 100_001
    → first_of (row_refusals (suc columns) row fields) ≡ Some refusal → IsRowFault columns row fields refusal
row-fault columns row fields refusal low is =
    elim (test-first (nat_le row 100_000) _ _ refusal is) [
      | inl many ↦
          let first : row ≡ 100_001 = omega (arith, leb-false row 100_000 many.0) in
          subst (IsRowFault columns row fields) many.1 (IsRowFault.many_rows first)
      | inr few ↦ elim (test-first (length fields == suc columns) _ _ refusal few.1) [
        | inl other ↦
            let bad_row = IsRowFault.bad_row (leb-true row 100_000 few.0) (λ same. eqb-false (length fields) (suc columns) other.0 (omega (arith, same))) in
            subst (IsRowFault columns row fields) other.1 bad_row
        | inr full ↦ cut fields (leb-true row 100_000 few.0) (eqb-true (length fields) (suc columns) full.0) full.1
      ]
    ]
  where
    cut : (fields : Record) → row ≤ 100_000 → length fields ≡ suc columns → first_of (field_refusals row fields) ≡ Some refusal
        → IsRowFault columns row fields refusal
    cut [] few full is = cc
    cut (label ∷ fields) few full is =
        fields-fault columns row label fields refusal (record { few_rows = few; cut = refl; full = omega (arith, full) }) is

-- and a row with a fault is refused
fault-row : (columns row : ℕ) (fields : Record) (refusal : TableRefusal) → IsRowFault columns row fields refusal
    → first_of (row_refusals (suc columns) row fields) ≡ Some refusal
fault-row columns row fields refusal (IsRowFault.many_rows is) = rw (lt-leb row 100_000 (omega (arith, is))) refl
fault-row columns row fields refusal (IsRowFault.bad_row few other) =
    rw (le-leb row 100_000 few, ne_eqb (length fields) (suc columns) (λ same. other (omega (arith, same)))) refl
fault-row columns row fields refusal (IsRowFault.bad_name label others full bad) =
    rw (full.cut, le-leb row 100_000 full.few_rows, eq-eqb (length (label ∷ others)) (suc columns) (ap suc full.full), bad) refl
fault-row columns row fields refusal (IsRowFault.bad_cell label before field after spelled full is spells no_cell) =
    let column : length before + 2 ≡ 2 + length before = omega arith in
    let refused = subst (λ (place : ℕ). cell_refusal row (2 + length before) (cell_in field) ≡ Some (BadCell row place)) (sym column)
    (no_cell-read row (2 + length before) field no_cell) in
    rw (full.cut, le-leb row 100_000 full.few_rows, eq-eqb (length (label ∷ (before ++ field ∷ after))) (suc columns) (ap suc full.full), is)
    (refused-first (ask_cells row) 2 [] before field after (BadCell row (length before + 2)) (spelled-cells row 2 before spelled spells).0
    (first_of-one _ ∙ refused))

-- a row with a fault is the first too many, or one before it
row-low : (columns row : ℕ) (fields : Record) (refusal : TableRefusal) → IsRowFault columns row fields refusal → row ≤ 100_001
row-low columns row fields refusal (IsRowFault.many_rows is) = omega (arith, is)
row-low columns row fields refusal (IsRowFault.bad_row few other) = omega (arith, few)
row-low columns row fields refusal (IsRowFault.bad_name label others full bad) = omega (arith, full.few_rows)
row-low columns row fields refusal (IsRowFault.bad_cell label before field after spelled full is spells no_cell) = omega (arith, full.few_rows)

-- there is a record for each row
length-rows : (columns : ℕ) (records : List Record) (spelled : List Row) → SpellsRows columns records spelled → length records ≡ length spelled
length-rows columns records spelled SpellsRows.no_row = refl
length-rows columns records found (SpellsRows.next_row label fields cells rest others is spells full more) =
    ap suc (length-rows columns rest others more)

-- records that are refused have their fault
table-fault : (records : List Record) (refusal : TableRefusal) → first_of (table_refusals records) ≡ Some refusal → IsTableFault records refusal
table-fault [] refusal is = let same : BadHeader ≡ refusal = cc in subst (IsTableFault []) same (IsTableFault.no_record refl)
table-fault (header ∷ below) refusal is =
    elim (some-append (header_refusals header) (rows_refusals (length header) 1 below) refusal is) [
      | inl bad ↦ IsTableFault.bad_header header below refusal refl (header-fault header refusal bad)
      | inr good ↦
          let days = dates_of header in
          let read = header-spelled header good.0 in
          let width = length-header header days read in
          let is = subst (λ size. first_of (rows_refusals size 1 below) ≡ Some refusal) width good.1 in
          let row = found (ask_rows (suc (length days))) 1 [] below refusal is in
          let above = rows-spelled (length days) 1 row.before (omega arith) row.accepted in
          let counted : 1 + length row.before ≡ length row.before + 1 = omega arith in
          let refused = subst (λ number. first_of (row_refusals (suc (length days)) number row.thing) ≡ Some refusal) counted row.refused in
          IsTableFault.bad_record header row.before row.thing row.after days (map row_of row.before) refusal
          (ap (λ (below : List Record). header ∷ below) row.cut) read above.0
          (row-fault (length days) (length row.before + 1) row.thing refusal (omega (arith, above.1)) refused)
    ]

-- and records with a fault are refused
fault-table : (records : List Record) (refusal : TableRefusal) → IsTableFault records refusal → first_of (table_refusals records) ≡ Some refusal
fault-table records refusal (IsTableFault.no_record none) = rw none refl
fault-table records refusal (IsTableFault.bad_header header below _ cut fault) =
    rw cut (first_of-front (header_refusals header) _ refusal (fault-header header refusal fault))
fault-table records refusal (IsTableFault.bad_record header above fields below days spelled _ cut named spells fault) =
    let low = row-low (length days) (length above + 1) fields refusal fault in
    let read = spelled-rows (length days) 1 above spelled spells (omega (arith, low, length-rows (length days) above spelled spells)) in
    let counted : length above + 1 ≡ 1 + length above = omega arith in
    let refused = subst (λ number. first_of (row_refusals (suc (length days)) number fields) ≡ Some refusal) counted
    (fault-row (length days) (length above + 1) fields refusal fault) in
    rw (cut, length-header header days named)
    (first_of-back (header_refusals header) _ (spelled-header header days named).0
    ∙ refused-first (ask_rows (suc (length days))) 1 [] above fields below refusal read.0 refused)

-- records are refused as a scenario file exactly for their fault
pub table-refusal-has-cause : TableRefusalHasCause
unfolding scenarios_of
table-refusal-has-cause records refusal =
    let err = unless-err (first_of (table_refusals records)) (table_of records) refusal in
    (λ is. table-fault records refusal (err.0 is), λ fault. err.1 (fault-table records refusal fault))
