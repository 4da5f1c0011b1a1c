-- One field, and one record, more of a scenario file.
use Rattle.std.proofs.Common.{◌≡◌, ℕ, ◌+◌, ◌<◌, List, [], ◌∷◌, ◌++◌, length, get_or, drop, true, false, Some, None, Ok, reverse, refl, ◌∙◌}
use Rattle.std.specs.List.{filter_map}
use Rattle.std.proofs.lemmas.List.{at_drop_more, reverse-append}
use Rattle.pay_dates.specs.Days.{day_in}
use Rattle.pay_dates.specs.declared.day.Day.{Day}
use Rattle.pay_roll.specs.Rolling.{first_of}
use Rattle.pay_tables.specs.Tables.{is_among}
use Rattle.pay_tables.specs.Records.{Record}
use Rattle.pay_tables.specs.ScenarioFile.{date_refusals, header_refusals, rows_refusals, table_refusals, table_of, scenarios_of}
use Rattle.pay_tables.specs.Views.{IsFirst, Refuses}
use Rattle.pay_tables.specs.declared.refusal.TableRefusal.{TableRefusal}
use Rattle.pay_tables.specs.declared.refusal.TableRefusal.TheVariants.{SameDate}
use Rattle.pay_tables.proofs.Refusals.{first_of-back, IsFirst-front, Refuses-unless}

-- a date that is there once more
pub date_refusals-same : (column at : ℕ) (before : List Day) (fields : List (List ℕ)) (date : Day) → at < length fields
    → day_in (get_or fields at []) ≡ Some date → is_among date before ≡ true
    → first_of (date_refusals column before (drop at fields)) ≡ Some (SameDate column)
date_refusals-same column at before fields date small is old =
    at_drop_more (λ rest. first_of (date_refusals column before rest)) fields at [] small ∙ rw (is, old) refl

-- a date that is new
pub date_refusals-more : (column at : ℕ) (dates : List Day) (fields : List (List ℕ)) (date : Day) → at < length fields
    → day_in (get_or fields at []) ≡ Some date → is_among date (reverse dates) ≡ false
    → first_of (date_refusals column (reverse dates) (drop at fields))
    ≡ first_of (date_refusals (column + 1) (reverse (dates ++ date ∷ [])) (drop (at + 1) fields))
date_refusals-more column at dates fields date small is new =
    at_drop_more (λ rest. first_of (date_refusals column (reverse dates) rest)) fields at [] small
    ∙ rw (is, new, reverse-append dates (date ∷ [])) refl

-- the dates of what is left, where a date comes first
pub dates_left-more : (at : ℕ) (fields : List (List ℕ)) (date : Day) → at < length fields → day_in (get_or fields at []) ≡ Some date
    → filter_map day_in (drop at fields) ≡ date ∷ filter_map day_in (drop (at + 1) fields)
dates_left-more at fields date small is = at_drop_more (filter_map day_in) fields at [] small ∙ rw is refl

-- a header that is refused
pub Refuses-header : (header : Record) (rows : List Record) (refusal : TableRefusal) → IsFirst (first_of (header_refusals header)) refusal
    → Refuses (scenarios_of (header ∷ rows)) refusal
unfolding scenarios_of
Refuses-header header rows refusal is =
    Refuses-unless (first_of (table_refusals (header ∷ rows))) (table_of (header ∷ rows)) refusal
    (IsFirst-front (header_refusals header) (rows_refusals (length header) 1 rows) refusal is)

-- a row that is refused, under a header that isn't
pub Refuses-row : (header : Record) (rows : List Record) (refusal : TableRefusal) → first_of (header_refusals header) ≡ None
    → IsFirst (first_of (rows_refusals (length header) 1 rows)) refusal → Refuses (scenarios_of (header ∷ rows)) refusal
unfolding scenarios_of
Refuses-row header rows refusal none is =
    Refuses-unless (first_of (table_refusals (header ∷ rows))) (table_of (header ∷ rows)) refusal
    (rw (first_of-back (header_refusals header) (rows_refusals (length header) 1 rows) none) is)

-- no record that is refused
pub table_refusals-none : (header : Record) (rows : List Record) → first_of (header_refusals header) ≡ None
    → first_of (rows_refusals (length header) 1 rows) ≡ None → first_of (table_refusals (header ∷ rows)) ≡ None
table_refusals-none header rows none good = first_of-back (header_refusals header) (rows_refusals (length header) 1 rows) none ∙ good

-- records of which none is refused are read as their table
pub scenarios_of-none : (records : List Record) → first_of (table_refusals records) ≡ None → scenarios_of records ≡ Ok (table_of records)
unfolding scenarios_of
scenarios_of-none records none = rw none refl
