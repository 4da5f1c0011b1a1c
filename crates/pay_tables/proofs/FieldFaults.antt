-- Why one field is refused: it is the text of no day, or of one that was there before, or it is no cell.
use Rattle.std.proofs.Common.{◌≡◌, ℕ, ℤ, List, Option, Some, None, refl, sym, ap, subst, ◌∙◌}
use Rattle.pay_dates.specs.Days.{day_in}
use Rattle.pay_dates.specs.declared.day.Day.{Day}
use Rattle.pay_dates.proofs.DayLemmas.{day_in-day_text, day_text-day_in}
use Rattle.pay_tables.specs.declared.refusal.TableRefusal.{TableRefusal}
use Rattle.pay_tables.specs.declared.refusal.TableRefusal.TheVariants.{BadDate, SameDate, BadCell}
use Rattle.pay_tables.specs.Faults.{IsNoDay, IsNoCell, IsDateFault}
use Rattle.pay_tables.specs.Fields.{cell_in, date_refusal, cell_refusal}
use Rattle.pay_tables.specs.Tables.{is_among}
use Rattle.pay_tables.proofs.DayMaps.{HaveSame}
use Rattle.pay_tables.proofs.FieldLaws.{read-spelled, spelled-cell}
use Rattle.pay_tables.proofs.Refusals.{refused_if-some}

-- a field is the text of no day where it is read as none
read-no_day : (field : List ℕ) → day_in field ≡ None → IsNoDay field
read-no_day field none date is same = let found = ap day_in same ∙ day_in-day_text date is in cc

-- and it is read as none where it is the text of no day
no_day-read : (field : List ℕ) → IsNoDay field → day_in field ≡ None
no_day-read field no_day = at (day_in field) refl
  where
    at : (found : Option Day) → day_in field ≡ found → found ≡ None
    at None is = refl
    at (Some date) is = let text = day_text-day_in field date is in absurd (no_day date text.0 (sym text.1))

-- a date that is refused has its fault
pub date-fault : (place : ℕ) (days dates : List Day) (field : List ℕ) (refusal : TableRefusal) → HaveSame days dates
    → date_refusal place days (day_in field) ≡ Some refusal → IsDateFault place dates field refusal
date-fault place days dates field refusal same is = at (day_in field) refl is
  where
    at : (found : Option Day) → day_in field ≡ found → date_refusal place days found ≡ Some refusal → IsDateFault place dates field refusal
    at None none is = let e : BadDate place ≡ refusal = cc in subst (IsDateFault place dates field) e (IsDateFault.no_day (read-no_day field none))
    at (Some date) read is =
        let parts = refused_if-some (is_among date days) (SameDate place) refusal is in
        let text = day_text-day_in field date read in
        subst (IsDateFault place dates field) parts.1
        (IsDateFault.old_day (record { date = date; day = text.0; text = sym text.1; old = sym (same date) ∙ parts.0 }))

-- and for its fault a date is refused
pub fault-date : (place : ℕ) (days dates : List Day) (field : List ℕ) (refusal : TableRefusal) → HaveSame days dates
    → IsDateFault place dates field refusal → date_refusal place days (day_in field) ≡ Some refusal
fault-date place days dates field refusal same (IsDateFault.no_day is) = rw (no_day-read field is) refl
fault-date place days dates field refusal same (IsDateFault.old_day is) =
    rw (ap day_in is.text ∙ day_in-day_text is.date is.day, same is.date ∙ is.old) refl

-- a field that is refused is no cell
pub read-no_cell : (row column : ℕ) (field : List ℕ) (refusal : TableRefusal) → cell_refusal row column (cell_in field) ≡ Some refusal
    → IsNoCell field × (BadCell row column ≡ refusal)
read-no_cell row column field refusal is = at (cell_in field) refl is
  where
    at : (found : Option (Option ℤ)) → cell_in field ≡ found → cell_refusal row column found ≡ Some refusal
        → IsNoCell field × (BadCell row column ≡ refusal)
    at None none is = (λ cell spells. let found = spelled-cell field cell spells in cc, cc)
    at (Some cell) read is = cc

-- and a field that is no cell is refused
pub no_cell-read : (row column : ℕ) (field : List ℕ) → IsNoCell field → cell_refusal row column (cell_in field) ≡ Some (BadCell row column)
no_cell-read row column field no_cell = at (cell_in field) refl
  where
    at : (found : Option (Option ℤ)) → cell_in field ≡ found → cell_refusal row column found ≡ Some (BadCell row column)
    at None none = refl
    at (Some cell) read = absurd (no_cell cell (read-spelled field cell read))
