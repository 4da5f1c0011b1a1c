-- Past fixings in order of date are the same fixings.
use Rattle.std.proofs.Common.{◌≡◌, ℤ, Bool, cond, [], ◌∷◌, Option, Some, None, refl, sym, ap, ◌∙◌, inl, inr}
use Rattle.std.specs.Option.{option_or}
use Rattle.std.specs.Ordering.{int_eq}
use Rattle.std.specs.FinMap.{get, get-insert}
use Rattle.std.specs.Cmp.{int_cmp_total, int_eq_equiv}
use Rattle.std.proofs.lemmas.Bool.{cases_Bool}
use Rattle.pay_dates.specs.Days.{day_number}
use Rattle.pay_dates.specs.declared.day.Day.{Day}
use Rattle.pay_meaning.specs.Meaning as meaning
use Rattle.pay_meaning.specs.Meaning.{Cells, Fixings, with_cell}
use Rattle.pay_tables.specs.FixingsFile.{cells_at}
use Rattle.pay_tables.specs.Laws.{OrderChangesNoFixing}

-- a cell that isn't empty is the fixing on its own date, and no cell changes the fixing on another date
get-with_cell : (date : Day) (cell : Option ℤ) (fixings : Fixings) (number : ℤ)
    → get (with_cell date cell fixings) number ≡ cond (int_eq (day_number date) number) (option_or cell (get fixings number)) (get fixings number)
get-with_cell date None fixings number = elim (cases_Bool (int_eq (day_number date) number)) [
  | inl hit ↦ rw hit refl
  | inr miss ↦ rw miss refl
]
get-with_cell date (Some raw) fixings number =
    get-insert int_cmp_total fixings (day_number date) raw number
    ∙ ap (λ (same : Bool). cond same (Some raw) (get fixings number)) (int_eq_equiv.symm number (day_number date))

-- the fixing on a date is that of the cells on this date
own-cells : (cells : Cells) (number : ℤ) → get (meaning.fixings_in (cells_at number cells)) number ≡ get (meaning.fixings_in cells) number
own-cells [] number = refl
own-cells (cell ∷ rest) number = elim (cases_Bool (int_eq (day_number cell.0) number)) [
  | inl hit ↦ rw hit
      (get-with_cell cell.0 cell.1 (meaning.fixings_in (cells_at number rest)) number
      ∙ rw (own-cells rest number) (sym (get-with_cell cell.0 cell.1 (meaning.fixings_in rest) number)))
  | inr miss ↦ rw miss (own-cells rest number ∙ sym (get-with_cell cell.0 cell.1 (meaning.fixings_in rest) number ∙ rw miss refl))
]

-- cells that are the same on each date are the same fixings
pub order-same : OrderChangesNoFixing
order-same cells ordered number is =
    sym (own-cells ordered number) ∙ ap (λ (xs : Cells). get (meaning.fixings_in xs) number) (is.same number) ∙ own-cells cells number
