-- Where fixings stand: the places that a map has, and the fixing of a source.
use Rattle.std.proofs.Common.{◌≡◌, ℕ, suc, ◌+◌, ℤ, Bool, true, false, cond, List, [], ◌∷◌, length, Option, Some, None, IsTrue}
use Rattle.std.proofs.Common.{refl, sym, ap, ◌∙◌, subst, arith}
use Rattle.std.specs.List.{list_any, zip}
use Rattle.std.specs.Option.{option_map}
use Rattle.std.specs.Ordering.{int_eq, int_cmp}
use Rattle.std.specs.FinMap.{get, insert, get-empty, get-insert}
use Rattle.std.specs.Cmp.{int_cmp_total, int_eq_equiv}
use Rattle.std.proofs.lemmas.Bool.{and_parts, or_parts, not-true}
use Rattle.std.proofs.lemmas.Bool.Decides.{Decides-int_eq}
use Rattle.pay_dates.specs.Days.{day_number}
use Rattle.pay_dates.specs.declared.day.Day.{Day}
use Rattle.pay_meaning.specs.Meaning.{Fixings, Past, fixing_at, fixings_in, fixings_of, is_past}
use Rattle.pay_meaning.proofs.FixingLaws.{past-or-row}
use Rattle.pay_tables.specs.Tables.{are_distinct}
use Rattle.pay_scenarios.specs.declared.columns.FixingSource.TheVariants as source
use Rattle.pay_scenarios.specs.Columns.{cell_at, fixing_from, place_of, source_of}

-- places that are so many further on
abbrev pub further : ℕ → Option ℕ → Option ℕ
further by place = option_map (λ (n : ℕ). n + by) place

-- a date of this number is among these
abbrev has_number : ℤ → List Day → Bool
has_number number dates = list_any (λ date. int_eq (day_number date) number) dates

-- the fixings of a row with these cells
abbrev row_fixings : List Day → List (Option ℤ) → Fixings
row_fixings dates cells = fixings_in (zip dates cells)

-- what an insertion answers, by the test of columns
pub get-inserted : (m : Fixings) (date : Day) (raw number : ℤ)
    → get (insert m (day_number date) raw) number ≡ cond (int_eq (day_number date) number) (Some raw) (get m number)
get-inserted m date raw number =
    get-insert int_cmp_total m (day_number date) raw number
    ∙ ap (λ (b : Bool). cond b (Some raw) (get m number)) (int_eq_equiv.symm number (day_number date))

-- a number of none of the dates has no fixing
no-fixing : (dates : List Day) (cells : List (Option ℤ)) (number : ℤ) → has_number number dates ≡ false → get (row_fixings dates cells) number ≡ None
no-fixing [] cells number none = get-empty int_cmp number
no-fixing (date ∷ dates) [] number none = get-empty int_cmp number
no-fixing (date ∷ dates) (None ∷ cells) number none = no-fixing dates cells number (or_parts _ _ none).1
no-fixing (date ∷ dates) (Some raw ∷ cells) number none =
    get-inserted (row_fixings dates cells) date raw number
    ∙ ap (λ (b : Bool). cond b (Some raw) (get (row_fixings dates cells) number)) (or_parts (int_eq (day_number date) number) _ none).0
    ∙ no-fixing dates cells number (or_parts _ _ none).1

-- a cell further on
cell-later : (cell : Option ℤ) (cells : List (Option ℤ)) (place : Option ℕ) → cell_at (cell ∷ cells) (option_map suc place) ≡ cell_at cells place
cell-later cell cells None = refl
cell-later cell cells (Some place) = refl

-- the cell at a place that is the first or a later one
first-cell : (here : Bool) (cell : Option ℤ) (cells : List (Option ℤ)) (place : Option ℕ)
    → cell_at (cell ∷ cells) (cond here (Some 0) (option_map suc place)) ≡ cond here cell (cell_at cells place)
first-cell true cell cells place = refl
first-cell false cell cells place = cell-later cell cells place

-- no cell, and no other one further on
skipped : (here : Bool) (o : Option ℤ) → (here ≡ true → o ≡ None) → cond here None o ≡ o
skipped true o none = sym (none refl)
skipped false o none = refl

-- the fixing at the first of distinct dates, and at the others
first-fixing : (date : Day) (dates : List Day) (cell : Option ℤ) (cells : List (Option ℤ)) (number : ℤ) → IsTrue (are_distinct (date ∷ dates))
    → cond (int_eq (day_number date) number) cell (get (row_fixings dates cells) number) ≡ get (row_fixings (date ∷ dates) (cell ∷ cells)) number
first-fixing date dates (Some raw) cells number distinct = sym (get-inserted (row_fixings dates cells) date raw number)
first-fixing date dates None cells number distinct =
    skipped (int_eq (day_number date) number) (get (row_fixings dates cells) number)
    (λ here.
    let same : day_number date ≡ number = (Decides-int_eq (day_number date) number).0 here in
    let apart : has_number (day_number date) dates ≡ false = not-true _ (and_parts _ _ distinct).0 in
    no-fixing dates cells number (subst (λ (z : ℤ). has_number z dates ≡ false) same apart))

-- where no two dates are one and a row has a cell for each, the cell in a column is the fixing of its number
cell-fixing : (dates : List Day) (cells : List (Option ℤ)) (number : ℤ) → IsTrue (are_distinct dates) → length cells ≡ length dates
    → cell_at cells (place_of number dates) ≡ get (row_fixings dates cells) number
cell-fixing [] cells number distinct full = sym (get-empty int_cmp number)
cell-fixing (date ∷ dates) [] number distinct full = absurd (omega arith)
cell-fixing (date ∷ dates) (cell ∷ cells) number distinct full =
    first-cell (int_eq (day_number date) number) cell cells (place_of number dates)
    ∙ ap (cond (int_eq (day_number date) number) cell) (cell-fixing dates cells number (and_parts _ _ distinct).1 (omega arith))
    ∙ first-fixing date dates cell cells number distinct

-- the fixing of a source that is past or not
from-side : (b : Bool) (fixing : Option ℤ) (column : Option ℕ) (cells : List (Option ℤ))
    → fixing_from (cond b (source.Past fixing) (source.Column column)) cells ≡ cond b fixing (cell_at cells column)
from-side true fixing column cells = refl
from-side false fixing column cells = refl

-- where no two dates are one and a row has a cell for each, the fixing of the source at a date is the fixing of the run there
pub source-fixing : (past : Option Past) (dates : List Day) (cells : List (Option ℤ)) (date : Day) → IsTrue (are_distinct dates)
    → length cells ≡ length dates → fixing_from (source_of past dates date) cells ≡ fixing_at (fixings_of past (zip dates cells)) date
source-fixing None dates cells date distinct full = cell-fixing dates cells (day_number date) distinct full
source-fixing (Some past) dates cells date distinct full =
    let known = fixing_at (fixings_in past.cells) date in
    from-side (is_past past.asof date) known (place_of (day_number date) dates) cells
    ∙ ap (cond (is_past past.asof date) known) (cell-fixing dates cells (day_number date) distinct full)
    ∙ sym (past-or-row past (zip dates cells) date)
