-- The fixings of a run: which side a date's fixing comes from.
use Rattle.std.proofs.Common.{◌≡◌, ℤ, Bool, true, false, cond, not, [], ◌∷◌, ◌++◌, Option, Some, None, refl, sym, ap, ◌∙◌, inl, inr}
use Rattle.std.proofs.Common.{append-nil}
use Rattle.std.proofs.lemmas.Bool.{cases_Bool}
use Rattle.std.specs.List.{filter}
use Rattle.std.specs.Prelude.{int_le}
use Rattle.std.specs.Ordering.{int_eq, int_cmp}
use Rattle.std.specs.FinMap.{get, insert, get-empty, get-insert}
use Rattle.std.specs.Cmp.{int_cmp_total, int_eq_equiv}
use Rattle.std.proofs.lemmas.Bool.Decides.{Decides-int_eq}
use Rattle.pay_dates.specs.declared.day.Day.{Day}
use Rattle.pay_dates.specs.Days.{day_number}
use Rattle.pay_meaning.specs.Meaning.{Fixings, Cells, with_cell, fixings_in}
use Rattle.pay_meaning.specs.Laws.{FixingIsPastOrTheRows}

-- what an insertion answers, by the test of dates
get-inserted : (m : Fixings) (date : Day) (raw number : ℤ)
    → get (insert m (day_number date) raw) number ≡ cond (int_eq (day_number date) number) (Some raw) (get m number)
get-inserted m date raw number =
    get-insert int_cmp_total m (day_number date) raw number
    ∙ ap (λ (b : Bool). cond b (Some raw) (get m number)) (int_eq_equiv.symm number (day_number date))

-- a cell of another date changes nothing
cell-elsewhere : (date : Day) (cell : Option ℤ) (m : Fixings) (number : ℤ) → int_eq (day_number date) number ≡ false
    → get (with_cell date cell m) number ≡ get m number
cell-elsewhere date None m number apart = refl
cell-elsewhere date (Some raw) m number apart =
    get-inserted m date raw number ∙ ap (λ (b : Bool). cond b (Some raw) (get m number)) apart

-- a cell before fixings that are the same at a date
cell-same : (date : Day) (cell : Option ℤ) (m n : Fixings) (number : ℤ) → get m number ≡ get n number
    → get (with_cell date cell m) number ≡ get (with_cell date cell n) number
cell-same date None m n number same = same
cell-same date (Some raw) m n number same =
    get-inserted m date raw number
    ∙ ap (λ (o : Option ℤ). cond (int_eq (day_number date) number) (Some raw) o) same
    ∙ sym (get-inserted n date raw number)

not-both : (x : Bool) → x ≡ not x → ⊥
not-both true h = cc h
not-both false h = cc h

-- numbers of which a test says different things are not one
apart-by : (q : ℤ → Bool) (a b : ℤ) (x : Bool) → q a ≡ x → q b ≡ not x → int_eq a b ≡ false
apart-by q a b x at there = elim (cases_Bool (int_eq a b)) [
  | inl hit ↦ let same : a ≡ b = (Decides-int_eq a b).0 hit in absurd (not-both x (sym at ∙ ap q same ∙ there))
  | inr miss ↦ miss
]

-- the cells whose dates pass a test on their numbers
abbrev passing : (ℤ → Bool) → Cells → Cells
passing q cells = filter (λ cell. q (day_number cell.0)) cells

-- where a date does not pass, the passing cells before others change nothing there
none-passing : (q : ℤ → Bool) (xs zs : Cells) (number : ℤ) → q number ≡ false
    → get (fixings_in (passing q xs ++ zs)) number ≡ get (fixings_in zs) number
none-passing q [] zs number h = refl
none-passing q (cell ∷ rest) zs number h = elim (cases_Bool (q (day_number cell.0))) [
  | inl hit ↦ rw hit (cell-elsewhere cell.0 cell.1 (fixings_in (passing q rest ++ zs)) number (apart-by q (day_number cell.0) number true hit h)
      ∙ none-passing q rest zs number h)
  | inr miss ↦ rw miss (none-passing q rest zs number h)
]

-- where a date passes, the passing cells have what all of them have there, if those after them have nothing
all-passing : (q : ℤ → Bool) (xs zs : Cells) (number : ℤ) → q number ≡ true → get (fixings_in zs) number ≡ None
    → get (fixings_in (passing q xs ++ zs)) number ≡ get (fixings_in xs) number
all-passing q [] zs number h none = none ∙ sym (get-empty int_cmp number)
all-passing q (cell ∷ rest) zs number h none = elim (cases_Bool (q (day_number cell.0))) [
  | inl hit ↦ rw hit (cell-same cell.0 cell.1 (fixings_in (passing q rest ++ zs)) (fixings_in rest) number (all-passing q rest zs number h none))
  | inr miss ↦ rw miss (all-passing q rest zs number h none
      ∙ sym (cell-elsewhere cell.0 cell.1 (fixings_in rest) number (apart-by q (day_number cell.0) number false miss h)))
]

-- the passing cells alone
only-passing : (q : ℤ → Bool) (xs : Cells) (number : ℤ) → q number ≡ true → get (fixings_in (passing q xs)) number ≡ get (fixings_in xs) number
only-passing q xs number h =
    ap (λ (cells : Cells). get (fixings_in cells) number) (sym (append-nil (passing q xs))) ∙ all-passing q xs [] number h (get-empty int_cmp number)

no-passing : (q : ℤ → Bool) (xs : Cells) (number : ℤ) → q number ≡ false → get (fixings_in (passing q xs)) number ≡ None
no-passing q xs number h =
    ap (λ (cells : Cells). get (fixings_in cells) number) (sym (append-nil (passing q xs))) ∙ none-passing q xs [] number h
    ∙ get-empty int_cmp number

-- one side of a test or the other
by-side : (q : ℤ → Bool) (xs ys : Cells) (number : ℤ)
    → get (fixings_in (passing q xs ++ passing (λ z. not (q z)) ys)) number
    ≡ cond (q number) (get (fixings_in xs) number) (get (fixings_in ys) number)
by-side q xs ys number = elim (cases_Bool (q number)) [
  | inl hit ↦ rw hit (all-passing q xs (passing (λ z. not (q z)) ys) number hit (no-passing (λ z. not (q z)) ys number (ap not hit)))
  | inr miss ↦ rw miss (none-passing q xs (passing (λ z. not (q z)) ys) number miss ∙ only-passing (λ z. not (q z)) ys number (ap not miss))
]

pub past-or-row : FixingIsPastOrTheRows
past-or-row past row date = by-side (λ z. int_le z (day_number past.asof)) past.cells row (day_number date)
