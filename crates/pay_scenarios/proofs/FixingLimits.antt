-- The fixings of a row and of good past fixings lie within their limit.
use Rattle.std.proofs.Common.{◌≡◌, ◌≤◌, ℕ, suc, ℤ, unsigned_abs, Bool, true, false, not, cond, List, [], ◌∷◌, ◌++◌, Option, Some, None, IsTrue, All}
use Rattle.std.proofs.Common.{inl, inr, arith, subst, sym, ap, ◌∙◌, leb-true}
use Rattle.std.proofs.lemmas.Bool.{cases_Bool}
use Rattle.std.proofs.lemmas.Int.{ints}
use Rattle.std.specs.Cmp.{int_cmp_total}
use Rattle.std.specs.FinMap.{get, insert, get-empty, get-insert}
use Rattle.std.specs.List.{zip, filter}
use Rattle.std.specs.Ordering.{int_cmp, int_eq}
use Rattle.pay_dates.specs.Days.{day_number}
use Rattle.pay_dates.specs.declared.day.Day.{Day}
use Rattle.pay_domains.specs.Pieces.{Held}
use Rattle.pay_facts.specs.Holding.{AreFixings, IsFixing}
use Rattle.pay_facts.specs.Ranges.{fixings}
use Rattle.pay_meaning.specs.Meaning.{Cells, Fixings, Past, fixings_in, fixings_of, is_past, with_cell}
use Rattle.pay_tables.specs.Tables.{IsCell, is_fixing}
use Rattle.pay_scenarios.specs.Aligned.{AreGoodIfGiven}

-- a raw that can be a fixing is held by the fixings
held : (raw : ℤ) → IsTrue (is_fixing raw) → Held raw fixings
held raw h =
    let size : unsigned_abs raw ≤ 1_000_000_000_000_000 = leb-true (unsigned_abs raw) 1_000_000_000_000_000 h in
    inl (record { low = omega (arith, ints, size); high = omega (arith, ints, size) })

is_held : (cell : Option ℤ) → IsCell cell → IsFixing cell
is_held None h = tt
is_held (Some raw) h = held raw h

-- each of these cells is empty or has a raw that can be a fixing
abbrev AreLimited : Cells → Type 0
AreLimited [] = Unit {0}
AreLimited (cell ∷ rest) = IsCell cell.1 × AreLimited rest

all_limited : (cells : Cells) → All (λ cell. IsCell cell.1) cells → AreLimited cells
all_limited [] h = tt
all_limited (cell ∷ rest) h = (h 0 cell (omega arith), all_limited rest (λ i x below. h (suc i) x (omega arith)))

both_limited : (front back : Cells) → AreLimited front → AreLimited back → AreLimited (front ++ back)
both_limited [] back h k = k
both_limited (cell ∷ front) back h k = (h.0, both_limited front back h.1 k)

kept_limited : (test : Day × Option ℤ → Bool) (cells : Cells) → AreLimited cells → AreLimited (filter test cells)
kept_limited test [] h = tt
kept_limited test (cell ∷ rest) h = elim (cases_Bool (test cell)) [
  | inl hit ↦ rw hit (h.0, kept_limited test rest h.1)
  | inr miss ↦ rw miss (kept_limited test rest h.1)
]

row_limited : (dates : List Day) (cells : List (Option ℤ)) → All IsCell cells → AreLimited (zip dates cells)
row_limited [] cells h = tt
row_limited (date ∷ dates) [] h = tt
row_limited (date ∷ dates) (cell ∷ cells) h = (h 0 cell (omega arith), row_limited dates cells (λ i x below. h (suc i) x (omega arith)))

-- one fixing more is within the limit where it is, and the others are
one_more : (number : ℤ) (date : Day) (raw : ℤ) (known : Fixings) → IsTrue (is_fixing raw) → IsFixing (get known number)
    → IsFixing (get (insert known (day_number date) raw) number)
one_more number date raw known h k = elim (cases_Bool (int_eq number (day_number date))) [
  | inl hit ↦ subst IsFixing (sym (get-insert int_cmp_total known (day_number date) raw number ∙ ap (λ b. cond b (Some raw) (get known number)) hit)) (held raw h)
  | inr miss ↦ subst IsFixing (sym (get-insert int_cmp_total known (day_number date) raw number ∙ ap (λ b. cond b (Some raw) (get known number)) miss)) k
]

with_limited : (number : ℤ) (date : Day) (cell : Option ℤ) (known : Fixings) → IsCell cell → IsFixing (get known number)
    → IsFixing (get (with_cell date cell known) number)
with_limited number date None known h k = k
with_limited number date (Some raw) known h k = one_more number date raw known h k

-- the fixings in such cells are within the limit
in_cells : (cells : Cells) (number : ℤ) → AreLimited cells → IsFixing (get (fixings_in cells) number)
in_cells [] number h = subst IsFixing (sym (get-empty int_cmp number)) tt
in_cells (cell ∷ rest) number h = with_limited number cell.0 cell.1 (fixings_in rest) h.0 (in_cells rest number h.1)

-- so are those of a run
pub are_fixings : (past : Option Past) (dates : List Day) (cells : List (Option ℤ)) → AreGoodIfGiven past → All IsCell cells
    → AreFixings (fixings_of past (zip dates cells))
are_fixings None dates cells good all event = in_cells (zip dates cells) (day_number event.date) (row_limited dates cells all)
are_fixings (Some past) dates cells good all event =
    in_cells _ (day_number event.date)
    (both_limited _ _ (kept_limited (λ cell. is_past past.asof cell.0) past.cells (all_limited past.cells good.fixings))
    (kept_limited (λ cell. not (is_past past.asof cell.0)) (zip dates cells) (row_limited dates cells all)))
