-- Sets and maps by date: which days they have, and what a new date changes.
use Rattle.std.proofs.Common.{◌≡◌, ℤ, ◌<ℤ◌, Bool, true, false, cond, ◌||◌, List, [], ◌∷◌, ◌++◌, Option, Some, refl, sym, ap, subst, ◌∙◌, arith}
use Rattle.std.proofs.lemmas.Bool.{false≢true, or_parts}
use Rattle.std.proofs.lemmas.Bool.Decides.{Decides-int_eq}
use Rattle.std.proofs.lemmas.Cmp.{int_eq_equiv}
use Rattle.std.proofs.lemmas.Int.{ints}
use Rattle.std.proofs.lemmas.List.{get_or-map, length-map}
use Rattle.std.specs.declared.cmp.Ordering.{Ordering}
use Rattle.std.specs.declared.cmp.Ordering.TheVariants.{Less, Equal, Greater}
use Rattle.std.specs.BTreeMap.{insert_entry, is_at}
use Rattle.std.specs.List.{All}
use Rattle.std.specs.List.Sorted.{IsStrictlySortedBy}
use Rattle.std.specs.Map.{keys_of, values_of, lookup}
use Rattle.std.specs.Option.{is_some}
use Rattle.std.specs.Ordering.{int_eq, int_cmp, is_eq}
use Rattle.pay_dates.specs.Days.{day_number, day_cmp}
use Rattle.pay_dates.specs.declared.day.Day.{Day}
use Rattle.pay_meaning.specs.Meaning.{Cells}
use Rattle.pay_tables.specs.FixingsFile.{cells_at}
use Rattle.pay_tables.specs.Tables.{is_among, AreRising, IsCell}

-- a set has these days
abbrev pub HasDays : (Day → Bool) → List Day → Type 0
HasDays has days = (date : Day) → has date ≡ is_among date days

-- one of two tests, as a case
or_cond : (a b : Bool) → cond a true b ≡ (a || b)
or_cond true b = refl
or_cond false b = refl

-- a set with one date more has one day more
pub has_days-more : (before after : Day → Bool) (date : Day) (days : List Day) → HasDays before days
    → ((other : Day) → after other ≡ cond (is_at (day_cmp date) other) true (before other)) → HasDays after (date ∷ days)
has_days-more before after date days has more =
    λ other. more other ∙ or_cond (is_at (day_cmp date) other) (before other) ∙ ap (λ old. is_at (day_cmp date) other || old) (has other)

-- a map as the set of its dates
abbrev has : Cells → Day → Bool
has cells date = is_some (lookup (is_at (day_cmp date)) cells)

-- a map has the days of its keys
pub has_days-keys : (cells : Cells) → HasDays (has cells) (keys_of cells)
has_days-keys [] date = refl
has_days-keys (cell ∷ cells) date =
    rw (int_eq_equiv.symm (day_number cell.0) (day_number date)) (at (int_eq (day_number date) (day_number cell.0)) (has_days-keys cells date))
  where
    at : (test : Bool) → has cells date ≡ is_among date (keys_of cells)
        → is_some (cond test (Some cell.1) (lookup (is_at (day_cmp date)) cells)) ≡ (test || is_among date (keys_of cells))
    at true below = refl
    at false below = below

-- the same days are among both
abbrev pub HaveSame : List Day → List Day → Type 0
HaveSame days others = (date : Day) → is_among date days ≡ is_among date others

-- the keys of a map with one date more are this date and the keys before
pub keys-more : (before after : Cells) (date : Day) (value : Option ℤ)
    → ((other : Day) → lookup (is_at (day_cmp other)) after ≡ cond (is_at (day_cmp date) other) (Some value) (lookup (is_at (day_cmp other)) before))
    → HaveSame (date ∷ keys_of before) (keys_of after)
keys-more before after date value more other =
    sym (has_days-more (has before) (has after) date (keys_of before) (has_days-keys before) one_more other) ∙ has_days-keys after other
  where
    some_cond : (test : Bool) (found : Option (Option ℤ)) → is_some (cond test (Some value) found) ≡ cond test true (is_some found)
    some_cond true found = refl
    some_cond false found = refl

    one_more : (q : Day) → has after q ≡ cond (is_at (day_cmp date) q) true (has before q)
    one_more q = ap is_some (more q) ∙ some_cond (is_at (day_cmp date) q) (lookup (is_at (day_cmp q)) before)

-- days of different numbers don't compare as equal
apart : (date other : Day) → int_eq (day_number other) (day_number date) ≡ false → day_cmp date other ≡ Equal → ⊥
apart date other differ same = false≢true (sym differ ∙ int_eq_equiv.symm (day_number other) (day_number date) ∙ ap is_eq same)

-- a new date has no cells
cells_at-new : (date : Day) (cells : Cells) → is_among date (keys_of cells) ≡ false → cells_at (day_number date) cells ≡ []
cells_at-new date [] new = refl
cells_at-new date (cell ∷ cells) new =
    let parts = or_parts (int_eq (day_number cell.0) (day_number date)) (is_among date (keys_of cells)) new in
    rw parts.0 (cells_at-new date cells parts.1)

-- a cell before all others
put-first : (test : Bool) (cell : Day × Option ℤ) (kept others : Cells) → (test ≡ true → kept ≡ [])
    → cond test (cell ∷ kept) kept ++ others ≡ kept ++ cond test (cell ∷ others) others
put-first true cell kept others none = rw (none refl) refl
put-first false cell kept others none = refl

-- a cell after another
put-below : (test : Bool) (cell : Day × Option ℤ) (put others kept more : Cells) → put ++ others ≡ kept ++ more
    → cond test (cell ∷ put) put ++ others ≡ cond test (cell ∷ kept) kept ++ more
put-below true cell put others kept more same = ap (λ cells. cell ∷ cells) same
put-below false cell put others kept more same = same

-- a cell of a new date that is put into a map comes after those of the map, and before others
pub cells_at-insert : (number : ℤ) (date : Day) (value : Option ℤ) (cells others : Cells) → is_among date (keys_of cells) ≡ false
    → cells_at number (insert_entry day_cmp cells date value) ++ cells_at number others
    ≡ cells_at number cells ++ cells_at number ((date, value) ∷ others)
cells_at-insert number date value [] others new =
    put-first (int_eq (day_number date) number) (date, value) [] (cells_at number others) (λ here. refl)
cells_at-insert number date value (cell ∷ cells) others new =
    let parts = or_parts (int_eq (day_number cell.0) (day_number date)) (is_among date (keys_of cells)) new in
    at (day_cmp date cell.0) refl parts.0 (cells_at-insert number date value cells others parts.1)
  where
    none : int_eq (day_number date) number ≡ true → cells_at number (cell ∷ cells) ≡ []
    none here =
        let same : day_number date ≡ number = (Decides-int_eq (day_number date) number).0 here in
        subst (λ (n : ℤ). cells_at n (cell ∷ cells) ≡ []) same (cells_at-new date (cell ∷ cells) new)

    at : (order : Ordering) → day_cmp date cell.0 ≡ order → int_eq (day_number cell.0) (day_number date) ≡ false
        → cells_at number (insert_entry day_cmp cells date value) ++ cells_at number others
        ≡ cells_at number cells ++ cells_at number ((date, value) ∷ others)
        → cells_at number (insert_entry day_cmp (cell ∷ cells) date value) ++ cells_at number others
        ≡ cells_at number (cell ∷ cells) ++ cells_at number ((date, value) ∷ others)
    at Less is differ below =
        rw is (put-first (int_eq (day_number date) number) (date, value) (cells_at number (cell ∷ cells)) (cells_at number others) none)
    at Equal is differ below = absurd (apart date cell.0 differ is)
    at Greater is differ below = rw is (put-below (int_eq (day_number cell.0) number) cell _ _ _ _ below)

-- a day of a smaller number comes before
is-before : (a b : ℤ) → int_cmp a b ≡ Less → a <ℤ b
is-before a b less = grind (arith, ints)

-- the days of a map rise
pub ordered-rising : (cells : Cells) → IsStrictlySortedBy day_cmp (keys_of cells) → AreRising cells
unfolding IsStrictlySortedBy
ordered-rising [] sorted = tt
ordered-rising (cell ∷ []) sorted = (tt, tt)
ordered-rising (cell ∷ next ∷ cells) sorted = (is-before _ _ sorted.0.0, ordered-rising (next ∷ cells) sorted.1)

-- a map whose values are cells
pub cells-values : (cells : Cells) → All IsCell (values_of cells) → All (λ cell. IsCell cell.1) cells
cells-values cells all index cell low =
    subst IsCell (get_or-map (λ (c : Day × Option ℤ). c.1) cells index cell cell.1 low) (all index cell.1 (rw length-map low))
