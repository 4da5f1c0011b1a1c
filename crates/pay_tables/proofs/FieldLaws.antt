-- Fields of which none is refused spell what they are read as, and fields that spell something are read as it.
use Rattle.std.proofs.Common.{◌≡◌, ℕ, suc, ◌+◌, ℤ, true, false, not, List, [], ◌∷◌, All, length, map, Option, Some, None, Result, Ok, Err, refl, ap}
use Rattle.std.proofs.Common.{subst}
use Rattle.std.specs.Bool.{IsTrue}
use Rattle.std.specs.List.{filter_map}
use Rattle.std.specs.Option.{unwrap_or}
use Rattle.std.proofs.lemmas.Bool.{and_parts, not-true}
use Rattle.std.proofs.lemmas.Option.{cond_some}
use Rattle.std.proofs.lemmas.List.Elements.{All-nil, All-cons}
use Rattle.pay_dates.specs.Days.{IsDay, day_in, day_text}
use Rattle.pay_dates.specs.declared.day.Day.{Day}
use Rattle.pay_dates.proofs.DayLemmas.{day_in-day_text, day_text-day_in}
use Rattle.pay_fixed.specs.Decimal.{decimal_in}
use Rattle.pay_fixed.specs.declared.NumberFault.{NumberFault}
use Rattle.pay_fixed.proofs.AsSpelled.{raw-spelled, spelled-raw}
use Rattle.pay_roll.specs.Rolling.{first_of}
use Rattle.pay_tables.specs.declared.refusal.TableRefusal.TheVariants.{SameDate}
use Rattle.pay_tables.specs.Tables.{IsCell, is_among, is_fixing}
use Rattle.pay_tables.specs.Fields.{fixing_if, cell_in, date_refusal, cell_refusal}
use Rattle.pay_tables.specs.ScenarioFile.{cell_of, cell_refusals, date_refusals}
use Rattle.pay_tables.specs.Spelling.{SpellsCell, SpellsCells, SpellsDates}
use Rattle.pay_tables.proofs.Refusals.{none-cons, refused_if-none}
use Rattle.pay_tables.proofs.NewDays.{are_new}

-- what is a cell is a raw that can be a fixing
fixing_if-some : (read : Result ℤ NumberFault) (cell : Option ℤ) → fixing_if read ≡ Some cell
    → (raw : ℤ) × ((read ≡ Ok raw) × IsTrue (is_fixing raw) × (Some raw ≡ cell))
fixing_if-some (Err fault) cell is = cc
fixing_if-some (Ok raw) cell is =
    let parts = cond_some (is_fixing raw) (Some raw) cell is in
    (raw, (refl, parts.0, parts.1))

-- a field that is read as a cell spells it
pub read-spelled : (field : List ℕ) (cell : Option ℤ) → cell_in field ≡ Some cell → SpellsCell field cell
read-spelled [] cell is = let same : None ≡ cell = cc in subst (SpellsCell []) same SpellsCell.empty_cell
read-spelled (byte ∷ rest) cell is =
    let found = fixing_if-some (decimal_in (byte ∷ rest)) cell is in
    subst (SpellsCell (byte ∷ rest)) found.1.2
    (SpellsCell.given_cell (byte ∷ rest) found.0 (raw-spelled (byte ∷ rest) found.0 found.1.0) found.1.1)

-- a field that is read as a raw that can be a fixing is a cell of this raw
given-read : (field : List ℕ) (raw : ℤ) → decimal_in field ≡ Ok raw → IsTrue (is_fixing raw) → cell_in field ≡ Some (Some raw)
unfolding decimal_in
given-read [] raw is fits = cc
given-read (byte ∷ rest) raw is fits = rw (is, fits) refl

-- a field that spells a cell is read as it
pub spelled-cell : (field : List ℕ) (cell : Option ℤ) → SpellsCell field cell → cell_in field ≡ Some cell
spelled-cell field cell SpellsCell.empty_cell = refl
spelled-cell field cell (SpellsCell.given_cell _ raw is fits) = given-read field raw (spelled-raw field raw is) fits

-- a field that isn't refused spells its cell
pub cell-spelled : (row column : ℕ) (field : List ℕ) → cell_refusal row column (cell_in field) ≡ None → SpellsCell field (cell_of field)
cell-spelled row column field none = read-spelled field (cell_of field) (there (cell_in field) none)
  where
    there : (read : Option (Option ℤ)) → cell_refusal row column read ≡ None → read ≡ Some (unwrap_or read None)
    there None none = cc
    there (Some cell) none = refl

-- fields of which none is refused spell their cells
pub cells-spelled : (row column : ℕ) (fields : List (List ℕ)) → first_of (cell_refusals row column fields) ≡ None
    → SpellsCells fields (map cell_of fields)
cells-spelled row column [] none = SpellsCells.no_cell
cells-spelled row column (field ∷ rest) none =
    let parts = none-cons _ _ none in
    SpellsCells.next_cell field (cell_of field) rest (map cell_of rest)
    (cell-spelled row column field parts.0) (cells-spelled row (column + 1) rest parts.1)

-- fields that spell cells are read as them
pub spelled-cells : (row column : ℕ) (fields : List (List ℕ)) (cells : List (Option ℤ)) → SpellsCells fields cells
    → (first_of (cell_refusals row column fields) ≡ None) × (map cell_of fields ≡ cells)
spelled-cells row column fields cells SpellsCells.no_cell = (refl, refl)
spelled-cells row column fields cells (SpellsCells.next_cell field cell rest others is more) =
    let next = spelled-cells row (column + 1) rest others more in
    rw (spelled-cell field cell is) (next.0, ap (λ xs. cell ∷ xs) next.1)

-- there is a field for each cell
pub length-cells : (fields : List (List ℕ)) (cells : List (Option ℤ)) → SpellsCells fields cells → length fields ≡ length cells
length-cells fields cells SpellsCells.no_cell = refl
length-cells fields cells (SpellsCells.next_cell field cell rest others is more) = ap suc (length-cells rest others more)

-- a cell that is spelled is empty or can be a fixing
cell-good : (field : List ℕ) (cell : Option ℤ) → SpellsCell field cell → IsCell cell
cell-good field cell SpellsCell.empty_cell = tt
cell-good field cell (SpellsCell.given_cell _ raw is fits) = fits

-- and so are cells that are spelled
pub cells-good : (fields : List (List ℕ)) (cells : List (Option ℤ)) → SpellsCells fields cells → All IsCell cells
cells-good fields cells SpellsCells.no_cell = All-nil IsCell
cells-good fields cells (SpellsCells.next_cell field cell rest others is more) =
    All-cons IsCell cell others (cell-good field cell is) (cells-good rest others more)

-- a field is the text of this day, which is none of those before it
pub record IsNewDay (before : List Day) (field : List ℕ) (date : Day) : Type 0 where
  pub read : day_in field ≡ Some date
  pub day : IsDay date
  pub text : day_text date ≡ field
  pub new : is_among date before ≡ false

-- the field of a date that isn't refused is that of such a day
pub date-read : (place : ℕ) (before : List Day) (field : List ℕ) → date_refusal place before (day_in field) ≡ None
    → (date : Day) × IsNewDay before field date
date-read place before field none = at (day_in field) refl none
  where
    at : (read : Option Day) → day_in field ≡ read → date_refusal place before read ≡ None → (date : Day) × IsNewDay before field date
    at None is none = cc
    at (Some date) is none =
        let text = day_text-day_in field date is in
        (date, record { read = is; day = text.0; text = text.1; new = refused_if-none (is_among date before) (SameDate place) none })

-- fields of which none is refused spell their days, and these are new
pub dates-spelled : (column : ℕ) (before : List Day) (fields : List (List ℕ)) → first_of (date_refusals column before fields) ≡ None
    → SpellsDates fields (filter_map day_in fields) × (are_new before (filter_map day_in fields) ≡ true)
dates-spelled column before [] none = (SpellsDates.no_date, refl)
dates-spelled column before (field ∷ rest) none =
    let parts = none-cons _ _ none in
    let first = date-read column before field parts.0 in
    let date = first.0 in
    let is = first.1 in
    let next = dates-spelled (column + 1) (date ∷ before) rest (rw is.read at parts.1) in
    let spells = SpellsDates.next_date date rest (filter_map day_in rest) is.day next.0 in
    rw (is.read, is.new) (subst (λ text. SpellsDates (text ∷ rest) (date ∷ filter_map day_in rest)) is.text spells, next.1)

-- fields that spell new days are read as them
pub spelled-dates : (column : ℕ) (before : List Day) (fields : List (List ℕ)) (dates : List Day) → SpellsDates fields dates
    → are_new before dates ≡ true → (first_of (date_refusals column before fields) ≡ None) × (filter_map day_in fields ≡ dates)
spelled-dates column before fields dates SpellsDates.no_date new = (refl, refl)
spelled-dates column before fields dates (SpellsDates.next_date date rest others is more) new =
    let parts = and_parts (not (is_among date before)) (are_new (date ∷ before) others) new in
    let next = spelled-dates (column + 1) (date ∷ before) rest others more parts.1 in
    rw (day_in-day_text date is, not-true (is_among date before) parts.0) (next.0, ap (λ xs. date ∷ xs) next.1)

-- there is a field for each day
pub length-dates : (fields : List (List ℕ)) (dates : List Day) → SpellsDates fields dates → length fields ≡ length dates
length-dates fields dates SpellsDates.no_date = refl
length-dates fields dates (SpellsDates.next_date date rest others is more) = ap suc (length-dates rest others more)
