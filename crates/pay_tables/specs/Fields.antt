-- What a field says, and what it is refused for.
use Rattle.std.specs.Prelude.{ℕ, ℤ, Bool, true, false, List, [], ◌∷◌, Option, Some, None, Result, Ok, Err, if◌then◌else◌}
use Rattle.pay_dates.specs.declared.day.Day.{Day}
use Rattle.pay_fixed.specs.Decimal.{decimal_in}
use Rattle.pay_fixed.specs.declared.NumberFault.{NumberFault}
use Rattle.pay_tables.specs.declared.refusal.TableRefusal.{TableRefusal}
use Rattle.pay_tables.specs.declared.refusal.TableRefusal.TheVariants.{BadDate, SameDate, BadCell}
use Rattle.pay_tables.specs.Tables.{is_among, is_fixing}

-- a raw, if there is one and it can be a fixing
abbrev pub fixing_if : Result ℤ NumberFault → Option (Option ℤ)
fixing_if (Err fault) = None
fixing_if (Ok raw) = if is_fixing raw then Some (Some raw) else None

-- the cell of a field: nothing in an empty one, and else the raw that it spells, if it can be a fixing
abbrev pub cell_in : List ℕ → Option (Option ℤ)
cell_in [] = Some None
cell_in (byte ∷ rest) = fixing_if (decimal_in (byte ∷ rest))

-- a refusal, where this is so
abbrev pub refused_if : Bool → TableRefusal → Option TableRefusal
refused_if false refusal = None
refused_if true refusal = Some refusal

-- what a date is refused for, at this place and after these days: it is none, or one of them
abbrev pub date_refusal : ℕ → List Day → Option Day → Option TableRefusal
date_refusal place before None = Some (BadDate place)
date_refusal place before (Some date) = refused_if (is_among date before) (SameDate place)

-- days, and one more if there is one
abbrev pub with_day : Option Day → List Day → List Day
with_day None days = days
with_day (Some day) days = day ∷ days

-- what a cell is refused for, in this row and column
abbrev pub cell_refusal : ℕ → ℕ → Option (Option ℤ) → Option TableRefusal
cell_refusal row column None = Some (BadCell row column)
cell_refusal row column (Some cell) = None

-- a table, unless something is refused
abbrev pub unless : {A : Type 0} → Option TableRefusal → A → Result A TableRefusal
unless None table = Ok table
unless (Some refusal) table = Err refusal
