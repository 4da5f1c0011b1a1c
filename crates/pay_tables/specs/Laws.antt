-- What reading a file and spelling its table have to do with each other.
use Rattle.std.specs.Prelude.{◌≡◌, ◌↔◌, ℤ, List, Ok, Err}
use Rattle.pay_meaning.specs.Meaning as meaning
use Rattle.pay_meaning.specs.Meaning.{Cells}
use Rattle.std.specs.FinMap.{get}
use Rattle.pay_tables.specs.Tables.{Table, IsGood}
use Rattle.pay_tables.specs.Records.{Record}
use Rattle.pay_tables.specs.ScenarioFile.{scenarios_of}
use Rattle.pay_tables.specs.FixingsFile.{fixings_of, IsInOrder}
use Rattle.pay_tables.specs.Spelling.{SpellsTable, SpellsPast}
use Rattle.pay_tables.specs.Faults.{IsTableFault, IsPastFault}
use Rattle.pay_tables.specs.declared.refusal.TableRefusal.{TableRefusal}

-- records that are read as a table spell it, and it is good; and records that spell a table are read as it
pub record TableIsSpelled : Type 0 where
  pub spelled : (records : List Record) (table : Table) → scenarios_of records ≡ Ok table → SpellsTable records table
  pub read : (records : List Record) (table : Table) → SpellsTable records table → scenarios_of records ≡ Ok table
  pub good : (records : List Record) (table : Table) → SpellsTable records table → IsGood table

-- records are refused as a table exactly for their fault
abbrev pub TableRefusalHasCause : Type 0
TableRefusalHasCause = (records : List Record) (refusal : TableRefusal) → (scenarios_of records ≡ Err refusal) ↔ IsTableFault records refusal

-- records that are read as past fixings spell them; and records that spell past fixings are read as them
pub record PastIsSpelled : Type 0 where
  pub spelled : (records : List Record) (past : Cells) → fixings_of records ≡ Ok past → SpellsPast records past
  pub read : (records : List Record) (past : Cells) → SpellsPast records past → fixings_of records ≡ Ok past

-- records are refused as past fixings exactly for their fault
abbrev pub PastRefusalHasCause : Type 0
PastRefusalHasCause = (records : List Record) (refusal : TableRefusal) → (fixings_of records ≡ Err refusal) ↔ IsPastFault records refusal

-- cells in order of date are the same fixings
abbrev pub OrderChangesNoFixing : Type 0
OrderChangesNoFixing = (cells ordered : Cells) (number : ℤ) → IsInOrder cells ordered
    → get (meaning.fixings_in ordered) number ≡ get (meaning.fixings_in cells) number
