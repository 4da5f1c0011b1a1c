-- A scenario file and a fixings file are accepted, and refused, exactly for their causes.
use Rattle.std.proofs.Common.{◌≡◌, ℕ, List, Result, Ok, Err, refl, ap, subst}
use Rattle.pay_tables.specs.declared.refusal.TableRefusal.{TableRefusal}
use Rattle.pay_tables.specs.FixingsFile.{fixings_of, fixings_in}
use Rattle.pay_tables.specs.Records.{records_in}
use Rattle.pay_tables.specs.ScenarioFile.{scenarios_of, scenarios_in}
use Rattle.pay_tables.proofs.PastFaults.{past-refusal-has-cause}
use Rattle.pay_tables.proofs.PastLaws.{past-is-spelled}
use Rattle.pay_tables.proofs.TableFaults.{table-refusal-has-cause}
use Rattle.pay_tables.proofs.TableLaws.{table-is-spelled}
use Rattle.pay_inputs.specs.declared.refusal.Refusal.{Refusal}
use Rattle.pay_inputs.specs.Inputs.{not_there, bad, good, refusal_of_table, read_input, checked_table, checked_fixings}
use Rattle.pay_inputs.specs.CheckLaws.{IsTableFault, no_table, IsPastFault, no_past, TableAcceptanceHasCause, TableRefusalHasCause}
use Rattle.pay_inputs.specs.CheckLaws.{PastAcceptanceHasCause, PastRefusalHasCause}

-- an input is good only where its value was read
read_good : {A : Type 0} (read : Result A TableRefusal) (value : A) → read_input read ≡ good value → read ≡ Ok value
read_good (Err refusal) value is = cc
read_good (Ok other) value is = cc

-- and bad only where there is a refusal
read_bad : {A : Type 0} (read : Result A TableRefusal) (refusal : Refusal) → read_input read ≡ bad refusal
    → (first : TableRefusal) × (read ≡ Err first) × (refusal_of_table first ≡ refusal)
read_bad (Err first) refusal is = (first, refl, cc)
read_bad (Ok value) refusal is = cc

-- and what is read is there
read_there : {A : Type 0} (read : Result A TableRefusal) → read_input read ≡ not_there → ⊥
read_there (Err refusal) is = cc
read_there (Ok value) is = cc

-- a scenario file is accepted exactly where its records spell a table
pub table_acceptance : TableAcceptanceHasCause
unfolding checked_table scenarios_in
table_acceptance bytes table = (
  λ is. table-is-spelled.spelled (records_in bytes) table (read_good (scenarios_of (records_in bytes)) table is),
  λ spells. ap read_input (table-is-spelled.read (records_in bytes) table spells),
)

-- a fault of the records is that of the file
table_faulty : (bytes : List ℕ) (refusal : Refusal) → IsTableFault bytes refusal → checked_table bytes ≡ bad refusal
unfolding checked_table scenarios_in
table_faulty bytes _ (no_table first is) = ap read_input ((table-refusal-has-cause (records_in bytes) first).1 is)

-- and it is refused exactly for its first fault
pub table_refusal : TableRefusalHasCause
unfolding checked_table scenarios_in
table_refusal bytes refusal = (
  λ is.
      let first = read_bad (scenarios_of (records_in bytes)) refusal is in
      subst (IsTableFault bytes) first.2 (no_table first.0 ((table-refusal-has-cause (records_in bytes) first.0).0 first.1)),
  table_faulty bytes refusal,
)

-- its file is there
pub table_there : (bytes : List ℕ) → checked_table bytes ≡ not_there → ⊥
unfolding checked_table
table_there bytes is = read_there (scenarios_in bytes) is

-- a fixings file is accepted exactly where its records spell past fixings
pub past_acceptance : PastAcceptanceHasCause
unfolding checked_fixings fixings_in
past_acceptance bytes cells = (
  λ is. past-is-spelled.spelled (records_in bytes) cells (read_good (fixings_of (records_in bytes)) cells is),
  λ spells. ap read_input (past-is-spelled.read (records_in bytes) cells spells),
)

-- a fault of the records is that of the file
past_faulty : (bytes : List ℕ) (refusal : Refusal) → IsPastFault bytes refusal → checked_fixings bytes ≡ bad refusal
unfolding checked_fixings fixings_in
past_faulty bytes _ (no_past first is) = ap read_input ((past-refusal-has-cause (records_in bytes) first).1 is)

-- and it is refused exactly for its first fault
pub past_refusal : PastRefusalHasCause
unfolding checked_fixings fixings_in
past_refusal bytes refusal = (
  λ is.
      let first = read_bad (fixings_of (records_in bytes)) refusal is in
      subst (IsPastFault bytes) first.2 (no_past first.0 ((past-refusal-has-cause (records_in bytes) first.0).0 first.1)),
  past_faulty bytes refusal,
)

-- its file is there
pub past_there : (bytes : List ℕ) → checked_fixings bytes ≡ not_there → ⊥
unfolding checked_fixings
past_there bytes is = read_there (fixings_in bytes) is
