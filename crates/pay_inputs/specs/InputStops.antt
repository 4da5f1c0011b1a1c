-- Why an input gave no value.
use Rattle.std.specs.Prelude.{◌≡◌, ℕ, ◌⊎◌, Option, IfSome, IsSomeAnd}
use Rattle.pay_edge.specs.Edge.{Files, Rose}
use Rattle.pay_inputs.specs.declared.input.InputStop.{InputStop}
use Rattle.pay_inputs.specs.declared.input.InputStop.TheVariants.{Refused, Unread, NoMemory}
use Rattle.pay_edge.specs.declared.whole.WholeFault.{WholeFault}
use Rattle.pay_edge.specs.declared.whole.WholeFault.TheVariants as whole
use Rattle.pay_inputs.specs.declared.refusal.Refusal.TheVariants.{TooLong}
use Rattle.pay_inputs.specs.declared.script.CheckStop.{CheckStop}
use Rattle.pay_inputs.specs.declared.script.CheckStop.TheVariants as script
use Rattle.pay_tables.specs.declared.refusal.TableRefusal.{TableRefusal}
use Rattle.pay_tables.specs.declared.refusal.TableRefusal.TheVariants as table
use Rattle.pay_inputs.specs.Inputs.{Input, not_there, bad, refusal_of_table}

-- An input is refused for this reason; or it is unread, since the count of its read faults rose or its file is not there;
-- of want of memory nothing is said.
abbrev pub StopsAt : {A : Type 0} → Option Files → (Files → Input A) → ℕ → ℕ → InputStop → Type 0
StopsAt told input before now (Refused refusal) = IfSome told (λ files. input files ≡ bad refusal)
StopsAt told input before now Unread = Rose before now ⊎ IsSomeAnd told (λ files. input files ≡ not_there)
StopsAt told input before now NoMemory = Unit {0}

-- the stop of a file of at most so many bytes that was not read as a whole
abbrev pub stop_of_file : ℕ → WholeFault → InputStop
stop_of_file limit whole.Absent = Unread
stop_of_file limit whole.Failed = Unread
stop_of_file limit whole.TooLong = Refused (TooLong limit)
stop_of_file limit whole.NoMemory = NoMemory

-- the stop of a script that was not accepted
abbrev pub stop_of_script : CheckStop → InputStop
stop_of_script (script.Refused refusal) = Refused refusal
stop_of_script script.NoMemory = NoMemory

-- the stop of a file of scenarios or of past fixings that was not accepted
abbrev pub stop_of_table : TableRefusal → InputStop
stop_of_table table.NoMemory = NoMemory
stop_of_table refusal = Refused (refusal_of_table refusal)
