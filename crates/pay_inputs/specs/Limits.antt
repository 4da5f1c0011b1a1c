-- What a script is refused for, in the order in which it is asked.
use Rattle.std.specs.Prelude.{◌≡◌, ℕ, ◌≤◌, nat_le, false, List, [], ◌∷◌, map, length, Option, Some, None, if◌then◌else◌}
use Rattle.std.specs.Option.{option_and_then}
use Rattle.pay_meaning.specs.Language.{Script}
use Rattle.pay_meaning.specs.Events.{events_of}
use Rattle.pay_meaning.specs.Parts.{as_variable, as_leg, event_parts, names_of, payment_count}
use Rattle.pay_compile.specs.Preparing.{compile_refusals}
use Rattle.pay_compile.specs.declared.refusal.CompileRefusal.{CompileRefusal}
use Rattle.pay_compile.specs.declared.refusal.CompileRefusal.TheVariants as compiling
use Rattle.pay_roll.specs.Rolling.{is_bad}
use Rattle.pay_roll.specs.declared.refusal.What.{What}
use Rattle.pay_roll.specs.declared.refusal.What.TheVariants.{Nodes, Pays, Variables, Legs}
use Rattle.pay_inputs.specs.declared.refusal.Refusal.{Refusal}
use Rattle.pay_inputs.specs.declared.refusal.Refusal.TheVariants.{BadSchedule, SameDate, TooMany}

-- why a script is no trade, as the refusal of its file; want of memory is none
abbrev pub refusal_of_compile : CompileRefusal → Option Refusal
refusal_of_compile (compiling.BadSchedule item) = Some (BadSchedule item)
refusal_of_compile (compiling.SameDate date) = Some (SameDate date)
refusal_of_compile (compiling.TooMany what limit) = Some (TooMany what limit)
refusal_of_compile compiling.NoMemory = None

-- the refusal where there are more than so many
abbrev pub refusal_beyond : What → ℕ → ℕ → Option Refusal
refusal_beyond what limit count = if nat_le count limit then None else Some (TooMany what limit)

-- what the names of a script are refused for: more than 1,024 variables; more than 256 legs
abbrev pub name_refusals : Script → List (Option Refusal)
name_refusals script =
    refusal_beyond Variables 1024 (length (names_of as_variable script)) ∷ refusal_beyond Legs 256 (length (names_of as_leg script)) ∷ []

-- what a script is refused for: why it has no events, which are its first bad schedule, its number of events, the earliest date that two of them
-- share, and their nodes and payments; and then its names
abbrev pub script_refusals : Script → List (Option Refusal)
script_refusals script = map (option_and_then refusal_of_compile) (compile_refusals script)

-- 4,096 events
abbrev pub event_limit : ℕ
event_limit = 4096

-- no schedule of a script is bad
abbrev pub HasGoodSchedules : Script → Type 0
HasGoodSchedules [] = Unit {0}
HasGoodSchedules (item ∷ rest) = (is_bad item ≡ false) × HasGoodSchedules rest

-- what the parts of a script's events, and its names, are refused for: 262,144 nodes, 16,384 payments, 1,024 variables, 256 legs
abbrev pub part_refusals : Script → List (Option Refusal)
part_refusals script =
    refusal_beyond Nodes 262_144 (length (event_parts (events_of script))) ∷ refusal_beyond Pays 16_384 (payment_count (event_parts (events_of script)))
    ∷ name_refusals script

-- the parts of a script's events, and its names, keep their limits
pub record KeepsLimits (script : Script) : Type 0 where
  pub nodes : length (event_parts (events_of script)) ≤ 262_144
  pub payments : payment_count (event_parts (events_of script)) ≤ 16_384
  pub variables : length (names_of as_variable script) ≤ 1024
  pub legs : length (names_of as_leg script) ≤ 256
