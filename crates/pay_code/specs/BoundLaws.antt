-- What bounds a run of code, whatever the code is; and what is known of flat code.
use Rattle.std.specs.Prelude.{◌≡◌, ℕ, ◌+◌, ◌*◌, ◌≤◌, List, length}
use Rattle.pay_dates.specs.declared.day.Day.{Day}
use Rattle.pay_tree.specs.Owned.{EventTree}
use Rattle.pay_runs.specs.Weighing.{IsFuzzy}
use Rattle.pay_runs.specs.Slots.{Slots, Row}
use Rattle.pay_runs.specs.SlotCounts.{slot_node_count}
use Rattle.pay_code.specs.declared.op.Op.{Op}
use Rattle.pay_code.specs.Flat.{flat_code, events_table}
use Rattle.pay_code.specs.Execution.{State, Outcome, Stepped, goes, stops, step, run_of}
use Rattle.pay_code.specs.Bounds.{pays_of, pays_in, legs_in, saved_of, saved_in, AreOnLegs, TargetLiesAhead, TargetsLieAhead, events_parts}

-- an operation that makes so many payments and saves so many values adds at most these, one entry to each stack, one choice and one evaluated part
pub record AddsAtMost (pays saves : ℕ) (s after : State) : Type 0 where
  pub slots : length after.slots ≡ length s.slots
  pub numbers : length after.numbers ≤ length s.numbers + 1
  pub weights : length after.weights ≤ length s.weights + 1
  pub frames : length after.frames ≤ length s.frames + 1
  pub payments : length after.kept + length after.paid ≤ length s.kept + length s.paid + pays
  pub saved : length after.saved ≤ length s.saved + saves
  pub nodes : after.nodes ≤ s.nodes + 1

-- the same of what follows an operation
abbrev pub StepsWithin : ℕ → ℕ → State → Stepped → Type 0
StepsWithin pays saves s (goes past after) = AddsAtMost pays saves s after
StepsWithin pays saves s (stops fault after) = AddsAtMost pays saves s after

-- each operation, wherever it stands, adds at most what is said of it
abbrev pub StepsAddAtMost : Type 0
StepsAddAtMost = (fuzzy : IsFuzzy) (table : List ℕ) (first : Op) (at : ℕ) (rest : List Op) (s : State)
    → StepsWithin (pays_of first) (saved_of table first at rest) s (step fuzzy table first at rest s)

-- an operation before so many others passes over at most these
abbrev pub PassesAtMost : ℕ → Stepped → Type 0
PassesAtMost left (goes past after) = past ≤ left
PassesAtMost left (stops fault after) = Unit {0}

-- an operation whose target lies ahead passes over at most what is left
abbrev pub StepsPassWithin : Type 0
StepsPassWithin = (fuzzy : IsFuzzy) (table : List ℕ) (first : Op) (at : ℕ) (rest : List Op) (s : State)
    → TargetLiesAhead (at + 1 + length rest) at first → PassesAtMost (length rest) (step fuzzy table first at rest s)

-- a run makes at most as many payments as the code has `Pay`s, each on a leg that one of them names, and evaluates at most as many parts as it has
-- operations
pub record IsRunWithin (code : List Op) (outcome : Outcome) : Type 0 where
  pub payments : length outcome.payments ≤ pays_in code
  pub legs : AreOnLegs (legs_in code) outcome.payments
  pub nodes : outcome.nodes ≤ length code

-- so does each run, whatever the code and its table are
abbrev pub RunsAreBounded : Type 0
RunsAreBounded = (fuzzy : IsFuzzy) (table : List ℕ) (code : List Op) (slots : Slots) (dates : List Day) (row : Row)
    → IsRunWithin code (run_of fuzzy table code slots dates row)

-- all targets of flat code lie ahead of their operations and within the code, and it saves twice as many values as its table has, whatever is split
pub record FlatCodeIsBounded : Type 0 where
  pub ahead : (events : List EventTree) → TargetsLieAhead (length (flat_code events)) 0 (flat_code events)
  pub saves : (events : List EventTree) → saved_in (events_table events) 0 (flat_code events) ≡ 2 * length (events_table events)

-- a run of events evaluates at most as many parts as there are
abbrev pub PartsAreCounted : Type 0
PartsAreCounted = (fuzzy : IsFuzzy) (events : List EventTree) (slots : Slots) (row : Row)
    → slot_node_count fuzzy events slots row ≤ events_parts events
