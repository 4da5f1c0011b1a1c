-- What a program is: flat code with the dates of its events and the values that it starts from, and the events that it stands for.
use Rattle.std.specs.Prelude.{◌≡◌, ℕ, ◌≤◌, ◌<ℤ◌, IsTrue, List, [], ◌∷◌, length, Option, Some, None}
use Rattle.std.specs.List.{list_all}
use Rattle.pay_dates.specs.Days.{day_number}
use Rattle.pay_dates.specs.declared.day.Day.{Day}
use Rattle.pay_fixed.specs.declared.smooth.Smooth.{Smooth}
use Rattle.pay_fixed.specs.Smooth.{IsGood}
use Rattle.pay_tree.specs.Owned.{TestTree, truth_at, compare_at, not_at, and_at, or_at}
use Rattle.pay_tree.specs.Owned.{StepTree, assigning, paying, choosing, grouping, StepsTree, no_steps, step_then, EventTree}
use Rattle.pay_runs.specs.Weighing.{IsFuzzy}
use Rattle.pay_runs.specs.Slots.{Slots, Row, steps_within}
use Rattle.pay_code.specs.declared.op.Op.{Op}
use Rattle.pay_code.specs.declared.op.Op.TheVariants as op
use Rattle.pay_code.specs.Flat.{flat_code, events_table}
use Rattle.pay_code.specs.Filled.{AreFilled}
use Rattle.pay_code.specs.Bounds.{events_parts}
use Rattle.pay_code.specs.Execution.{Outcome, run_of, dates_of}

-- a program: its code with the table of changed variables, the dates of its events, the values that its variables start from, and whether its runs
-- read smoothings
pub record Compiled : Type 0 where
  pub code : List Op
  pub table : List ℕ
  pub dates : List Day
  pub start : Slots
  pub fuzzy : IsFuzzy

-- a run of a program over the cells of a row
abbrev pub run : Compiled → Row → Outcome
run program row = run_of program.fuzzy program.table program.code program.start program.dates row

-- a date is before the next of these
abbrev pub IsBefore : Day → List Day → Type 0
IsBefore date [] = Unit {0}
IsBefore date (following ∷ rest) = day_number date <ℤ day_number following

-- each date is before the one after it
abbrev pub Rise : List Day → Type 0
Rise [] = Unit {0}
Rise (date ∷ rest) = IsBefore date rest × Rise rest

-- a smoothing, where there is one, is good
abbrev pub IsGoodIfAny : Option Smooth → Type 0
IsGoodIfAny None = Unit {0}
IsGoodIfAny (Some smooth) = IsGood smooth

-- the smoothings of a test are good
abbrev pub IsSmoothTest : TestTree → Type 0
IsSmoothTest (truth_at id told answer) = Unit {0}
IsSmoothTest (compare_at id told comparison left right smooth) = IsGoodIfAny smooth
IsSmoothTest (not_at id told side) = IsSmoothTest side
IsSmoothTest (and_at id told left right) = IsSmoothTest left × IsSmoothTest right
IsSmoothTest (or_at id told left right) = IsSmoothTest left × IsSmoothTest right

abbrev mutual
  -- the same of a step
  pub IsSmoothStep : StepTree → Type 0
  IsSmoothStep (assigning slot value) = Unit {0}
  IsSmoothStep (paying leg amount) = Unit {0}
  IsSmoothStep (choosing test yes_part no_part changes) = IsSmoothTest test × (AreSmoothSteps yes_part × AreSmoothSteps no_part)
  IsSmoothStep (grouping steps) = AreSmoothSteps steps

  -- the same of steps
  pub AreSmoothSteps : StepsTree → Type 0
  AreSmoothSteps no_steps = Unit {0}
  AreSmoothSteps (step_then step rest) = IsSmoothStep step × AreSmoothSteps rest

-- the same of events
abbrev pub AreSmooth : List EventTree → Type 0
AreSmooth [] = Unit {0}
AreSmooth (event ∷ rest) = AreSmoothSteps event.steps × AreSmooth rest

-- Events can be lowered over so many variables where their dates rise; where their variables are among these, at most 1,024; where each choice has
-- the variables that its branches assign; where their smoothings are good; and where there are at most 4,096 of them and 262,144 parts.
pub record CanBeLowered (events : List EventTree) (variables : ℕ) : Type 0 where
  pub rise : Rise (dates_of events)
  pub within : IsTrue (list_all (λ event. steps_within variables event.steps) events)
  pub few_variables : variables ≤ 1024
  pub filled : AreFilled events
  pub smooth : AreSmooth events
  pub few_events : length events ≤ 4096
  pub few_parts : events_parts events ≤ 262_144

-- a program stands for events: they can be lowered over its variables, and its code and its dates are theirs
pub record StandsFor (program : Compiled) (events : List EventTree) : Type 0 where
  pub lowered : CanBeLowered events (length program.start)
  pub code : program.code ≡ flat_code events
  pub table : program.table ≡ events_table events
  pub dates : program.dates ≡ dates_of events

-- a smoothing of an operation is good
abbrev pub IsGoodOp : Op → Type 0
IsGoodOp (op.Compare comparison smooth) = IsGoodIfAny smooth
IsGoodOp other = Unit {0}

-- the same of each operation of code
abbrev pub AreGoodOps : List Op → Type 0
AreGoodOps [] = Unit {0}
AreGoodOps (first ∷ rest) = IsGoodOp first × AreGoodOps rest

-- valid code: there are events that it stands for
pub record IsValid (program : Compiled) : Type 0 where
  pub events : List EventTree
  pub stands : StandsFor program events
