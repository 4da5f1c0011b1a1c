-- The states that a run of code goes through, and how much they hold.
use Rattle.std.specs.Prelude.{◌≤◌, ℕ, ◌+◌, suc, zero, List, [], ◌∷◌, length}
use Rattle.pay_dates.specs.declared.day.Day.{Day}
use Rattle.pay_runs.specs.Weighing.{IsFuzzy}
use Rattle.pay_runs.specs.Slots.{Slots, Row}
use Rattle.pay_code.specs.declared.op.Op.{Op}
use Rattle.pay_code.specs.Execution.{State, Stepped, goes, stops, step, starting}
use Rattle.pay_code.specs.Programs.{Compiled}

-- the states that follow an operation; where a fault stops the run, the one that it leaves
abbrev pub states_after : Stepped → (ℕ → State → List State) → List State
states_after (stops fault s) rest = s ∷ []
states_after (goes past s) rest = rest past s

-- the state before each operation that is done of those that are left, of which the first stands at this place and so many are passed over; and the
-- last state
abbrev pub states_from : IsFuzzy → List ℕ → List Op → ℕ → ℕ → State → List State
states_from fuzzy table [] at past s = s ∷ []
states_from fuzzy table (first ∷ rest) at (suc past) s = states_from fuzzy table rest (at + 1) past s
states_from fuzzy table (first ∷ rest) at zero s =
    s ∷ states_after (step fuzzy table first at rest s) (λ past after. states_from fuzzy table rest (at + 1) past after)

-- the states of a run of a program over the cells of a row
abbrev pub states_of : Compiled → Row → List State
states_of program row = states_from program.fuzzy program.table program.code 0 0 (starting program.start program.dates row)

-- each of these states is such
abbrev pub EachIs : (State → Type 0) → List State → Type 0
EachIs P [] = Unit {0}
EachIs P (s ∷ rest) = P s × EachIs P rest

-- each state of each run of a program is such
abbrev pub InEachRun : (State → Type 0) → Compiled → Type 0
InEachRun P program = (row : Row) → EachIs P (states_of program row)

-- each stack has at most so many entries: that of numbers, that of weights, and that of the choices that have begun
pub record HasEntries (entries : ℕ) (s : State) : Type 0 where
  pub numbers : length s.numbers ≤ entries
  pub weights : length s.weights ≤ entries
  pub frames : length s.frames ≤ entries

-- the open splits hold at most so many values together
abbrev pub HasSaved : ℕ → State → Type 0
HasSaved values s = length s.saved ≤ values
