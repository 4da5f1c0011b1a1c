-- What code does, whatever code it is: operation by operation, over the operations that are left. A stack that is empty gives 0, a look-up past the
-- end nothing, and a jump back is no jump.
use Rattle.std.specs.Prelude.{ℕ, ◌+◌, ◌-◌, suc, zero, ℤ, pos, Bool, true, false, List, [], ◌∷◌, ◌++◌, map, length, take, drop, set, get_or, nat_eq}
use Rattle.std.specs.Prelude.{Result, Ok, Err}
use Rattle.pay_dates.specs.declared.day.Day.{Day}
use Rattle.pay_meaning.specs.declared.fault.FaultKind.{FaultKind}
use Rattle.pay_meaning.specs.Meaning.{known, calculated}
use Rattle.pay_tree.specs.Views.{operator, comparison}
use Rattle.pay_tree.specs.Owned.{EventTree, note_of}
use Rattle.pay_fixed.specs.Weights.{whole as full, blended}
use Rattle.pay_runs.specs.Weighing.{IsFuzzy, certain, compared_weight, joint, either}
use Rattle.pay_runs.specs.Slots.{Slots, slot_value, signed_value, SlotPayment, scaled_slot_payment, SlotEnd, slots_finished, slots_faulted, Row}
use Rattle.pay_runs.specs.Slots.{first_cell, further_cells}
use Rattle.pay_code.specs.declared.op.Op.{Op}
use Rattle.pay_code.specs.declared.op.Op.TheVariants as op

-- a choice that has begun: one branch runs alone; or the true branch of a weight runs, with how many payments and saved values there were before it;
-- or the false branch runs after it, with how many payments there were before the first and before the second
pub data Frame : Type 0 where
  alone : Frame
  true_branch : ℕ → ℕ → ℕ → Frame
  false_branch : ℕ → ℕ → ℕ → ℕ → Frame

-- what operations work on: the values of the variables; the stacks of numbers and of weights, each with its top in front; the payments of the events
-- before and those of this event; the choices that have begun, the innermost in front, and the values that they saved; the dates and the cells from
-- this event on; and how many parts were evaluated
pub record State : Type 0 where
  pub slots : Slots
  pub numbers : List ℤ
  pub weights : List ℕ
  pub kept : List SlotPayment
  pub paid : List SlotPayment
  pub frames : List Frame
  pub saved : List ℤ
  pub dates : List Day
  pub row : Row
  pub nodes : ℕ

-- what a run of code gives: the payments, the end, and how many parts were evaluated
pub record Outcome : Type 0 where
  pub payments : List SlotPayment
  pub end : SlotEnd
  pub nodes : ℕ

-- after an operation: the run goes on past so many of the next ones, or a fault stops it
pub data Stepped : Type 0 where
  goes : ℕ → State → Stepped
  stops : FaultKind → State → Stepped

-- the number on top of a stack; of an empty one it is 0
abbrev pub top_number : List ℤ → ℤ
top_number [] = pos 0
top_number (first ∷ rest) = first

-- the weight on top of a stack; of an empty one it is 0
abbrev pub top_weight : List ℕ → ℕ
top_weight [] = 0
top_weight (first ∷ rest) = first

-- what lies below the top
abbrev pub below_top : {A : Type 0} → List A → List A
below_top [] = []
below_top (first ∷ rest) = rest

-- one more part was evaluated
abbrev pub counted : State → State
counted s = record s { nodes = s.nodes + 1 }

-- a number, if there is one, on top of this stack
abbrev pub put_number : List ℤ → Result ℤ FaultKind → State → Stepped
put_number numbers (Err fault) s = stops fault (counted s)
put_number numbers (Ok raw) s = goes 0 (counted (record s { numbers = raw ∷ numbers }))

-- a weight on top of this stack
abbrev pub put_weight : List ℕ → ℕ → State → Stepped
put_weight weights w s = goes 0 (counted (record s { weights = w ∷ weights }))

-- the comparison of the two numbers on top
abbrev pub compare_numbers : (ℤ → ℤ → ℕ) → State → Stepped
compare_numbers weigh s =
    goes 0 (counted (record s {
      numbers = below_top (below_top s.numbers);
      weights = weigh (top_number (below_top s.numbers)) (top_number s.numbers) ∷ s.weights;
    }))

-- the right side is skipped, and the part that it is a side of counts; or it follows
abbrev pub skip_if : Bool → ℕ → State → Stepped
skip_if true past s = goes past (counted s)
skip_if false past s = goes 0 s

-- an amount on a leg at the first of these dates; where no event is left it is not paid
abbrev pub paid_on : List Day → ℕ → ℤ → List SlotPayment
paid_on [] leg amount = []
paid_on (date ∷ later) leg amount = record { date = date; leg = leg; amount = amount } ∷ []

-- the variables that the `EndIf` at a place names, by the table; elsewhere none
abbrev pub changes_of : List ℕ → Op → List ℕ
changes_of table (op.EndIf first count) = take count (drop first table)
changes_of table other = []

-- the operation that stands so many places further on; past the end `EndEvent`
abbrev pub op_ahead : List Op → ℕ → Op
op_ahead rest ahead = get_or rest ahead op.EndEvent

-- the variables that a choice changes, as its `Else` finds them: by the `EndIf` at its target
abbrev pub changes_from_else : List ℕ → ℕ → List Op → Op → List ℕ
changes_from_else table at rest (op.Else after) = changes_of table (op_ahead rest (after - (at + 1)))
changes_from_else table at rest other = []

-- the same as its `If` finds them: by the `Else` before its target
abbrev pub changes_from_if : List ℕ → ℕ → List Op → ℕ → List ℕ
changes_from_if table at rest to = changes_from_else table at rest (op_ahead rest (to - (at + 2)))

-- the values of these variables
abbrev pub values_of : List ℕ → Slots → List ℤ
values_of changes slots = map (slot_value slots) changes

-- these variables get these values
abbrev pub restored : List ℕ → List ℤ → Slots → Slots
restored [] values slots = slots
restored (slot ∷ rest) values slots = restored rest (below_top values) (set slots slot (top_number values))

-- these variables get the blends of these values, those of the true branch, with their own
abbrev pub blended_with : ℕ → List ℕ → List ℤ → Slots → Slots
blended_with w [] values slots = slots
blended_with w (slot ∷ rest) values slots =
    blended_with w rest (below_top values) (set slots slot (blended w (top_number values) (slot_value slots slot)))

-- payments of which those from the first place up to the second are scaled by a weight, and those from the second on by what is left of the whole
abbrev pub scaled_from : ℕ → ℕ → ℕ → List SlotPayment → List SlotPayment
scaled_from w first second paid =
    take first (take second paid)
    ++ (map (scaled_slot_payment w) (drop first (take second paid)) ++ map (scaled_slot_payment (full - w)) (drop second paid))

-- a choice begins with its weight: by whether that is nothing, and whether it is the whole
abbrev pub enter : Bool → Bool → ℕ → ℕ → List ℕ → State → Stepped
enter true all w past changes s = goes past (record s { frames = alone ∷ s.frames })
enter false true w past changes s = goes 0 (record s { frames = alone ∷ s.frames })
enter false false w past changes s =
    goes 0 (record s {
      frames = true_branch w (length s.paid) (length s.saved) ∷ s.frames;
      saved = s.saved ++ values_of changes s.slots;
    })

-- `Else`: past the false branch, or, where both run, into it with the variables as they were before the true one
abbrev pub turn : List Frame → ℕ → List ℕ → State → Stepped
turn [] past changes s = goes 0 s
turn (alone ∷ outer) past changes s = goes past s
turn (true_branch w before from ∷ outer) past changes s =
    goes 0 (record s {
      slots = restored changes (drop from s.saved) s.slots;
      frames = false_branch w before (length s.paid) from ∷ outer;
      saved = s.saved ++ values_of changes s.slots;
    })
turn (false_branch w before between from ∷ outer) past changes s = goes 0 s

-- `EndIf`: the choice is done, and where both branches ran, their values are blended and their payments scaled
abbrev pub close : List Frame → List ℕ → State → Stepped
close [] changes s = goes 0 s
close (alone ∷ outer) changes s = goes 0 (record s { frames = outer })
close (true_branch w before from ∷ outer) changes s = goes 0 (record s { frames = outer })
close (false_branch w before between from ∷ outer) changes s =
    goes 0 (record s {
      slots = blended_with w changes (drop (from + length changes) s.saved) s.slots;
      paid = scaled_from w before between s.paid;
      frames = outer;
      saved = take from s.saved;
    })

-- what an operation does at its place, before these that are left
abbrev pub step : IsFuzzy → List ℕ → Op → ℕ → List Op → State → Stepped
step fuzzy table (op.Number raw) at rest s = put_number s.numbers (Ok raw) s
step fuzzy table (op.Slot slot) at rest s = put_number s.numbers (Ok (slot_value s.slots slot)) s
step fuzzy table op.Spot at rest s = put_number s.numbers (known (first_cell s.row)) s
step fuzzy table (op.Unary kind) at rest s = put_number (below_top s.numbers) (Ok (signed_value kind (top_number s.numbers))) s
step fuzzy table (op.Binary kind) at rest s =
    put_number (below_top (below_top s.numbers)) (calculated (operator kind) (top_number (below_top s.numbers)) (top_number s.numbers)) s
step fuzzy table (op.Truth answer) at rest s = put_weight s.weights (certain answer) s
step fuzzy table (op.Compare kind smooth) at rest s = compare_numbers (compared_weight fuzzy (comparison kind) (note_of smooth)) s
step fuzzy table op.Not at rest s = put_weight (below_top s.weights) (full - top_weight s.weights) s
step fuzzy table (op.AndSkip to) at rest s = skip_if (nat_eq (top_weight s.weights) 0) (to - (at + 1)) s
step fuzzy table op.AndJoin at rest s =
    put_weight (below_top (below_top s.weights)) (joint (top_weight (below_top s.weights)) (top_weight s.weights)) s
step fuzzy table (op.OrSkip to) at rest s = skip_if (nat_eq (top_weight s.weights) full) (to - (at + 1)) s
step fuzzy table op.OrJoin at rest s =
    put_weight (below_top (below_top s.weights)) (either (top_weight (below_top s.weights)) (top_weight s.weights)) s
step fuzzy table (op.Sure answer) at rest s = goes 0 (record s { weights = certain answer ∷ below_top s.weights })
step fuzzy table (op.Assign slot) at rest s =
    goes 0 (counted (record s { slots = set s.slots slot (top_number s.numbers); numbers = below_top s.numbers }))
step fuzzy table (op.Pay leg) at rest s =
    goes 0 (counted (record s { paid = s.paid ++ paid_on s.dates leg (top_number s.numbers); numbers = below_top s.numbers }))
step fuzzy table (op.If to) at rest s =
    enter (nat_eq (top_weight s.weights) 0) (nat_eq (top_weight s.weights) full) (top_weight s.weights) (to - (at + 1))
    (changes_from_if table at rest to) (counted (record s { weights = below_top s.weights }))
step fuzzy table (op.Else after) at rest s = turn s.frames (after - (at + 1)) (changes_of table (op_ahead rest (after - (at + 1)))) s
step fuzzy table (op.EndIf first count) at rest s = close s.frames (take count (drop first table)) s
step fuzzy table op.EndEvent at rest s =
    goes 0 (record s { kept = s.kept ++ s.paid; paid = []; dates = below_top s.dates; row = further_cells s.row })

-- how a run ends that a fault stops: at the first of these dates; where no event is left, with the values as they are
abbrev pub faulted_on : List Day → FaultKind → Slots → SlotEnd
faulted_on [] fault slots = slots_finished slots
faulted_on (date ∷ later) fault slots = slots_faulted date fault

-- a fault drops the payments of its event and ends the run
abbrev pub stopped : FaultKind → State → Outcome
stopped fault s = record { payments = s.kept; end = faulted_on s.dates fault s.slots; nodes = s.nodes }

-- what follows an operation
abbrev pub onward : Stepped → (ℕ → State → Outcome) → Outcome
onward (stops fault s) rest = stopped fault s
onward (goes past s) rest = rest past s

-- what the operations that are left do, of which the first stands at this place and so many are passed over
abbrev pub exec : IsFuzzy → List ℕ → List Op → ℕ → ℕ → State → Outcome
exec fuzzy table [] at past s = record { payments = s.kept ++ s.paid; end = slots_finished s.slots; nodes = s.nodes }
exec fuzzy table (first ∷ rest) at (suc past) s = exec fuzzy table rest (at + 1) past s
exec fuzzy table (first ∷ rest) at zero s = onward (step fuzzy table first at rest s) (λ past after. exec fuzzy table rest (at + 1) past after)

-- before the first operation: these values, dates and cells, and nothing else
abbrev pub starting : Slots → List Day → Row → State
starting slots dates row = record {
  slots = slots;
  numbers = [];
  weights = [];
  kept = [];
  paid = [];
  frames = [];
  saved = [];
  dates = dates;
  row = row;
  nodes = 0;
}

-- a run of code with its table, from these values, over these dates and cells
abbrev pub run_of : IsFuzzy → List ℕ → List Op → Slots → List Day → Row → Outcome
run_of fuzzy table code slots dates row = exec fuzzy table code 0 0 (starting slots dates row)

-- the dates of events
abbrev pub dates_of : List EventTree → List Day
dates_of events = map (λ event. event.date) events
