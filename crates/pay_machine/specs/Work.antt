-- What a machine works on, as what code works on.
use Rattle.std.specs.Prelude.{◌≡◌, ℕ, ◌+◌, ◌^◌, ◌<◌, ◌≤◌, List, [], ◌++◌, length, map, drop, Result, Ok, Err}
use Rattle.pay_dates.specs.declared.day.Day.{Day}
use Rattle.pay_meaning.specs.declared.fault.FaultKind.{FaultKind}
use Rattle.pay_runs.specs.Slots.{Row, Slots, slots_finished}
use Rattle.pay_code.specs.Bounds.{pays_in, saved_in}
use Rattle.pay_code.specs.Programs.{Compiled}
use Rattle.pay_code.specs.Execution.{State, Outcome, Stepped, goes, stops, stopped}
use Rattle.pay_machine.specs.declared.outcome.End.{End}
use Rattle.pay_machine.specs.Frames.{begun}
use Rattle.pay_machine.specs.Outcomes.{Given}
use Rattle.pay_machine.specs.Paid.{RunPayments, paid}
use Rattle.pay_machine.specs.declared.work.Work.{Work}

-- what code works on over these dates and cells
abbrev pub state : Work → RunPayments → List Day → Row → State
state work payments dates row = record {
  slots = work.slots;
  numbers = work.numbers.entries;
  weights = work.weights.entries;
  kept = map paid payments.kept;
  paid = map paid payments.fresh;
  frames = map begun work.frames.entries;
  saved = work.saved.entries;
  dates = drop work.event dates;
  row = drop work.event row;
  nodes = work.nodes;
}

-- after an operation: past so many of the next ones, or with a fault
abbrev pub stepped : Result ℕ FaultKind → State → Stepped
stepped (Ok past) s = goes past s
stepped (Err fault) s = stops fault s

-- a step of work alone does this, whatever the payments, the dates and the cells are
abbrev pub Does : Work → Work → Result ℕ FaultKind → (State → Stepped) → Type 0
Does before after result does =
    (payments : RunPayments) (dates : List Day) (row : Row) → stepped result (state after payments dates row) ≡ does (state before payments dates row)

-- the same where the event has made so many payments
abbrev pub DoesAfter : ℕ → Work → Work → ℕ → (State → Stepped) → Type 0
DoesAfter made before after past does =
    (payments : RunPayments) (dates : List Day) (row : Row) → length payments.fresh ≡ made
    → goes past (state after payments dates row) ≡ does (state before payments dates row)

-- the rooms and the count of events stay
pub record Stays (before after : Work) : Type 0 where
  pub numbers : after.numbers.room ≡ before.numbers.room
  pub weights : after.weights.room ≡ before.weights.room
  pub frames : after.frames.room ≡ before.frames.room
  pub saved : after.saved.room ≡ before.saved.room
  pub event : after.event ≡ before.event

-- room for an operation that makes so many payments and saves so many values
pub record HasSpace (work : Work) (made : RunPayments) (pays saves : ℕ) : Type 0 where
  pub numbers : length work.numbers.entries < work.numbers.room
  pub weights : length work.weights.entries < work.weights.room
  pub frames : length work.frames.entries < work.frames.room
  pub saved : length work.saved.entries + saves ≤ work.saved.room
  pub payments : length made.kept + length made.fresh + pays ≤ made.room
  pub nodes : work.nodes < 2 ^ 32
  pub event : work.event + 1 < 2 ^ 32

-- the rooms stay, and at most one event is over
pub record Keeps (before after : Work) (paid_before paid_after : RunPayments) : Type 0 where
  pub numbers : after.numbers.room ≡ before.numbers.room
  pub weights : after.weights.room ≡ before.weights.room
  pub frames : after.frames.room ≡ before.frames.room
  pub saved : after.saved.room ≡ before.saved.room
  pub payments : paid_after.room ≡ paid_before.room
  pub event : after.event ≤ before.event + 1

-- room for the runs of a program: in work, and for so many payments
pub record HasRooms (work : Work) (payments : ℕ) (program : Compiled) : Type 0 where
  pub slots : length work.slots ≡ length program.start
  pub numbers : length program.code ≤ work.numbers.room
  pub weights : length program.code ≤ work.weights.room
  pub frames : length program.code ≤ work.frames.room
  pub saved : saved_in program.table 0 program.code ≤ work.saved.room
  pub pays : pays_in program.code ≤ payments

-- the rooms are the same
pub record HasSameRooms (before after : Work) (paid_before paid_after : RunPayments) : Type 0 where
  pub slots : length after.slots ≡ length before.slots
  pub numbers : after.numbers.room ≡ before.numbers.room
  pub weights : after.weights.room ≡ before.weights.room
  pub frames : after.frames.room ≡ before.frames.room
  pub saved : after.saved.room ≡ before.saved.room
  pub payments : paid_after.room ≡ paid_before.room

-- before the first operation of a program: its start values, and nothing else
abbrev pub fresh_work : Slots → Work → Work
fresh_work start work = record {
  slots = start;
  numbers = record { entries = []; room = work.numbers.room };
  weights = record { entries = []; room = work.weights.room };
  frames = record { entries = []; room = work.frames.room };
  saved = record { entries = []; room = work.saved.room };
  event = 0;
  nodes = 0;
}

-- what a run gives that ended so, or with a fault
abbrev pub gave : {A : Type 0} → Result A FaultKind → State → Outcome
gave (Ok done) s = record { payments = s.kept ++ s.paid; end = slots_finished s.slots; nodes = s.nodes }
gave (Err fault) s = stopped fault s

-- what is given after a run that ended so
abbrev pub given : Work → RunPayments → End → Given
given work payments end = record {
  payments = payments.kept ++ payments.fresh;
  end = end;
  values = work.slots;
  nodes = work.nodes;
  room = payments.room;
}
