-- What a run of a program gives, and what it needs.
use Rattle.std.specs.Prelude.{◌≡◌, ℕ, ◌*◌, ◌≤◌, ℤ, List, length, map}
use Rattle.pay_tree.specs.Owned.{EventTree}
use Rattle.pay_runs.specs.Slots.{SlotPayment, SlotEnd, slots_finished, slots_faulted, Row}
use Rattle.pay_code.specs.Bounds.{pays_in, legs_in, AreOnLegs}
use Rattle.pay_code.specs.Execution.{Outcome}
use Rattle.pay_code.specs.Programs.{Compiled, StandsFor}
use Rattle.pay_code.specs.CodeLaws.{meant}
use Rattle.pay_machine.specs.Outcomes.{Given}
use Rattle.pay_machine.specs.declared.outcome.Payment.{Payment}
use Rattle.pay_machine.specs.declared.outcome.End.{End}
use Rattle.pay_machine.specs.declared.outcome.End.TheVariants.{Done, Fault}

-- for how much a machine has room: the values of so many variables, so many entries in each of its stacks, and so many saved values
pub record Rooms : Type 0 where
  pub variables : ℕ
  pub entries : ℕ
  pub saved : ℕ

-- a machine has room for the runs of a program
pub record Serves (rooms : Rooms) (program : Compiled) : Type 0 where
  pub variables : rooms.variables ≡ length program.start
  pub entries : length program.code ≤ rooms.entries
  pub saved : 2 * length program.table ≤ rooms.saved

-- an outcome has room for what the runs of a program give: its payments, and a value for each variable
pub record HasRoom (given : Given) (program : Compiled) : Type 0 where
  pub payments : pays_in program.code ≤ given.room
  pub values : length given.values ≡ length program.start

-- a payment of a run as the code has it
abbrev pub made : SlotPayment → Payment
made payment = record { date = payment.date; leg = payment.leg; amount = payment.amount }

-- how a run ended as the code has it
abbrev pub ended : SlotEnd → End
ended (slots_finished slots) = Done
ended (slots_faulted date kind) = Fault date kind

-- the last values of a run that ended so; of one that faulted nothing is said
abbrev pub AreLast : SlotEnd → List ℤ → Type 0
AreLast (slots_finished slots) values = values ≡ slots
AreLast (slots_faulted date kind) values = Unit {0}

-- what a run gives is what the code gave
pub record IsGiven (outcome : Outcome) (given : Given) : Type 0 where
  pub payments : given.payments ≡ map made outcome.payments
  pub end : given.end ≡ ended outcome.end
  pub values : AreLast outcome.end given.values
  pub nodes : given.nodes ≡ outcome.nodes

-- what a run gave is what these events mean by the numbers of their variables, and as many of their parts were evaluated, where the program stands
-- for them
abbrev pub GivesMeaning : Compiled → Row → Given → Type 0
GivesMeaning program row given =
    (events : List EventTree) → StandsFor program events → IsGiven (meant program.fuzzy events program.start row) given

-- what a run gave is bounded: by the program's payments, each on a leg that one of them names, and by 262,144 evaluated parts
pub record IsBounded (program : Compiled) (given : Given) : Type 0 where
  pub payments : length given.payments ≤ pays_in program.code
  pub legs : AreOnLegs (legs_in program.code) (map (λ p. record { date = p.date; leg = p.leg; amount = p.amount }) given.payments)
  pub nodes : given.nodes ≤ 262_144
