-- The payments of the code as those of a run.
use Rattle.std.specs.Prelude.{ℕ, List}
use Rattle.pay_runs.specs.Slots.{SlotPayment}
use Rattle.pay_machine.specs.declared.outcome.Payment.{Payment}

-- a payment of the code as a run has it
abbrev pub paid : Payment → SlotPayment
paid payment = record { date = payment.date; leg = payment.leg; amount = payment.amount }

-- the payments of a run while it runs: of the events before and of this one; and for how many there is room
pub record RunPayments : Type 0 where
  pub kept : List Payment
  pub fresh : List Payment
  pub room : ℕ
