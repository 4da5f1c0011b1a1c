use Rattle.std.proofs.Common.{◌≡◌, take, drop, map}
use Rattle.pay_runs.specs.Slots.{scaled_slot_payment}
use Rattle.pay_machine.specs.Paid.{paid}
use Rattle.pay_machine.proofs.payments.scale_all.Given as goal

-- the payments so far are scaled, and the others are as they were
abbrev pub invariant-loop-payment : goal.invariant-loop-payment
invariant-loop-payment l =
    (map paid (take l.payment-index l.payments) ≡ map (scaled_slot_payment l.weight) (map paid (take l.payment-index l.fn.payments)))
    × (drop l.payment-index l.payments ≡ drop l.payment-index l.fn.payments)
