use Rattle.std.proofs.Common.{◌≡◌, ◌≤◌, ◌*◌, ◌^◌, min}
use Rattle.pay_fixed.specs.Parts.{beyond}
use Rattle.pay_fixed.proofs.read.with_zeros.Given as goal

abbrev pub invariant-loop : goal.invariant-loop
invariant-loop l =
    (l.value ≤ beyond)
    × (l.value ≡ min (l.fn.start * 10 ^ l.counter) beyond)
