use Rattle.std.proofs.Common.{◌≡◌, ◌≤◌, min, drop}
use Rattle.pay_fixed.specs.Grammar.{number_on}
use Rattle.pay_fixed.specs.Parts.{beyond}
use Rattle.pay_fixed.proofs.read.with_digits.Given as goal

abbrev pub invariant-loop-digit : goal.invariant-loop-digit
invariant-loop-digit l =
    (l.value ≤ beyond)
    × (min (number_on l.value (drop l.digit-index l.digits)) beyond ≡ min (number_on l.fn.start l.digits) beyond)
