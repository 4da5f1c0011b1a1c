use Rattle.std.proofs.Common.{◌≡◌, ◌≤◌, ◌-◌, ◌++◌, length, take, drop}
use Rattle.pay_fixed.specs.Reading.{digits_at, after_digits}
use Rattle.pay_fixed.proofs.read.split_digits.Given as goal

abbrev pub invariant-loop-count : goal.invariant-loop-count
invariant-loop-count l =
    (l.count ≤ length l.text)
    × (digits_at l.text ≡ take l.count l.text ++ digits_at (drop l.count l.text))
    × (after_digits l.text ≡ after_digits (drop l.count l.text))

abbrev pub decreases-loop-count : goal.decreases-loop-count
decreases-loop-count l = length l.text - l.count
