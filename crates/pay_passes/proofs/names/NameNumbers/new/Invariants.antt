use Rattle.std.proofs.Common.{take}
use Rattle.pay_passes.specs.Numbering.{AreNumbered}
use Rattle.pay_passes.proofs.names.NameNumbers.new.Given as goal

-- the map has the numbers of the names so far
abbrev pub invariant-loop-number : goal.invariant-loop-number
invariant-loop-number l = AreNumbered (take l.number l.names) l.numbers
