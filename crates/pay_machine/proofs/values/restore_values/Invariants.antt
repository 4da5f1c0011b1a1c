use Rattle.std.proofs.Common.{◌≡◌, drop}
use Rattle.pay_code.specs.Execution.{restored}
use Rattle.pay_machine.proofs.values.restore_values.Given as goal

-- what is left to restore gives what all of it does
abbrev pub invariant-loop-i : goal.invariant-loop-i
invariant-loop-i l = restored (drop l.i l.changes) (drop l.i l.values) l.slots ≡ restored l.changes l.values l.fn.slots
