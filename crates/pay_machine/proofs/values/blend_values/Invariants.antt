use Rattle.std.proofs.Common.{◌≡◌, drop}
use Rattle.pay_code.specs.Execution.{blended_with}
use Rattle.pay_machine.proofs.values.blend_values.Given as goal

-- what is left to blend gives what all of it does
abbrev pub invariant-loop-i : goal.invariant-loop-i
invariant-loop-i l = blended_with l.weight (drop l.i l.changes) (drop l.i l.values) l.slots ≡ blended_with l.weight l.changes l.values l.fn.slots
