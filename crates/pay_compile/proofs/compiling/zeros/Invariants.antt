use Rattle.std.proofs.Common.{◌≡◌, take}
use Rattle.pay_compile.specs.Prepared.{no_values}
use Rattle.pay_compile.proofs.compiling.zeros.Given as goal

-- the values so far are those of the names so far
abbrev pub invariant-loop-name : goal.invariant-loop-name
invariant-loop-name l = l.values.items ≡ no_values (take l._name-index l.names.items)
