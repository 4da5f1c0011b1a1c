use Rattle.std.proofs.Common.{◌≡◌}
use Rattle.pay_print.specs.TreeText.{indent_at}
use Rattle.pay_print.proofs.lines.indent_at.Given as goal

abbrev pub invariant-loop : goal.invariant-loop
invariant-loop l = l.indent.items ≡ indent_at l.counter
