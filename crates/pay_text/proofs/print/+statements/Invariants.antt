use Rattle.std.proofs.Common.{◌≡◌, ◌++◌, drop}
use Rattle.pay_text.specs.Text.{body_text}
use Rattle.pay_tree.specs.Views.{body}
use Rattle.pay_text.proofs.print.+statements.Given as goal

-- the text so far and the lines of what is left are the whole text
abbrev pub invariant-print_statements-loop-statement : goal.invariant-print_statements-loop-statement
invariant-print_statements-loop-statement l =
    l.initial.text.items ++ body_text l.indent (body l.statements) ≡ l.text.items ++ body_text l.indent (body (drop l.statement-index l.statements))
