use Rattle.std.proofs.Common.{◌≡◌, ◌++◌, length, drop}
use Rattle.pay_explain.specs.Explaining.{domain_lines}
use Rattle.pay_explain.proofs.text.write_domain_lines.Given as goal

-- what is written so far and the lines of what is left are all the lines
abbrev pub invariant-loop-name : goal.invariant-loop-name
invariant-loop-name l =
    l.initial.text.items ++ domain_lines l.names l.domains
    ≡ l.text.items ++ domain_lines (drop (length l.yielded) l.names) (drop (length l.yielded) l.domains)
