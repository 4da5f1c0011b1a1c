use Rattle.std.proofs.Common.{◌≡◌, ◌++◌, drop, map}
use Rattle.pay_tree.specs.Owned.{name_at}
use Rattle.pay_print.specs.StepText.{further_names_text}
use Rattle.pay_print.proofs.lines.print_further_changes.Given as goal

-- the text so far and the names that are left are the whole text
abbrev pub invariant-loop-slot : goal.invariant-loop-slot
invariant-loop-slot l =
    l.initial.text.items ++ further_names_text (map (name_at l.names) l.changes)
    ≡ l.text.items ++ further_names_text (map (name_at l.names) (drop l.slot-index l.changes))
