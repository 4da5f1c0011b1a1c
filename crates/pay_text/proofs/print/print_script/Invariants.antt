use Rattle.std.proofs.Common.{◌≡◌, ◌++◌, drop, map}
use Rattle.pay_text.specs.Text.{script_text}
use Rattle.pay_tree.specs.Views.{item}
use Rattle.pay_text.proofs.print.print_script.Given as goal

-- the text so far and the lines of what is left are the whole text
abbrev pub invariant-loop-item : goal.invariant-loop-item
invariant-loop-item l =
    script_text (map item l.script.items.items) ≡ l.text.items ++ script_text (map item (drop l.item-index l.script.items.items))
