use Rattle.std.proofs.Common.{◌≡◌, ◌++◌, drop, map}
use Rattle.pay_meaning.specs.Parts.{script_parts}
use Rattle.pay_tree.specs.Views.{item, script}
use Rattle.pay_tree.specs.PartViews.{part}
use Rattle.pay_tree.proofs.parts.parts_of.Given as goal

-- the parts so far and those of what is left are all parts
abbrev pub invariant-loop-item : goal.invariant-loop-item
invariant-loop-item l = map part l.parts.items ++ script_parts (map item (drop l.item-index l.tree.items.items)) ≡ script_parts (script l.tree)
