use Rattle.std.proofs.Common.{◌≡◌, ◌++◌, drop, map}
use Rattle.pay_meaning.specs.Parts.{each_once, names_in}
use Rattle.pay_tree.specs.NameLists.{set_of, unseen}
use Rattle.pay_tree.specs.PartViews.{part, role}
use Rattle.pay_tree.proofs.names.names_in.Given as goal

-- the names so far and the unseen ones of what is left are all names
abbrev pub invariant-loop-one : goal.invariant-loop-one
invariant-loop-one l =
    l.names.items ++ unseen (set_of l.seen.keys) (each_once (names_in (role l.asked) (map part (drop l.one-index l.parts))))
    ≡ each_once (names_in (role l.asked) (map part l.parts))
