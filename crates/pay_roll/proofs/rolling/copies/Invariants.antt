use Rattle.std.proofs.Common.{◌≡◌, map, take}
use Rattle.pay_roll.specs.Plans.{planned}
use Rattle.pay_tree.specs.Views.{event}
use Rattle.pay_roll.proofs.rolling.copies.Given as goal

-- the copies so far are those of the events so far
abbrev pub invariant-loop-one : goal.invariant-loop-one
invariant-loop-one l = map event l.copies.items ≡ map planned (take l.one-index l.events)
