use Rattle.std.proofs.Common.{◌≡◌, ◌++◌, drop, map}
use Rattle.pay_meaning.specs.Events.{rolled_event}
use Rattle.pay_roll.specs.Plans.{planned}
use Rattle.pay_tree.specs.Views.{body}
use Rattle.pay_roll.proofs.plan.add_rolls.Given as goal

-- the events so far and those of what is left are all events
abbrev pub invariant-loop-roll : goal.invariant-loop-roll
invariant-loop-roll l =
    map planned l.initial.events.items ++ map (rolled_event (body l.body)) l.rolls
    ≡ map planned l.events.items ++ map (rolled_event (body l.body)) (drop l.roll-index l.rolls)
