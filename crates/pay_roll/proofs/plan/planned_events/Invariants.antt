use Rattle.std.proofs.Common.{◌≡◌, ◌≤◌, ◌+◌, ◌++◌, None, drop, length, map}
use Rattle.pay_meaning.specs.Events.{all_events}
use Rattle.pay_roll.specs.Plans.{planned}
use Rattle.pay_roll.specs.Rolling.{first_bad}
use Rattle.pay_tree.specs.Views.{item}
use Rattle.pay_roll.proofs.plan.planned_events.Given as goal

-- the events so far and those of what is left are all events, and none of what is left is bad
abbrev pub invariant-loop-item : goal.invariant-loop-item
invariant-loop-item l = record {
  good : first_bad (l.item-index + 1) (map item (drop l.item-index l.items)) ≡ None;
  rest : all_events (map item l.items) ≡ map planned l.events.items ++ all_events (map item (drop l.item-index l.items));
  few : length l.events.items ≤ 4096;
}
