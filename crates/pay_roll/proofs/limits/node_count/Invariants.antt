use Rattle.std.proofs.Common.{◌≡◌, ◌≤◌, ◌+◌, drop, length, map}
use Rattle.pay_meaning.specs.Parts.{event_parts}
use Rattle.pay_roll.specs.Plans.{planned}
use Rattle.pay_roll.proofs.limits.node_count.Given as goal

-- the nodes so far and those of what is left are all nodes, and those so far keep the limit
abbrev pub invariant-loop-event : goal.invariant-loop-event
invariant-loop-event l = record {
  counted : l.count + length (event_parts (map planned (drop l.event-index l.events))) ≡ length (event_parts (map planned l.events));
  small : l.count ≤ 262_144;
}
