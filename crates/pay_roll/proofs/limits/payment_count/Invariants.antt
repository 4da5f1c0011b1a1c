use Rattle.std.proofs.Common.{◌≡◌, ◌≤◌, ◌+◌, drop, map}
use Rattle.pay_meaning.specs.Parts.{event_parts, payment_count}
use Rattle.pay_roll.specs.Plans.{planned}
use Rattle.pay_roll.proofs.limits.payment_count.Given as goal

-- the payments so far and those of what is left are all payments, and those so far keep the limit
abbrev pub invariant-loop-event : goal.invariant-loop-event
invariant-loop-event l = record {
  counted : l.count + payment_count (event_parts (map planned (drop l.event-index l.events))) ≡ payment_count (event_parts (map planned l.events));
  small : l.count ≤ 16_384;
}
