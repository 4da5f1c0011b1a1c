use Rattle.std.proofs.Common.{◌≡◌, ◌++◌, length, drop, map}
use Rattle.pay_code.specs.Flat.{events_code, events_table}
use Rattle.pay_tree.specs.OwnedViews.{event_tree}
use Rattle.pay_code.proofs.lowering.lower_events.Given as goal

-- the code so far and that of what is left are the code of all events, and so are their tables
abbrev pub invariant-loop-event : goal.invariant-loop-event
invariant-loop-event l = record {
  code : l.initial.ops.items ++ events_code (length l.initial.ops.items) (length l.initial.changed.items) (map event_tree l.events)
      ≡ l.ops.items ++ events_code (length l.ops.items) (length l.changed.items) (map event_tree (drop l.event-index l.events));
  table : l.initial.changed.items ++ events_table (map event_tree l.events)
      ≡ l.changed.items ++ events_table (map event_tree (drop l.event-index l.events));
}
