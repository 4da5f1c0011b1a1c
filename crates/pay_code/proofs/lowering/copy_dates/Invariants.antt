use Rattle.std.proofs.Common.{◌≡◌, ◌++◌, drop, map}
use Rattle.pay_code.specs.Execution.{dates_of}
use Rattle.pay_tree.specs.OwnedViews.{event_tree}
use Rattle.pay_code.proofs.lowering.copy_dates.Given as goal

-- the dates so far and those of what is left are the dates of all events
abbrev pub invariant-loop-event : goal.invariant-loop-event
invariant-loop-event l =
    dates_of (map event_tree l.events) ≡ l.dates.items ++ dates_of (map event_tree (drop l.event-index l.events))
