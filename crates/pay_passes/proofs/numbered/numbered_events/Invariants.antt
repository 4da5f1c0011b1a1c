use Rattle.std.proofs.Common.{◌≡◌, ◌≤◌, length, map, take, drop}
use Rattle.pay_meaning.specs.Parts.{event_parts}
use Rattle.pay_tree.specs.OwnedViews.{event_tree}
use Rattle.pay_tree.specs.Views.{event}
use Rattle.pay_passes.specs.Numbering.{are_written, numbered_event}
use Rattle.pay_passes.proofs.numbered.numbered_events.Given as goal

-- the events so far are those that were given; what is left has no more parts than there may be; and where what is left is written, all is
abbrev pub invariant-loop-one : goal.invariant-loop-one
invariant-loop-one l = record {
  room : length (event_parts (map event (drop l.one-index l.events.items))) ≤ 262_144;
  events : map event_tree l.made.items
      ≡ map (numbered_event l.numbers.variables.names.now l.numbers.legs.names.now) (map event (take l.one-index l.events.items));
  written : are_written (map event l.events.items) ≡ are_written (map event (drop l.one-index l.events.items));
}
