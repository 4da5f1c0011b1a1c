use Rattle.std.proofs.Common.{◌≡◌, ◌++◌, [], drop}
use Rattle.std.specs.List.{flat_map}
use Rattle.pay_tree.specs.Owned.{spelled_event}
use Rattle.pay_tree.specs.OwnedViews.{event_tree}
use Rattle.pay_tool.specs.ScriptTexts.{event_line}
use Rattle.pay_tool.proofs.about.write_events.Given as goal

-- the lines so far and those of what is left are all lines
abbrev pub invariant-loop-one : goal.invariant-loop-one
invariant-loop-one l =
    l.initial.text.items ++ flat_map (λ event. event_line (spelled_event [] [] (event_tree event))) l.events
    ≡ l.text.items ++ flat_map (λ event. event_line (spelled_event [] [] (event_tree event))) (drop l.one-index l.events)
