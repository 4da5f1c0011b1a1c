-- What is put is what is said of the events so far, and what is said of the others remains.
use Rattle.std.proofs.Common.{◌≤◌, drop}
use Rattle.pay_explain.specs.Explaining.{explain_trees}
use Rattle.pay_explain.specs.Known.{AreKnown}
use Rattle.pay_passes.specs.Trades.{trees_of}
use Rattle.pay_scenarios.specs.Puts.{HasPut}
use Rattle.pay_tool.proofs.explain.put_events.Given as goal

abbrev pub invariant-loop-at : goal.invariant-loop-at
invariant-loop-at g l = record {
  known : AreKnown l.found.names.items l.facts.domains.items;
  put : HasPut (g.O.Sink.text l.fn.out) (g.O.Sink.text l.out) (explain_trees l.found.names.items l.found.legs.items (drop l.at (trees_of l.found)) l.facts.domains.items)
      (explain_trees l.found.names.items l.found.legs.items (trees_of l.found) l.fn.facts.domains.items);
  never_falls : g.O.Sink.faults l.fn.out ≤ g.O.Sink.faults l.out;
}
