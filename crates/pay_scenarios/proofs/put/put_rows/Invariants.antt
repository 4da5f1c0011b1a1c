-- What is put is the lines of the rows so far, and the lines of the others remain; so are the nodes counted.
use Rattle.std.proofs.Common.{◌≡◌, ◌+◌, ◌*◌, ◌≤◌, map, drop}
use Rattle.std.specs.List.{flat_map}
use Rattle.pay_tables.specs.Views.{row}
use Rattle.pay_scenarios.specs.Aligned.{AreFor}
use Rattle.pay_scenarios.specs.Puts.{HasPut}
use Rattle.pay_scenarios.specs.RowLines.{lines_of, nodes_of}
use Rattle.pay_scenarios.specs.RunTexts.{sum_over}
use Rattle.pay_scenarios.proofs.put.put_rows.Given as goal

abbrev pub invariant-loop-scenario : goal.invariant-loop-scenario
invariant-loop-scenario g l = record {
  prepared : AreFor l.runs l.aligned.program;
  put : HasPut (g.O.Sink.text l.fn.out) (g.O.Sink.text l.out) (flat_map (lines_of l.aligned) (map row (drop l.scenario-index l.rows)))
      (flat_map (lines_of l.aligned) (map row l.rows));
  counted : l.nodes + sum_over (nodes_of l.aligned) (map row (drop l.scenario-index l.rows)) ≡ sum_over (nodes_of l.aligned) (map row l.rows);
  few_nodes : l.nodes ≤ l.scenario-index * 262_144;
  never_falls : g.O.Sink.faults l.fn.out ≤ g.O.Sink.faults l.out;
}
