-- The lines of one row more.
use Rattle.std.proofs.Common.{◌<◌, ◌≤◌, length, arith}
use Rattle.pay_scenarios.specs.RowLines.{lines_of, nodes_of}
use Rattle.pay_scenarios.proofs.Pieces.{full_at, fixings_at, none_put, row_put, row_part, rows_put, nodes_split, nodes_done}
use Rattle.pay_scenarios.proofs.put.put_rows.Goals as goal

pub loop-scenario-init : goal.loop-scenario-init
loop-scenario-init g c = record { prepared = c.in_ok-runs.ensures; put = none_put _ _; counted = omega arith; few_nodes = omega arith; never_falls = omega arith }

pub put_row-requires : goal.put_row-requires
put_row-requires g c =
    let within : c.loop-scenario.scenario-index < length c.args.rows.now = omega arith in
    record {
      means = c.requires.means;
      good_past = c.requires.good_past;
      prepared = c.loop-scenario.invariant.prepared;
      full = full_at c.args.rows.now _ c.loop-scenario.scenario-index _ c.requires.full within c.scenario-item.is;
      fixings = fixings_at c.args.rows.now c.loop-scenario.scenario-index _ c.requires.fixings within c.scenario-item.is;
    }

pub returns-in_err-more-clause-front : goal.returns-in_err-more-clause-front
returns-in_err-more-clause-front g c =
    let within : c.loop-scenario.scenario-index < length c.args.rows.now = omega arith in
    row_part _ _ _ (lines_of c.args.aligned.now) c.args.rows.now c.loop-scenario.scenario-index _ _ within c.scenario-item.is
    c.loop-scenario.invariant.put c.put_row.ensures.front

pub loop-scenario-preserved : goal.loop-scenario-preserved
loop-scenario-preserved g c =
    let within : c.loop-scenario.scenario-index < length c.args.rows.now = omega arith in
    record {
      prepared = c.in_ok-more.ensures.prepared;
      put = row_put _ _ _ (lines_of c.args.aligned.now) c.args.rows.now c.loop-scenario.scenario-index _ _ within c.scenario-item.is
          c.loop-scenario.invariant.put c.in_ok-more.ensures.ok;
      counted = nodes_split (nodes_of c.args.aligned.now) c.args.rows.now c.loop-scenario.scenario-index _ _ _ within c.scenario-item.is
          c.loop-scenario.invariant.counted c.in_ok-more.ensures.nodes;
      few_nodes = omega (arith, c.loop-scenario.invariant.few_nodes, c.in_ok-more.ensures.few_nodes);
      never_falls = omega arith;
    }

pub returns-clause-ok : goal.returns-clause-ok
returns-clause-ok g c =
    let past : length c.args.rows.now ≤ c.loop-scenario.scenario-index = omega (arith, c.loop-scenario-test.false) in
    rows_put _ _ (lines_of c.args.aligned.now) c.args.rows.now c.loop-scenario.scenario-index _ past c.loop-scenario.invariant.put

pub returns-clause-nodes : goal.returns-clause-nodes
returns-clause-nodes g c =
    let past : length c.args.rows.now ≤ c.loop-scenario.scenario-index = omega (arith, c.loop-scenario-test.false) in
    nodes_done (nodes_of c.args.aligned.now) c.args.rows.now c.loop-scenario.scenario-index _ _ past c.loop-scenario.invariant.counted
