-- The outcome of a run is that of what the trade's events mean under the fixings of the row, and so is its count of their simplified script.
use Rattle.pay_facts.specs.Facts.{no_facts}
use Rattle.pay_passes.specs.Trades.{spelled_trade}
use Rattle.pay_inputs.specs.PastViews.{lent_past}
use Rattle.pay_simplified.specs.Simplified.{simplified}
use Rattle.pay_scenarios.proofs.FixingLimits.{are_fixings}
use Rattle.pay_scenarios.proofs.RunLines.{cells_are_limited, run_nodes, run_outcome}
use Rattle.pay_scenarios.proofs.aligned.AlignedProgram.run.Goals as goal

pub fill_row-requires : goal.fill_row-requires
fill_row-requires c =
    let aligned = c.args.self.now in
    rw (c.as_slice.ensures.value, aligned.aligned)
    (cells_are_limited (lent_past aligned.past) aligned.dates.now c.args.cells.now aligned.program.dates aligned.distinct c.requires.full
    (are_fixings (lent_past aligned.past) aligned.dates.now c.args.cells.now c.requires.good_past c.requires.fixings))

pub returns-clause-outcome : goal.returns-clause-outcome
returns-clause-outcome c =
    let aligned = c.args.self.now in
    run_outcome aligned.trade.now.names.items aligned.trade.now.legs.items (spelled_trade aligned.trade.now) aligned.program (lent_past aligned.past)
    aligned.dates.now c.args.cells.now c.fill_row.new.row aligned.sources.items c.run.new.into aligned.aligned
    (rw c.as_slice.ensures.value at c.in_ok-fill_row.ensures) aligned.distinct c.requires.full
    (are_fixings (lent_past aligned.past) aligned.dates.now c.args.cells.now c.requires.good_past c.requires.fixings) c.requires.means.means
    aligned.own_legs c.run.ensures.ran c.run.ensures.bounded

pub returns-clause-nodes : goal.returns-clause-nodes
returns-clause-nodes c =
    let aligned = c.args.self.now in
    run_nodes (simplified (spelled_trade aligned.trade.now) no_facts) aligned.program (lent_past aligned.past) aligned.dates.now c.args.cells.now
    c.fill_row.new.row aligned.sources.items c.run.new.into aligned.aligned (rw c.as_slice.ensures.value at c.in_ok-fill_row.ensures)
    aligned.distinct c.requires.full c.requires.means.counts c.run.ensures.ran
