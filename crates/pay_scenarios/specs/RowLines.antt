-- The lines and the evaluated nodes of a scenario, by the events that run in it.
use Rattle.std.specs.Prelude.{ℕ, List, []}
use Rattle.pay_facts.specs.Facts.{no_facts}
use Rattle.pay_passes.specs.Trades.{spelled_trade}
use Rattle.pay_report.specs.Detail.{row_lines}
use Rattle.pay_simplified.specs.Simplified.{simplified}
use Rattle.pay_tables.specs.Tables.{Row}
use Rattle.pay_scenarios.specs.RunTexts.{row_nodes}
use Rattle.pay_inputs.specs.PastViews.{lent_past}
use Rattle.pay_scenarios.specs.declared.aligned.AlignedProgram.{AlignedProgram}

-- the lines of what the events of a program mean in a row of its table
abbrev pub lines_of : AlignedProgram → Row → List ℕ
lines_of aligned row = row_lines (spelled_trade aligned.trade.now) (lent_past aligned.past) (record { dates = aligned.dates.now; rows = [] }) row

-- how many nodes of their simplified script are evaluated there
abbrev pub nodes_of : AlignedProgram → Row → ℕ
nodes_of aligned row =
    row_nodes (simplified (spelled_trade aligned.trade.now) no_facts) (lent_past aligned.past) (record { dates = aligned.dates.now; rows = [] }) row
