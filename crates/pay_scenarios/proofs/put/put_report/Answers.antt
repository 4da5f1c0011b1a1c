-- The three parts of a report, put one after the other.
use Rattle.std.proofs.Common.{◌≡◌, List, [], map, Option, ap, ◌∙◌}
use Rattle.std.specs.List.{flat_map}
use Rattle.pay_dates.specs.declared.day.Day.{Day}
use Rattle.pay_meaning.specs.Meaning.{Past}
use Rattle.pay_report.specs.Detail.{header_line, nodes_line, row_lines}
use Rattle.pay_tables.specs.declared.scenarios.ScenarioRow.{ScenarioRow}
use Rattle.pay_tables.specs.declared.scenarios.Scenarios.{Scenarios}
use Rattle.pay_tables.specs.Views.{row, table}
use Rattle.pay_scenarios.specs.declared.aligned.AlignedProgram.{AlignedProgram}
use Rattle.pay_passes.specs.declared.trade.Trade.{Trade}
use Rattle.pay_inputs.specs.PastViews.{lent_past}
use Rattle.pay_facts.specs.Facts.{no_facts}
use Rattle.pay_simplified.specs.Simplified.{simplified}
use Rattle.pay_scenarios.specs.RowLines.{lines_of, nodes_of}
use Rattle.pay_scenarios.specs.RunTexts.{nodes_in, row_nodes, sum_over}
use Rattle.pay_inputs.specs.TradeViews.{trade}
use Rattle.pay_scenarios.proofs.Pieces.{front_first, front_after, put_thrice}
use Rattle.pay_scenarios.proofs.put.put_report.Goals as goal

-- the lines of scenarios by an aligned program are those of the report
report_lines : (aligned : AlignedProgram) (found : Trade) (past : Option Past) (scenarios : Scenarios) (rows : List ScenarioRow)
    → aligned.trade.now ≡ found → lent_past aligned.past ≡ past → aligned.dates.now ≡ scenarios.dates.items → rows ≡ scenarios.rows.items
    → flat_map (lines_of aligned) (map row rows) ≡ flat_map (row_lines (trade found).events past (table scenarios)) (table scenarios).rows
report_lines aligned found past scenarios rows of_trade of_past of_dates of_rows =
    ap (λ (t : Trade). flat_map (row_lines (trade t).events (lent_past aligned.past) (record { dates = aligned.dates.now; rows = [] })) (map row rows)) of_trade
    ∙ ap (λ (p : Option Past). flat_map (row_lines (trade found).events p (record { dates = aligned.dates.now; rows = [] })) (map row rows)) of_past
    ∙ ap (λ (dates : List Day). flat_map (row_lines (trade found).events past (record { dates = dates; rows = [] })) (map row rows)) of_dates
    ∙ ap (λ (xs : List ScenarioRow). flat_map (row_lines (trade found).events past (table scenarios)) (map row xs)) of_rows

-- the nodes of scenarios by an aligned program are those of the text of a run
report_nodes : (aligned : AlignedProgram) (found : Trade) (past : Option Past) (scenarios : Scenarios) (rows : List ScenarioRow)
    → aligned.trade.now ≡ found → lent_past aligned.past ≡ past → aligned.dates.now ≡ scenarios.dates.items → rows ≡ scenarios.rows.items
    → sum_over (nodes_of aligned) (map row rows) ≡ nodes_in (trade found).events past (table scenarios)
report_nodes aligned found past scenarios rows of_trade of_past of_dates of_rows =
    ap (λ (t : Trade). sum_over (row_nodes (simplified (trade t).events no_facts) (lent_past aligned.past)
    (record { dates = aligned.dates.now; rows = [] })) (map row rows)) of_trade
    ∙ ap (λ (p : Option Past). sum_over (row_nodes (simplified (trade found).events no_facts) p
    (record { dates = aligned.dates.now; rows = [] })) (map row rows)) of_past
    ∙ ap (λ (dates : List Day). sum_over (row_nodes (simplified (trade found).events no_facts) past
    (record { dates = dates; rows = [] })) (map row rows)) of_dates
    ∙ ap (λ (xs : List ScenarioRow). sum_over (row_nodes (simplified (trade found).events no_facts) past (table scenarios)) (map row xs)) of_rows

pub returns-in_err-put_header-clause-front : goal.returns-in_err-put_header-clause-front
returns-in_err-put_header-clause-front g c = front_first header_line _ c.put_header.ensures.front

pub returns-in_err-nodes-clause-front : goal.returns-in_err-nodes-clause-front
returns-in_err-nodes-clause-front g c =
    let lines = report_lines c.in_ok-aligned.aligned c.args.found.now (lent_past c.args.past) c.args.scenarios.now c.as_slice-2.result.now
    c.in_ok-aligned.ensures.trade c.in_ok-aligned.ensures.past (c.in_ok-aligned.ensures.dates ∙ c.as_slice.ensures.value) c.as_slice-2.ensures.value in
    front_after _ header_line _ c.in_ok-put_header.ensures.ok
    (front_first _ (nodes_line (nodes_in (trade c.args.found.now).events (lent_past c.args.past) (table c.args.scenarios.now)))
    (rw lines at c.put_rows.ensures.front))

pub returns-clause-ok : goal.returns-clause-ok
returns-clause-ok g c =
    let lines = report_lines c.in_ok-aligned.aligned c.args.found.now (lent_past c.args.past) c.args.scenarios.now c.as_slice-2.result.now
    c.in_ok-aligned.ensures.trade c.in_ok-aligned.ensures.past (c.in_ok-aligned.ensures.dates ∙ c.as_slice.ensures.value) c.as_slice-2.ensures.value in
    let count = c.in_ok-nodes.ensures.nodes
    ∙ report_nodes c.in_ok-aligned.aligned c.args.found.now (lent_past c.args.past) c.args.scenarios.now c.as_slice-2.result.now
    c.in_ok-aligned.ensures.trade c.in_ok-aligned.ensures.past (c.in_ok-aligned.ensures.dates ∙ c.as_slice.ensures.value) c.as_slice-2.ensures.value in
    put_thrice c.put_last_line.result _ _ _ _ header_line _ (nodes_line (nodes_in (trade c.args.found.now).events (lent_past c.args.past)
    (table c.args.scenarios.now))) c.in_ok-put_header.ensures.ok (rw lines at c.in_ok-nodes.ensures.ok) (rw count at c.put_last_line.ensures.ok)

pub returns-clause-front : goal.returns-clause-front
returns-clause-front g c =
    let lines = report_lines c.in_ok-aligned.aligned c.args.found.now (lent_past c.args.past) c.args.scenarios.now c.as_slice-2.result.now
    c.in_ok-aligned.ensures.trade c.in_ok-aligned.ensures.past (c.in_ok-aligned.ensures.dates ∙ c.as_slice.ensures.value) c.as_slice-2.ensures.value in
    let count = c.in_ok-nodes.ensures.nodes
    ∙ report_nodes c.in_ok-aligned.aligned c.args.found.now (lent_past c.args.past) c.args.scenarios.now c.as_slice-2.result.now
    c.in_ok-aligned.ensures.trade c.in_ok-aligned.ensures.past (c.in_ok-aligned.ensures.dates ∙ c.as_slice.ensures.value) c.as_slice-2.ensures.value in
    front_after _ header_line _ c.in_ok-put_header.ensures.ok
    (front_after _ _ (nodes_line (nodes_in (trade c.args.found.now).events (lent_past c.args.past) (table c.args.scenarios.now)))
    (rw lines at c.in_ok-nodes.ensures.ok) (rw count at c.put_last_line.ensures.front))
