-- Past fixings in order of date give the same text of a run as in any other order.
use mathlib.Core.Path.{fun_ext}
use Rattle.std.proofs.Common.{◌≡◌, ℕ, ◌+◌, ℤ, false, List, [], ◌∷◌, ◌++◌, Option, Some, refl, sym, ap, ◌∙◌, if◌then◌else◌}
use Rattle.std.specs.List.{flat_map}
use Rattle.pay_dates.specs.declared.day.Day.{Day}
use Rattle.pay_dates.specs.Days.{day_number}
use Rattle.pay_meaning.specs.Language.{Event}
use Rattle.pay_facts.specs.Facts.{no_facts}
use Rattle.pay_facts.specs.Holding.{at_fixing}
use Rattle.pay_meaning.specs.Laws.{AgreeOn}
use Rattle.pay_meaning.specs.Meaning.{Cells, Fixings, Moment, Variables, moment_of, effect, no_variables, fixing_at, fixings_in, fixings_of, is_past}
use Rattle.pay_meaning.proofs.FixingLaws.{past-or-row}
use Rattle.pay_meaning.proofs.MeaningLaws.{meaning-own}
use Rattle.pay_report.specs.Detail.{header_line, nodes_line, scenario_lines, report_text}
use Rattle.pay_runs.specs.Counting.{body_nodes, node_count, nodes_from}
use Rattle.pay_runs.specs.Weighing.{weighed}
use Rattle.pay_simplified.specs.Simplified.{simplified}
use Rattle.pay_tables.specs.FixingsFile.{IsInOrder}
use Rattle.pay_tables.specs.Tables.{Row, Table, cells_of}
use Rattle.pay_tables.proofs.OrderLaws.{order-same}
use Rattle.pay_scenarios.specs.RunTexts.{nodes_in, row_nodes, run_text, sum_over}

-- a run has the same fixing at each date
fixing_same : (asof : Day) (cells ordered row : Cells) (date : Day) → IsInOrder cells ordered
    → fixing_at (fixings_of (Some (record { asof = asof; cells = ordered })) row) date
    ≡ fixing_at (fixings_of (Some (record { asof = asof; cells = cells })) row) date
fixing_same asof cells ordered row date in_order =
    past-or-row (record { asof = asof; cells = ordered }) row date
    ∙ ap (λ (past : Option ℤ). if is_past asof date then past else fixing_at (fixings_in row) date) (order-same cells ordered (day_number date) in_order)
    ∙ sym (past-or-row (record { asof = asof; cells = cells }) row date)

-- fixings that are the same at each date are the same at the dates of events
agree_on : (events : List Event) (a b : Fixings) → ((date : Day) → fixing_at a date ≡ fixing_at b date) → AgreeOn events a b
agree_on [] a b same = tt
agree_on (event ∷ rest) a b same = (same event.date, agree_on rest a b same)

-- a run evaluates as many nodes where the fixings are the same at each date
count_same : (events : List Event) (variables : Variables) (a b : Fixings) → ((date : Day) → fixing_at a date ≡ fixing_at b date)
    → node_count false events variables a ≡ node_count false events variables b
count_same [] variables a b same = refl
count_same (event ∷ rest) variables a b same =
    ap (λ (moment : Moment). body_nodes false event.body variables moment
    + nodes_from (weighed false event.body variables moment) (λ after. node_count false rest after a))
    (ap (at_fixing event) (same event.date))
    ∙ ap (λ (later : Variables → ℕ). body_nodes false event.body variables (moment_of event b)
    + nodes_from (weighed false event.body variables (moment_of event b)) later) (fun_ext (λ after. count_same rest after a b same))

-- so as many are evaluated in all rows
nodes_same : (events : List Event) (asof : Day) (cells ordered : Cells) (table : Table) → IsInOrder cells ordered
    → nodes_in events (Some (record { asof = asof; cells = ordered })) table ≡ nodes_in events (Some (record { asof = asof; cells = cells })) table
nodes_same events asof cells ordered table in_order =
    ap (λ (count : Row → ℕ). sum_over count table.rows)
    (fun_ext (λ row. count_same (simplified events no_facts) no_variables _ _
    (λ date. fixing_same asof cells ordered (cells_of table row) date in_order)))

-- the text of a run is the same
pub run_same : (events : List Event) (asof : Day) (cells ordered : Cells) (table : Table) → IsInOrder cells ordered
    → run_text events (Some (record { asof = asof; cells = ordered })) table ≡ run_text events (Some (record { asof = asof; cells = cells })) table
run_same events asof cells ordered table in_order =
    ap (report_text events (Some (record { asof = asof; cells = ordered })) table) (nodes_same events asof cells ordered table in_order)
    ∙ ap (λ (lines : Row → List ℕ). header_line ++ (flat_map lines table.rows ++ nodes_line (nodes_in events (Some (record { asof = asof; cells = cells })) table)))
    (fun_ext (λ row. ap (scenario_lines row.label)
    (meaning-own effect events no_variables _ _ (agree_on events _ _ (λ date. fixing_same asof cells ordered (cells_of table row) date in_order)))))
