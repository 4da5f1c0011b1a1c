-- The text of a run: the report of what the events mean, with how many nodes of their simplified script are evaluated.
use Rattle.std.specs.Prelude.{ℕ, ◌+◌, false, List, [], ◌∷◌, Option}
use Rattle.pay_facts.specs.Facts.{no_facts}
use Rattle.pay_meaning.specs.Language.{Event}
use Rattle.pay_meaning.specs.Meaning.{Past, no_variables, fixings_of}
use Rattle.pay_report.specs.Detail.{report_text}
use Rattle.pay_runs.specs.Counting.{node_count}
use Rattle.pay_simplified.specs.Simplified.{simplified}
use Rattle.pay_tables.specs.Tables.{Row, Table, cells_of}

-- how many nodes of simplified events are evaluated in a row of a table, with these past fixings, from no variables
abbrev pub row_nodes : List Event → Option Past → Table → Row → ℕ
row_nodes simple past table row = node_count false simple no_variables (fixings_of past (cells_of table row))

-- a count for each row, all together
abbrev pub sum_over : (Row → ℕ) → List Row → ℕ
sum_over count [] = 0
sum_over count (row ∷ rest) = count row + sum_over count rest

-- how many are evaluated in all rows of a table
abbrev pub nodes_in : List Event → Option Past → Table → ℕ
nodes_in events past table = sum_over (row_nodes (simplified events no_facts) past table) table.rows

-- the text of a run
abbrev pub run_text : List Event → Option Past → Table → List ℕ
run_text events past table = report_text events past table (nodes_in events past table)
