-- What flat code does.
use Rattle.std.specs.Prelude.{◌≡◌, List}
use Rattle.pay_tree.specs.Owned.{EventTree}
use Rattle.pay_runs.specs.Weighing.{IsFuzzy}
use Rattle.pay_runs.specs.Slots.{Slots, Row, meaning_by_slots}
use Rattle.pay_runs.specs.SlotCounts.{slot_node_count}
use Rattle.pay_code.specs.Flat.{flat_code, events_table}
use Rattle.pay_code.specs.Execution.{Outcome, run_of, dates_of}
use Rattle.pay_code.specs.Filled.{AreFilled}

-- what events mean, with how many of their parts are evaluated
abbrev pub meant : IsFuzzy → List EventTree → Slots → Row → Outcome
meant fuzzy events slots row = record {
  payments = (meaning_by_slots fuzzy events slots row).payments;
  end = (meaning_by_slots fuzzy events slots row).end;
  nodes = slot_node_count fuzzy events slots row;
}

-- The flat code of events does what the events mean, and evaluates as many parts: where each choice has the variables that its branches assign.
abbrev pub CodeMeans : Type 0
CodeMeans = (fuzzy : IsFuzzy) (events : List EventTree) (slots : Slots) (row : Row) → AreFilled events
    → run_of fuzzy (events_table events) (flat_code events) slots (dates_of events) row ≡ meant fuzzy events slots row
