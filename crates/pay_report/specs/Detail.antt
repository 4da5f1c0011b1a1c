-- The text of the detail report.
use Rattle.std.specs.Prelude.{ℕ, codes, List, [], ◌∷◌, ◌++◌, map, Option}
use Rattle.std.specs.Fmt.{decimal}
use Rattle.std.specs.List.{flat_map}
use Rattle.pay_dates.specs.Days.{day_text}
use Rattle.pay_dates.specs.declared.day.Day.{Day}
use Rattle.pay_fixed.specs.Decimal.{decimal_text}
use Rattle.pay_machine.specs.Outcomes.{Given}
use Rattle.pay_machine.specs.Outcomes as outcome
use Rattle.pay_machine.specs.declared.outcome.End.{End as Ended}
use Rattle.pay_machine.specs.declared.outcome.End.TheVariants.{Done, Fault}
use Rattle.pay_meaning.specs.Language.{Event}
use Rattle.pay_meaning.specs.Meaning.{Past, Payment, End, finished, faulted, Meaning, meaning, no_variables, fixings_of}
use Rattle.pay_meaning.specs.declared.fault.FaultKind.{FaultKind}
use Rattle.pay_meaning.specs.declared.fault.FaultKind.TheVariants.{Overflow, ZeroDivisor, MissingFixing}
use Rattle.pay_tables.specs.Tables.{Row, Table, cells_of}

-- a line of four fields
abbrev pub line : List ℕ → List ℕ → List ℕ → List ℕ → List ℕ
line first second third fourth = first ++ (44 ∷ (second ++ (44 ∷ (third ++ (44 ∷ (fourth ++ 10 ∷ []))))))

-- the first line of a report, and its last one, with how many nodes were evaluated
abbrev pub header_line : List ℕ
header_line = line (codes "scenario") (codes "date") (codes "leg") (codes "amount")

abbrev pub nodes_line : ℕ → List ℕ
nodes_line nodes = line (codes "#nodes") (decimal nodes) [] []

-- a payment: the scenario's label, the date, the leg and the amount
abbrev pub payment_line : List ℕ → Payment → List ℕ
payment_line label payment = line label (day_text payment.date) payment.leg (decimal_text payment.amount)

-- how a report names a fault
abbrev pub fault_name : FaultKind → List ℕ
fault_name Overflow = codes "!overflow"
fault_name ZeroDivisor = codes "!zero divisor"
fault_name MissingFixing = codes "!missing fixing"

-- a fault: the scenario's label, the date of the event that faulted, the fault, and nothing
abbrev pub fault_line : List ℕ → Day → FaultKind → List ℕ
fault_line label date fault = line label (day_text date) (fault_name fault) []

-- the lines of payments
abbrev pub payment_lines : List ℕ → List Payment → List ℕ
payment_lines label payments = flat_map (payment_line label) payments

-- nothing where all events ran, else the line of the fault
abbrev pub end_lines : List ℕ → End → List ℕ
end_lines label (finished variables) = []
end_lines label (faulted date fault) = fault_line label date fault

-- the lines of a scenario: its payments in order, and then its fault if it has one
abbrev pub scenario_lines : List ℕ → Meaning → List ℕ
scenario_lines label m = payment_lines label m.payments ++ end_lines label m.end

-- the same of how an outcome ended
abbrev pub ended_lines : List ℕ → Ended → List ℕ
ended_lines label Done = []
ended_lines label (Fault date fault) = fault_line label date fault

-- the lines of an outcome, whose legs are numbered by their places among these
abbrev pub outcome_lines : List ℕ → List (List ℕ) → Given → List ℕ
outcome_lines label legs given = payment_lines label (map (outcome.payment legs) given.payments) ++ ended_lines label given.end

-- what events mean in a row of a table, from no variables, with these past fixings
abbrev pub row_meaning : List Event → Option Past → Table → Row → Meaning
row_meaning events past table row = meaning events no_variables (fixings_of past (cells_of table row))

-- the lines of what they mean there
abbrev pub row_lines : List Event → Option Past → Table → Row → List ℕ
row_lines events past table row = scenario_lines row.label (row_meaning events past table row)

-- the report, where so many nodes were evaluated: its header, the lines of each scenario in the order of the table, and the last line
abbrev pub report_text : List Event → Option Past → Table → ℕ → List ℕ
report_text events past table nodes = header_line ++ (flat_map (row_lines events past table) table.rows ++ nodes_line nodes)
