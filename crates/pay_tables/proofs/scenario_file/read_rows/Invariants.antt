-- The rows so far, and those of what is left.
use Rattle.std.proofs.Common.{◌≡◌, ◌++◌, ◌≤◌, length, map}
use Rattle.pay_roll.specs.Rolling.{first_of}
use Rattle.pay_tables.specs.Reader.{left}
use Rattle.pay_tables.specs.ScenarioFile.{row_of, rows_refusals}
use Rattle.pay_tables.specs.Views.{row}
use Rattle.pay_tables.proofs.scenario_file.read_rows.Given as goal

-- what is refused of all records is refused of those that are left, and the rows are those so far and theirs
abbrev pub invariant-loop-rows : goal.invariant-loop-rows
invariant-loop-rows l = record {
  refusals : first_of (rows_refusals l.width 1 (left l.initial.records)) ≡ first_of (rows_refusals l.width l.number (left l.records));
  rows : map row_of (left l.initial.records) ≡ map row l.rows.items ++ map row_of (left l.records);
  few : l.number ≤ 100_001;
}

-- one record fewer is left
abbrev pub decreases-loop-rows : goal.decreases-loop-rows
decreases-loop-rows l = length (left l.records)
