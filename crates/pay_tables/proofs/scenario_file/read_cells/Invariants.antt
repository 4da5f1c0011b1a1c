-- The cells so far, and those of what is left.
use Rattle.std.proofs.Common.{◌≡◌, ◌+◌, ◌++◌, drop, map}
use Rattle.pay_roll.specs.Rolling.{first_of}
use Rattle.pay_tables.specs.Reader.{current}
use Rattle.pay_tables.specs.ScenarioFile.{cell_of, cell_refusals}
use Rattle.pay_tables.proofs.scenario_file.read_cells.Given as goal

-- what is refused of all fields is refused of those that are left, and the cells are those so far and theirs
abbrev pub invariant-loop-at : goal.invariant-loop-at
invariant-loop-at l = record {
  refusals : first_of (cell_refusals l.number 2 (drop 1 (current l.records)))
      ≡ first_of (cell_refusals l.number (l.at + 1) (drop l.at (current l.records)));
  cells : map cell_of (drop 1 (current l.records)) ≡ l.cells.items ++ map cell_of (drop l.at (current l.records));
}
