use Rattle.std.proofs.Common.{◌≡◌, drop, take}
use Rattle.pay_machine.specs.Rows.{AreCells}
use Rattle.pay_scenarios.specs.Aligned.{cells_from}
use Rattle.pay_scenarios.proofs.aligned.fill_row.Given as goal

-- the cells so far are those of the sources so far, and the others are cells too
abbrev pub invariant-loop-source : goal.invariant-loop-source
invariant-loop-source l = record {
  row : l.row ≡ cells_from (take l.source-index l.sources) l.cells;
  left : AreCells (cells_from (drop l.source-index l.sources) l.cells);
}
