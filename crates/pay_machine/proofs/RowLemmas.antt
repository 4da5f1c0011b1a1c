-- Cells of a row.
use Rattle.std.proofs.Common.{ℤ, List, [], ◌∷◌, ◌++◌, Option}
use Rattle.pay_machine.specs.Rows.{AreCells, IsCell}

-- cells and one more
pub one_more_cell : (cells : List (Option ℤ)) (cell : Option ℤ) → AreCells cells → IsCell cell → AreCells (cells ++ (cell ∷ []))
one_more_cell [] cell all one = (one, tt)
one_more_cell (first ∷ rest) cell all one = (all.0, one_more_cell rest cell all.1 one)
