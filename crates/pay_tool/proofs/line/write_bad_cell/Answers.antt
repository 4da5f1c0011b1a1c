-- The row and what is wrong in its column are appended in turn.
use Rattle.std.proofs.Common.{append_assoc}
use Rattle.pay_tool.proofs.line.write_bad_cell.Goals as goal

pub returns : goal.returns
returns c = rw (c.in_ok-write_numbered.ensures, append_assoc) at c.write_wrong.ensures
