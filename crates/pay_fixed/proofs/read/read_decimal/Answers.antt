use Rattle.std.proofs.Common.{sym}
use Rattle.pay_fixed.specs.Parts.{reading}
use Rattle.pay_fixed.proofs.Spelled.{read-digits}
use Rattle.pay_fixed.proofs.read.read_decimal.Goals as goal

-- what was read has digits alone
pub rounded-requires : goal.rounded-requires
rounded-requires c = read-digits c.skip_blanks-text.result.now (reading c.in-Some.parts) (sym c.in-Some.ensures)
