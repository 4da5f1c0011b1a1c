use Rattle.pay_fixed.proofs.Text.{reads_back}
use Rattle.pay_fixed.proofs.laws.decimal_reads_back.Goals as goal

pub returns : goal.returns
returns c = reads_back
