use Rattle.pay_runs.proofs.CrispLaw.{crisp_is_direct}
use Rattle.pay_runs.proofs.laws.crisp_is_direct.Goals as goal

pub returns : goal.returns
returns c = crisp_is_direct
