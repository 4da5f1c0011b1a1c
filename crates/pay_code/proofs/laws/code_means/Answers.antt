use Rattle.pay_code.proofs.CodeLaw.{code_means}
use Rattle.pay_code.proofs.laws.code_means.Goals as goal

pub returns : goal.returns
returns c = code_means
