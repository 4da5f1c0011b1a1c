use Rattle.pay_passes.proofs.TermLaws.{terms-keep}
use Rattle.pay_passes.proofs.laws.terms_keep_meaning.Goals as goal

pub returns : goal.returns
returns c = terms-keep
