use Rattle.pay_simplified.proofs.TermLemmas.{terms_keep_simplified}
use Rattle.pay_simplified.proofs.laws.terms_keep_simplified.Goals as goal

pub returns : goal.returns
returns c = terms_keep_simplified
