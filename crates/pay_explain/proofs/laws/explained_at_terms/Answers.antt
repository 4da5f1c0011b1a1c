use Rattle.pay_explain.proofs.TermLaws.{explained_at_terms}
use Rattle.pay_explain.proofs.laws.explained_at_terms.Goals as goal

pub returns : goal.returns
returns c = explained_at_terms
