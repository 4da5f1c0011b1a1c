use Rattle.pay_grammar.proofs.FirstLemmas.{first_too_large_is_found}
use Rattle.pay_grammar.proofs.limit_laws.first_too_large_is_found.Goals as goal

pub returns : goal.returns
returns c = first_too_large_is_found
