use Rattle.pay_lexer.proofs.LawLemmas.{one_token_list}
use Rattle.pay_lexer.proofs.laws.one_token_list.Goals as goal

pub returns : goal.returns
returns c = one_token_list
