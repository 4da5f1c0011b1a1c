use Rattle.pay_lexer.proofs.LawLemmas.{bad_place_is_first}
use Rattle.pay_lexer.proofs.laws.bad_place_is_first.Goals as goal

pub returns : goal.returns
returns c = bad_place_is_first
