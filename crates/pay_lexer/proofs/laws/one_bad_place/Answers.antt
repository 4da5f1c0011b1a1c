use Rattle.pay_lexer.proofs.LawLemmas.{one_bad_place}
use Rattle.pay_lexer.proofs.laws.one_bad_place.Goals as goal

pub returns : goal.returns
returns c = one_bad_place
