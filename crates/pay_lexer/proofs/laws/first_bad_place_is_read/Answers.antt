use Rattle.pay_lexer.proofs.LawLemmas.{first_bad_place_is_read}
use Rattle.pay_lexer.proofs.laws.first_bad_place_is_read.Goals as goal

pub returns : goal.returns
returns c = first_bad_place_is_read
