use Rattle.pay_lexer.proofs.LawLemmas.{keywords_agree}
use Rattle.pay_lexer.proofs.laws.keywords_agree.Goals as goal

pub returns : goal.returns
returns c = keywords_agree
