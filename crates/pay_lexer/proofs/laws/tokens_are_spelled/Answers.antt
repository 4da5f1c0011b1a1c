use Rattle.pay_lexer.proofs.LawLemmas.{tokens_are_spelled}
use Rattle.pay_lexer.proofs.laws.tokens_are_spelled.Goals as goal

pub returns : goal.returns
returns c = tokens_are_spelled
