use Rattle.pay_lexer.proofs.LawLemmas.{kinds_are_of_tokens}
use Rattle.pay_lexer.proofs.laws.kinds_are_of_tokens.Goals as goal

pub returns : goal.returns
returns c = kinds_are_of_tokens
