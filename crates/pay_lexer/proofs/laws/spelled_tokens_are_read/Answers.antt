use Rattle.pay_lexer.proofs.LawLemmas.{spelled_tokens_are_read}
use Rattle.pay_lexer.proofs.laws.spelled_tokens_are_read.Goals as goal

pub returns : goal.returns
returns c = spelled_tokens_are_read
