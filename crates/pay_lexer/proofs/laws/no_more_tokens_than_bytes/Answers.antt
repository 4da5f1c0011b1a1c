use Rattle.pay_lexer.proofs.LawLemmas.{no_more_tokens_than_bytes}
use Rattle.pay_lexer.proofs.laws.no_more_tokens_than_bytes.Goals as goal

pub returns : goal.returns
returns c = no_more_tokens_than_bytes
