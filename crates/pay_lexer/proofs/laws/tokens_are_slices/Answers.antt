use Rattle.pay_lexer.proofs.LawLemmas.{tokens_are_slices}
use Rattle.pay_lexer.proofs.laws.tokens_are_slices.Goals as goal

pub returns : goal.returns
returns c = tokens_are_slices
