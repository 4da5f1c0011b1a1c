-- The list of the code, as the definition has it.
use Rattle.pay_lexer.specs.Tokens.{key_of}
use Rattle.pay_lexer.proofs.keyword.key_of.Goals as goal

pub returns : goal.returns
unfolding key_of
returns c = rw c.as_slice.ensures at c.key_among.ensures
