use Rattle.pay_lexer.proofs.LawLemmas.{read_kinds_are_spelled}
use Rattle.pay_lexer.proofs.laws.read_kinds_are_spelled.Goals as goal

pub returns : goal.returns
returns c = read_kinds_are_spelled
