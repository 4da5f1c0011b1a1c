use Rattle.pay_grammar.proofs.ScriptSound.{script_is_spelled}
use Rattle.pay_grammar.proofs.grammar_laws.script_is_spelled.Goals as goal

pub returns : goal.returns
returns c = script_is_spelled
