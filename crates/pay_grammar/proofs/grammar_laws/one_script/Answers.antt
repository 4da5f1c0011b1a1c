use Rattle.pay_grammar.proofs.ScriptComplete.{one_script}
use Rattle.pay_grammar.proofs.grammar_laws.one_script.Goals as goal

pub returns : goal.returns
returns c = one_script
