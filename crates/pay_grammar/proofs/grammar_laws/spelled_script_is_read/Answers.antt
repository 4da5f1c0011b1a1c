use Rattle.pay_grammar.proofs.ScriptComplete.{spelled_script_is_read}
use Rattle.pay_grammar.proofs.grammar_laws.spelled_script_is_read.Goals as goal

pub returns : goal.returns
returns c = spelled_script_is_read
