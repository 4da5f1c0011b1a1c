use Rattle.pay_simplified.proofs.FormLemmas.{forms_show_decisions}
use Rattle.pay_simplified.proofs.laws.forms_show_decisions.Goals as goal

pub returns : goal.returns
returns c = forms_show_decisions
