use Rattle.pay_explain.proofs.NameLaws.{explained_by_name}
use Rattle.pay_explain.proofs.laws.explained_by_name.Goals as goal

pub returns : goal.returns
returns c = explained_by_name c.pruned_steps_are_simple.ensures
