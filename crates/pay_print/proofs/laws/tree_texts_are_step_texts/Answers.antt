use Rattle.pay_print.proofs.TextLaws.{tree-texts-are-step-texts}
use Rattle.pay_print.proofs.laws.tree_texts_are_step_texts.Goals as goal

pub returns : goal.returns
returns c = tree-texts-are-step-texts
