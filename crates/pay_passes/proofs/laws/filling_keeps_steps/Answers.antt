use Rattle.pay_passes.proofs.ChangesLemmas.{filled_spell, fill_once}
use Rattle.pay_passes.proofs.laws.filling_keeps_steps.Goals as goal

pub returns : goal.returns
returns c = record { same = filled_spell; once = fill_once }
