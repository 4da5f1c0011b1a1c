use Rattle.pay_compile.proofs.Lowerable.{prepared_simplified}
use Rattle.pay_compile.proofs.laws.prepared_is_simplified.Goals as goal

pub returns : goal.returns
returns c = prepared_simplified c.pruned_is_simplified.ensures
