use Rattle.pay_passes.specs.FoldingPromise.{finished_are_folded}
use Rattle.pay_passes.proofs.fold.fold_constants.Goals as goal

pub returns-clause-finished : goal.returns-clause-finished
returns-clause-finished c = finished_are_folded _ c.rewrite_steps.ensures.finished
