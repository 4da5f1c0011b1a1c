use Rattle.pay_visit.proofs.KeepingLemmas.{steps_kept, steps_finished}
use Rattle.pay_visit.proofs.rewrite.rewrite_steps.Goals as goal

pub returns-clause-kept : goal.returns-clause-kept
returns-clause-kept g c = steps_kept (g.met.R.Rewriter.promise c.args.with.now) c.change_steps.ensures.changed

pub returns-clause-finished : goal.returns-clause-finished
returns-clause-finished g c = steps_finished (g.met.R.Rewriter.promise c.args.with.now) _ c.change_steps.ensures.changed
