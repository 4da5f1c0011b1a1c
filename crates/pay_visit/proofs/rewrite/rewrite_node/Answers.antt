use Rattle.pay_visit.proofs.KeepingLemmas.{number_kept, number_finished}
use Rattle.pay_visit.proofs.rewrite.rewrite_node.Goals as goal

pub returns-clause-kept : goal.returns-clause-kept
returns-clause-kept g c = number_kept (g.met.R.Rewriter.promise c.args.with.now) c.change_node.ensures.changed

pub returns-clause-finished : goal.returns-clause-finished
returns-clause-finished g c = number_finished (g.met.R.Rewriter.promise c.args.with.now) _ c.change_node.ensures.changed
