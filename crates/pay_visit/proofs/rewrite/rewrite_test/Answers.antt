use Rattle.pay_visit.proofs.KeepingLemmas.{test_kept, test_finished}
use Rattle.pay_visit.proofs.rewrite.rewrite_test.Goals as goal

pub returns-clause-kept : goal.returns-clause-kept
returns-clause-kept g c = test_kept (g.met.R.Rewriter.promise c.args.with.now) c.change_test.ensures.changed

pub returns-clause-finished : goal.returns-clause-finished
returns-clause-finished g c = test_finished (g.met.R.Rewriter.promise c.args.with.now) _ c.change_test.ensures.changed
