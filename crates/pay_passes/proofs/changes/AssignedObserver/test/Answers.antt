use Rattle.std.proofs.Common.{refl}
use Rattle.pay_tree.specs.OwnedViews.{test_tree}
use Rattle.pay_visit.specs.Showing.{a_test_at}
use Rattle.pay_passes.proofs.GatheringLemmas.{shown_nothing}
use Rattle.pay_passes.proofs.changes.AssignedObserver.test.Goals as goal

pub returns-clause-ok : goal.returns-clause-ok
returns-clause-ok c before same = shown_nothing c.args.self.now.slots.keys before (a_test_at (test_tree c.args._test.now)) refl same
