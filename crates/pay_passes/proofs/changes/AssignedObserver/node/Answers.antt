use Rattle.std.proofs.Common.{refl}
use Rattle.pay_tree.specs.OwnedViews.{number_tree}
use Rattle.pay_visit.specs.Showing.{a_number_at}
use Rattle.pay_passes.proofs.GatheringLemmas.{shown_nothing}
use Rattle.pay_passes.proofs.changes.AssignedObserver.node.Goals as goal

pub returns-clause-ok : goal.returns-clause-ok
returns-clause-ok c before same = shown_nothing c.args.self.now.slots.keys before (a_number_at (number_tree c.args._node.now)) refl same
