use Rattle.pay_passes.proofs.GatheringLemmas.{one_more}
use Rattle.pay_passes.proofs.changes.add_slot.Goals as goal

pub returns-clause-added : goal.returns-clause-added
returns-clause-added c = one_more c.args.slots.now.keys c.insert.new.self.keys c.args.slot c.in_ok-insert.ensures.updates.0
