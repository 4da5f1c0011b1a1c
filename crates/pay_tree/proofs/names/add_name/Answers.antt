use Rattle.pay_tree.proofs.NameLemmas.{one_added, is_new}
use Rattle.pay_tree.proofs.names.add_name.Goals as goal

pub returns-clause-added : goal.returns-clause-added
returns-clause-added c = one_added c.args.names.now.keys c.insert.new.self.keys c.args.name c.in_ok-insert.ensures.updates.0

pub returns-clause-new : goal.returns-clause-new
returns-clause-new c = is_new c.args.names.now.keys c.args.name _ c.in_ok-insert.ensures.added
