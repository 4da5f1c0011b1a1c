use Rattle.pay_facts.proofs.AfterLemmas.{start-holds}
use Rattle.pay_facts.proofs.laws.start_holds.Goals as goal

pub returns : goal.returns
returns c = start-holds
