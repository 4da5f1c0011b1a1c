use Rattle.pay_facts.proofs.AfterLemmas.{facts-hold}
use Rattle.pay_facts.proofs.laws.facts_hold_after.Goals as goal

pub returns : goal.returns
returns c = facts-hold
