use Rattle.pay_facts.proofs.AfterLemmas.{domains-stay}
use Rattle.pay_facts.proofs.laws.domains_stay.Goals as goal

pub returns : goal.returns
returns c = domains-stay
