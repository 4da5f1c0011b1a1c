use Rattle.pay_facts.proofs.AfterLemmas.{hold-in-runs}
use Rattle.pay_facts.proofs.laws.facts_hold_in_every_run.Goals as goal

pub returns : goal.returns
returns c = hold-in-runs
