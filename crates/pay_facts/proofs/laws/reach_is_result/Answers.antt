use Rattle.pay_facts.proofs.ResultLemmas.{reach-is-result}
use Rattle.pay_facts.proofs.laws.reach_is_result.Goals as goal

pub returns : goal.returns
returns c = reach-is-result
