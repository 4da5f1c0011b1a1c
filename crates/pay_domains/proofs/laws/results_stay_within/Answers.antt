use Rattle.pay_domains.proofs.SetLaws.{results-within}
use Rattle.pay_domains.proofs.laws.results_stay_within.Goals as goal

pub returns : goal.returns
returns c = results-within
