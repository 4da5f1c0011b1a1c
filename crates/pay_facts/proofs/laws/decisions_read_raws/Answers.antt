use Rattle.pay_facts.proofs.ComparisonLemmas.{reads-raws}
use Rattle.pay_facts.proofs.laws.decisions_read_raws.Goals as goal

pub returns : goal.returns
returns c = reads-raws
