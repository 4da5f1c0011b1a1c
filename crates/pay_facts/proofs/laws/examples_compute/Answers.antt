use Rattle.pay_facts.proofs.ExampleProofs.{examples-compute}
use Rattle.pay_facts.proofs.laws.examples_compute.Goals as goal

pub returns : goal.returns
returns c = examples-compute
