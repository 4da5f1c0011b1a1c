use Rattle.pay_simplified.proofs.ExampleProofs.{examples_compute}
use Rattle.pay_simplified.proofs.laws.examples_compute.Goals as goal

pub returns : goal.returns
returns c = examples_compute
