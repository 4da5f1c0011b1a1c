-- The worked examples.
use Rattle.std.proofs.Common.{refl}
use Rattle.pay_meaning.specs.Language.{Event}
use Rattle.pay_domains.specs.Pieces.{normal}
use Rattle.pay_domains.specs.Operators.{reach, united}
use Rattle.pay_facts.specs.Examples.{ExamplesCompute, Examples}

examples : (event : Event) → ExamplesCompute event
unfolding normal reach united
examples event = record {
  open_branches = refl;
  asked = refl;
  decided_branch = refl;
  first_spot = refl;
  later_spot = refl;
  product_of_pieces = refl;
  quotient_round_zero = refl;
  lesser_beyond = refl;
  reach_beyond = refl;
}

pub examples-compute : Examples
examples-compute event = examples event
