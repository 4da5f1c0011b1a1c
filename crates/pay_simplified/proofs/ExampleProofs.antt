-- The worked examples.
use Rattle.std.proofs.Common.{refl}
use Rattle.pay_meaning.specs.Language.{Event}
use Rattle.pay_domains.specs.Pieces.{normal}
use Rattle.pay_domains.specs.Operators.{reach, united, met}
use Rattle.pay_simplified.specs.Examples.{ExamplesCompute, Examples}

examples : (event : Event) → ExamplesCompute event
unfolding normal reach united met
examples event = record {
  never_taken = refl;
  kept_for_its_fault = refl;
  not_asked = refl;
  open_choice = refl;
  known_variable = refl;
  true_after = refl;
  true_before = refl;
  false_after = refl;
  false_before = refl;
  settled_before = refl;
  settled_after = refl;
  settled_faultless = refl;
  opposite = refl;
}

pub examples_compute : Examples
examples_compute event = examples event
