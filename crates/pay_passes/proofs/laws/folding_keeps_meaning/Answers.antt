use Rattle.std.proofs.Common.{refl}
use Rattle.pay_visit.specs.Rewriting.{rewritten_number, rewritten_test, rewritten_steps}
use Rattle.pay_visit.proofs.KeepingLemmas.{number_kept, test_kept, steps_kept, steps_finished}
use Rattle.pay_passes.specs.Folding.{folding}
use Rattle.pay_passes.specs.FoldingPromise.{folding_promise, finished_are_folded}
use Rattle.pay_passes.proofs.laws.folding_keeps_meaning.Goals as goal

pub returns : goal.returns
returns c = record {
  number = λ a. number_kept folding_promise {new = rewritten_number folding a} {old = a} refl;
  test = λ a. test_kept folding_promise {new = rewritten_test folding a} {old = a} refl;
  same = λ a. steps_kept folding_promise {new = rewritten_steps folding a} {old = a} refl;
  folded = λ a. finished_are_folded _ (steps_finished folding_promise {new = rewritten_steps folding a} a refl);
}
