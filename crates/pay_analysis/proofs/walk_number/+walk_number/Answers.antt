use Rattle.std.proofs.Common.{ap, ◌∙◌}
use Rattle.std.proofs.lemmas.Result.{on_ok_weaker}
use Rattle.pay_facts.specs.Ranges.{range_of_one, range_of_both}
use Rattle.pay_facts.specs.SlotFacts.{signed_domain}
use Rattle.pay_tree.specs.Views.{operator}
use Rattle.pay_tree.proofs.OwnedLemmas.{number-unary, number-binary}
use Rattle.pay_analysis.proofs.MarkLemmas.{unary_marked, binary_marked}
use Rattle.pay_analysis.proofs.walk_number.+walk_number.Goals as goal

pub returns-in_ok-range_of_one-in-Unary-clause-marks : goal.returns-in_ok-range_of_one-in-Unary-clause-marks
returns-in_ok-range_of_one-in-Unary-clause-marks t c =
    let side = rw c.deref.ensures at c.in_ok-side-in-Unary.ensures in
    on_ok_weaker c.noted-in-Unary.result
    (λ last. unary_marked _ _ _ _ _ _ _ _ _ _ (number-unary c.args.node.now _ _ c.in-Unary.is)
    (c.in_ok-range_of_one-in-Unary.ensures.same ∙ ap (range_of_one (signed_domain c.in-Unary.op)) side.same) side.marks last)
    c.noted-in-Unary.ensures.marks

pub returns-in_ok-range_of_both-in-Binary-clause-marks : goal.returns-in_ok-range_of_both-in-Binary-clause-marks
returns-in_ok-range_of_both-in-Binary-clause-marks t c =
    let left = rw c.deref-in-Binary.ensures at c.in_ok-left-in-Binary.ensures in
    let right = rw c.deref-in-Binary-2.ensures at c.in_ok-right-in-Binary.ensures in
    on_ok_weaker c.noted-in-Binary.result
    (λ last. binary_marked _ _ _ _ _ _ _ _ _ _ _ _ _ (number-binary c.args.node.now _ _ _ c.in-Binary.is) (ap (λ r. r.known) left.same)
    (c.in_ok-range_of_both-in-Binary.ensures.same ∙ (λ i. range_of_both (operator c.in-Binary.op) (left.same i) (right.same i))) left.marks right.marks last)
    c.noted-in-Binary.ensures.marks
