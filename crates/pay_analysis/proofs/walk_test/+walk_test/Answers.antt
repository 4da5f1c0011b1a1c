use Rattle.std.proofs.Common.{[], refl, sym, ◌∙◌}
use Rattle.std.proofs.lemmas.Result.{on_ok_weaker}
use Rattle.pay_tree.proofs.OwnedLemmas.{test-compare, test-not, test-and, test-or}
use Rattle.pay_analysis.proofs.TestMarks.{sides_marked, compare_parts, not_parts, and_skipped, and_entered, or_skipped, or_entered}
use Rattle.pay_analysis.proofs.walk_test.+walk_test.Goals as goal

pub returns-in_ok-compare-in-Compare-clause-marks : goal.returns-in_ok-compare-in-Compare-clause-marks
returns-in_ok-compare-in-Compare-clause-marks t c =
    let left = rw c.deref.ensures at c.in_ok-left-in-Compare.ensures in
    let right = rw c.deref-in-Compare.ensures at c.in_ok-right-in-Compare.ensures in
    let whole = compare_parts _ _ _ _ _ _ _ _ _ _ _ _ (test-compare c.args.test.now _ _ _ _ c.in-Compare.is) left.same right.same
    c.in_ok-compare-in-Compare.ensures in
    on_ok_weaker c.noted-in-Compare.result (λ last. sides_marked _ _ _ _ _ _ _ _ _ whole left.marks right.marks last) c.noted-in-Compare.ensures.marks

pub returns-in_ok-side-in-Not-clause-marks : goal.returns-in_ok-side-in-Not-clause-marks
returns-in_ok-side-in-Not-clause-marks t c =
    let side = rw c.deref-in-Not.ensures at c.in_ok-side-in-Not.ensures in
    let whole = not_parts _ _ _ _ _ _ _ _ (test-not c.args.test.now _ c.in-Not.is) side.same c.turned.ensures in
    on_ok_weaker c.noted-in-Not.result (λ last. sides_marked _ _ _ _ _ _ _ [] _ whole side.marks refl last) c.noted-in-Not.ensures.marks

pub returns-then-is_false-clause-marks : goal.returns-then-is_false-clause-marks
returns-then-is_false-clause-marks t c =
    let left = rw c.deref-in-And.ensures at c.in_ok-left-in-And.ensures in
    let whole = and_skipped _ _ _ _ _ _ _ _ (test-and c.args.test.now _ _ c.in-And.is) left.same (sym c.is_false.ensures ∙ c.if-is_false.true) in
    on_ok_weaker c.noted-then-is_false.result (λ last. sides_marked _ _ _ _ _ _ _ [] _ whole left.marks refl last) c.noted-then-is_false.ensures.marks

pub returns-in_ok-right-in-And-clause-marks : goal.returns-in_ok-right-in-And-clause-marks
returns-in_ok-right-in-And-clause-marks t c =
    let left = rw c.deref-in-And.ensures at c.in_ok-left-in-And.ensures in
    let right = rw c.deref-in-And-2.ensures at c.in_ok-right-in-And.ensures in
    let whole = and_entered _ _ _ _ _ _ _ _ _ _ (test-and c.args.test.now _ _ c.in-And.is) left.same (sym c.is_false.ensures ∙ c.if-is_false.false)
    right.same c.both.ensures in
    on_ok_weaker c.noted-in-And.result (λ last. sides_marked _ _ _ _ _ _ _ _ _ whole left.marks right.marks last) c.noted-in-And.ensures.marks

pub returns-then-is_true-clause-marks : goal.returns-then-is_true-clause-marks
returns-then-is_true-clause-marks t c =
    let left = rw c.deref-in-Or.ensures at c.in_ok-left-in-Or.ensures in
    let whole = or_skipped _ _ _ _ _ _ _ _ (test-or c.args.test.now _ _ c.in-Or.is) left.same (sym c.is_true.ensures ∙ c.if-is_true.true) in
    on_ok_weaker c.noted-then-is_true.result (λ last. sides_marked _ _ _ _ _ _ _ [] _ whole left.marks refl last) c.noted-then-is_true.ensures.marks

pub returns-in_ok-right-in-Or-clause-marks : goal.returns-in_ok-right-in-Or-clause-marks
returns-in_ok-right-in-Or-clause-marks t c =
    let left = rw c.deref-in-Or.ensures at c.in_ok-left-in-Or.ensures in
    let right = rw c.deref-in-Or-2.ensures at c.in_ok-right-in-Or.ensures in
    let whole = or_entered _ _ _ _ _ _ _ _ _ _ (test-or c.args.test.now _ _ c.in-Or.is) left.same (sym c.is_true.ensures ∙ c.if-is_true.false)
    right.same c.either.ensures in
    on_ok_weaker c.noted-in-Or.result (λ last. sides_marked _ _ _ _ _ _ _ _ _ whole left.marks right.marks last) c.noted-in-Or.ensures.marks
