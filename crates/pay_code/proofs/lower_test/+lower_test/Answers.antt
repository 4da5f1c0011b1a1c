use Rattle.std.proofs.Common.{◌≡◌, ℕ, Bool, List, [], ◌∷◌, ◌++◌, length, Option, Result, ap, sym, ◌∙◌, append_assoc}
use Rattle.std.specs.Result.{OnOk}
use Rattle.std.proofs.lemmas.Result.{on_ok_weaker}
use Rattle.pay_code.specs.declared.op.Op.{Op}
use Rattle.pay_code.specs.declared.op.Op.TheVariants as op
use Rattle.pay_code.specs.Flat.{number_code, surely_code, test_code, and_code, or_code}
use Rattle.pay_tree.specs.OwnedViews.{number_tree, test_tree}
use Rattle.pay_tree.proofs.OwnedLemmas.{test-truth, test-compare, test-not, test-and, test-or}
use Rattle.pay_code.proofs.LoweringLemmas.{sure_written, operands_written, sides_written}
use Rattle.pay_code.proofs.lower_test.+lower_test.Goals as goal
use Rattle.pay_code.proofs.lower_test.+lower_test.Goals.{in-Truth+in_ok-push-in-Truth, in-Compare+in_ok-lower_number-in-Compare+in_ok-lower_number-in-Compare-2+in_ok-push-in-Compare, in-Not+in_ok-lower_test-in-Not+in_ok-push-in-Not, in-And+in_ok-lower_test-in-And+in_ok-jump-in-And+in_ok-lower_test-in-And-2+in_ok-end_and-in-And, in-Or+in_ok-lower_test-in-Or+in_ok-jump-in-Or+in_ok-lower_test-in-Or-2+in_ok-end_or-in-Or}

-- the code of a test is that of its kind, and then what it is sure of
tested : {T E : Type 0} (r : Result T E) (before middle after code whole : List Op) (told : Option Bool) → middle ≡ before ++ code
    → whole ≡ surely_code told code → OnOk r (after ≡ middle ++ surely_code told []) → OnOk r (after ≡ before ++ whole)
tested r before middle after code whole told added is =
    on_ok_weaker r (λ last. last ∙ ap (λ xs. xs ++ surely_code told []) added ∙ sure_written told before code ∙ ap (λ xs. before ++ xs) (sym is))

pub returns : goal.returns
returns t c =
    let before = c.args.ops.now.items in
    let here = test_code (length before) in
    elim c.match-test.branch [
      | in-Truth+in_ok-push-in-Truth w ↦
          tested c.push_sure.result before _ _ (op.Truth w.in-Truth.answer ∷ []) _ _
          (ap (λ ops. ops.items) w.ops-is ∙ w.in_ok-push-in-Truth.ensures.items) (ap here (test-truth c.args.test.now _ w.in-Truth.is))
          c.push_sure.ensures
      | in-Compare+in_ok-lower_number-in-Compare+in_ok-lower_number-in-Compare-2+in_ok-push-in-Compare w ↦
          let left = number_code (number_tree w.in-Compare.left.value) in
          let right = number_code (number_tree w.in-Compare.right.value) in
          let last = op.Compare w.in-Compare.op w.in-Compare.smooth in
          let first = rw w.deref.ensures at w.in_ok-lower_number-in-Compare.ensures in
          let second = rw w.deref-in-Compare.ensures at w.in_ok-lower_number-in-Compare-2.ensures in
          tested c.push_sure.result before _ _ (left ++ (right ++ (last ∷ []))) _ _
          (ap (λ ops. ops.items) w.ops-is ∙ w.in_ok-push-in-Compare.ensures.items
          ∙ ap (λ ops. ops ++ (last ∷ [])) (second ∙ ap (λ ops. ops ++ right) first) ∙ operands_written before left right last)
          (ap here (test-compare c.args.test.now _ _ _ _ w.in-Compare.is)) c.push_sure.ensures
      | in-Not+in_ok-lower_test-in-Not+in_ok-push-in-Not w ↦
          let side = here (test_tree w.in-Not.side.value) in
          let first = rw w.deref-in-Not.ensures at w.in_ok-lower_test-in-Not.ensures in
          tested c.push_sure.result before _ _ (side ++ (op.Not ∷ [])) _ _
          (ap (λ ops. ops.items) w.ops-is ∙ w.in_ok-push-in-Not.ensures.items ∙ ap (λ ops. ops ++ (op.Not ∷ [])) first
          ∙ append_assoc before side (op.Not ∷ []))
          (ap here (test-not c.args.test.now _ w.in-Not.is)) c.push_sure.ensures
      | in-And+in_ok-lower_test-in-And+in_ok-jump-in-And+in_ok-lower_test-in-And-2+in_ok-end_and-in-And w ↦
          let left = here (test_tree w.in-And.left.value) in
          let right : ℕ → List Op = λ there. test_code there (test_tree w.in-And.right.value) in
          let first = rw w.deref-in-And.ensures at w.in_ok-lower_test-in-And.ensures in
          let second = rw w.deref-in-And-2.ensures at w.in_ok-lower_test-in-And-2.ensures in
          tested c.push_sure.result before _ _ (and_code (length before) left right) _ _
          (ap (λ ops. ops.items) w.ops-is
          ∙ sides_written before _ _ _ _ left right op.AndSkip op.AndJoin _ first w.in_ok-jump-in-And.ensures.place
          w.in_ok-jump-in-And.ensures.added second w.in_ok-end_and-in-And.ensures)
          (ap here (test-and c.args.test.now _ _ w.in-And.is)) c.push_sure.ensures
      | in-Or+in_ok-lower_test-in-Or+in_ok-jump-in-Or+in_ok-lower_test-in-Or-2+in_ok-end_or-in-Or w ↦
          let left = here (test_tree w.in-Or.left.value) in
          let right : ℕ → List Op = λ there. test_code there (test_tree w.in-Or.right.value) in
          let first = rw w.deref-in-Or.ensures at w.in_ok-lower_test-in-Or.ensures in
          let second = rw w.deref-in-Or-2.ensures at w.in_ok-lower_test-in-Or-2.ensures in
          tested c.push_sure.result before _ _ (or_code (length before) left right) _ _
          (ap (λ ops. ops.items) w.ops-is
          ∙ sides_written before _ _ _ _ left right op.OrSkip op.OrJoin _ first w.in_ok-jump-in-Or.ensures.place
          w.in_ok-jump-in-Or.ensures.added second w.in_ok-end_or-in-Or.ensures)
          (ap here (test-or c.args.test.now _ _ w.in-Or.is)) c.push_sure.ensures
    ]
