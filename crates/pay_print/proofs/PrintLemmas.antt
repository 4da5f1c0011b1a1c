-- What is appended: tests that are sure of their answer, and the lines after `else`.
use Rattle.std.proofs.Common.{◌≡◌, ℕ, Bool, true, false, ◌||◌, codes, List, [], ◌∷◌, ◌++◌, Option, Some, None, Result, Ok, Err, OnOk, refl, sym, ap, ◌∙◌, append_assoc}
use Rattle.std.proofs.lemmas.Bool.{both_ways}
use Rattle.pay_tree.specs.declared.owned.Test.{Test}
use Rattle.pay_tree.specs.declared.owned.TestKind.{TestKind}
use Rattle.pay_tree.specs.declared.owned.TestKind.TheOpen.{TestKind-F}
use Rattle.pay_tree.specs.declared.owned.TestKind.TheFolds.{fold_out-Test, fold_out-TestKind}
use Rattle.pay_tree.specs.Owned.{TestTree, spelled_test, surely}
use Rattle.pay_tree.specs.OwnedViews.{test_tree, test_kind_tree, test_kind_part, test_part}
use Rattle.pay_text.specs.Text.{condition_text, truth_text, word_line}
use Rattle.pay_print.specs.StepText.{else_lines}
use Rattle.pay_print.specs.TreeText.{has_any}

-- one layer of a test stands for the same at each place, but for what it is sure of
layer_told : (names : List (List ℕ)) (layer : TestKind-F (ℕ → Option Bool → TestTree) TestTree) (id : ℕ) (told : Option Bool)
    → spelled_test names (test_kind_part layer id told) ≡ surely told (spelled_test names (test_kind_part layer 0 None))
layer_told names (TestKind-F.Truth answer) id told = refl
layer_told names (TestKind-F.Compare op left right smooth) id told = refl
layer_told names (TestKind-F.Not side) id told = refl
layer_told names (TestKind-F.And left right) id told = refl
layer_told names (TestKind-F.Or left right) id told = refl

kind_told : (names : List (List ℕ)) (kind : TestKind) (id : ℕ) (told : Option Bool)
    → spelled_test names (test_kind_tree kind id told) ≡ surely told (spelled_test names (test_kind_tree kind 0 None))
kind_told names kind id told =
    let opened = fold_out-TestKind (ℕ → Option Bool → TestTree) TestTree test_kind_part test_part kind in
    ap (λ part. spelled_test names (part id told)) opened ∙ layer_told names _ id told
    ∙ ap (λ part. surely told (spelled_test names (part 0 None))) (sym opened)

test_told : (names : List (List ℕ)) (t : Test) → spelled_test names (test_tree t) ≡ surely t.sure (spelled_test names (test_kind_tree t.kind 0 None))
test_told names t =
    ap (spelled_test names) (fold_out-Test (ℕ → Option Bool → TestTree) TestTree test_kind_part test_part t) ∙ kind_told names t.kind t.id t.sure

-- a test that is not sure of its answer has the text of its kind
pub bare_text : (names : List (List ℕ)) (t : Test) → t.sure ≡ None
    → condition_text (spelled_test names (test_tree t)) ≡ condition_text (spelled_test names (test_kind_tree t.kind 0 None))
bare_text names t told = ap condition_text (test_told names t ∙ ap (λ sure. surely sure (spelled_test names (test_kind_tree t.kind 0 None))) told)

-- one that is sure of it has that text in `sure`
pub sure_text : (names : List (List ℕ)) (t : Test) (answer : Bool) → t.sure ≡ Some answer
    → condition_text (spelled_test names (test_tree t))
    ≡ codes "sure(" ++ (truth_text answer ++ (codes ", " ++ (condition_text (spelled_test names (test_kind_tree t.kind 0 None)) ++ codes ")")))
sure_text names t answer told =
    ap condition_text (test_told names t ∙ ap (λ sure. surely sure (spelled_test names (test_kind_tree t.kind 0 None))) told)

-- where there is a step, the line `else` and the lines
pub else_some : {A : Type 0} (indent : List ℕ) (steps : List A) (lines : List ℕ) → has_any steps ≡ true
    → else_lines indent steps lines ≡ word_line indent (codes "else") ++ lines
else_some indent [] lines h = absurd (both_ways false refl h)
else_some indent (first ∷ rest) lines h = refl

-- and otherwise nothing
pub else_none : {A : Type 0} (indent : List ℕ) (steps : List A) (lines : List ℕ) → has_any steps ≡ false → else_lines indent steps lines ≡ []
else_none indent [] lines h = refl
else_none indent (first ∷ rest) lines h = absurd (both_ways true h refl)

-- there is one in two lists where there is one in either
pub any_both : {A : Type 0} (front back : List A) → has_any (front ++ back) ≡ (has_any front || has_any back)
any_both [] back = refl
any_both (first ∷ rest) back = refl

-- four texts that are appended one after the other, the last where this is `Ok`, are appended at once
pub four_appended : {A E : Type 0} (r : Result A E) (old one two three new : List ℕ) (a b c d : List ℕ) → one ≡ old ++ a → two ≡ one ++ b
    → three ≡ two ++ c → OnOk r (new ≡ three ++ d) → OnOk r (new ≡ old ++ (a ++ (b ++ (c ++ d))))
four_appended (Err fault) old one two three new a b c d first second third last = last
four_appended (Ok answer) old one two three new a b c d first second third last =
    last
    ∙ ap (λ text. text ++ d) (third ∙ ap (λ text. text ++ c) (second ∙ ap (λ text. text ++ b) first))
    ∙ append_assoc ((old ++ a) ++ b) c d ∙ append_assoc (old ++ a) b (c ++ d) ∙ append_assoc old a (b ++ (c ++ d))
