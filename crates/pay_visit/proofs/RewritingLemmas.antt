-- A tree that is changed after its parts is rewritten.
use Rattle.std.proofs.Common.{◌≡◌, ℕ, Bool, List, Option, sym, ap, ◌∙◌}
use Rattle.pay_fixed.specs.declared.smooth.Smooth.{Smooth}
use Rattle.pay_tree.specs.declared.tree.Binary.{Binary}
use Rattle.pay_tree.specs.declared.tree.Unary.{Unary}
use Rattle.pay_tree.specs.declared.tree.Compare.{Compare}
use Rattle.pay_tree.specs.Owned.{NumberTree, unary_at, binary_at, TestTree, compare_at, not_at, and_at, or_at, StepTree, StepsTree, assigning, paying}
use Rattle.pay_tree.specs.Owned.{choosing, grouping}
use Rattle.pay_visit.specs.Rewriting.{Change, rewritten_number, rewritten_test, rewritten_step, rewritten_steps}

pub unary_changed : (change : Change) {whole new old : NumberTree} {id : ℕ} {op : Unary} {a b : NumberTree}
    → whole ≡ change.number new → new ≡ unary_at id op a → old ≡ unary_at id op b
    → a ≡ rewritten_number change b → whole ≡ rewritten_number change old
unary_changed change {whole} {new} {old} {id} {op} {a} {b} by_change is_new is_old is_a =
    by_change ∙ ap change.number (is_new ∙ (λ i. unary_at id op (is_a i))) ∙ sym (ap (rewritten_number change) is_old)

pub binary_changed : (change : Change) {whole new old : NumberTree} {id : ℕ} {op : Binary} {a b : NumberTree} {c d : NumberTree}
    → whole ≡ change.number new → new ≡ binary_at id op a c → old ≡ binary_at id op b d
    → a ≡ rewritten_number change b → c ≡ rewritten_number change d → whole ≡ rewritten_number change old
binary_changed change {whole} {new} {old} {id} {op} {a} {b} {c} {d} by_change is_new is_old is_a is_c =
    by_change ∙ ap change.number (is_new ∙ (λ i. binary_at id op (is_a i) (is_c i))) ∙ sym (ap (rewritten_number change) is_old)

pub compare_changed : (change : Change) {whole new old : TestTree} {id : ℕ} {told : Option Bool} {op : Compare} {smooth : Option Smooth} {a b : NumberTree} {c d : NumberTree}
    → whole ≡ change.test new → new ≡ compare_at id told op a c smooth → old ≡ compare_at id told op b d smooth
    → a ≡ rewritten_number change b → c ≡ rewritten_number change d → whole ≡ rewritten_test change old
compare_changed change {whole} {new} {old} {id} {told} {op} {smooth} {a} {b} {c} {d} by_change is_new is_old is_a is_c =
    by_change ∙ ap change.test (is_new ∙ (λ i. compare_at id told op (is_a i) (is_c i) smooth)) ∙ sym (ap (rewritten_test change) is_old)

pub not_changed : (change : Change) {whole new old : TestTree} {id : ℕ} {told : Option Bool} {a b : TestTree}
    → whole ≡ change.test new → new ≡ not_at id told a → old ≡ not_at id told b
    → a ≡ rewritten_test change b → whole ≡ rewritten_test change old
not_changed change {whole} {new} {old} {id} {told} {a} {b} by_change is_new is_old is_a =
    by_change ∙ ap change.test (is_new ∙ (λ i. not_at id told (is_a i))) ∙ sym (ap (rewritten_test change) is_old)

pub and_changed : (change : Change) {whole new old : TestTree} {id : ℕ} {told : Option Bool} {a b : TestTree} {c d : TestTree}
    → whole ≡ change.test new → new ≡ and_at id told a c → old ≡ and_at id told b d
    → a ≡ rewritten_test change b → c ≡ rewritten_test change d → whole ≡ rewritten_test change old
and_changed change {whole} {new} {old} {id} {told} {a} {b} {c} {d} by_change is_new is_old is_a is_c =
    by_change ∙ ap change.test (is_new ∙ (λ i. and_at id told (is_a i) (is_c i))) ∙ sym (ap (rewritten_test change) is_old)

pub or_changed : (change : Change) {whole new old : TestTree} {id : ℕ} {told : Option Bool} {a b : TestTree} {c d : TestTree}
    → whole ≡ change.test new → new ≡ or_at id told a c → old ≡ or_at id told b d
    → a ≡ rewritten_test change b → c ≡ rewritten_test change d → whole ≡ rewritten_test change old
or_changed change {whole} {new} {old} {id} {told} {a} {b} {c} {d} by_change is_new is_old is_a is_c =
    by_change ∙ ap change.test (is_new ∙ (λ i. or_at id told (is_a i) (is_c i))) ∙ sym (ap (rewritten_test change) is_old)

pub assign_changed : (change : Change) {whole new old : StepTree} {slot : ℕ} {a b : NumberTree}
    → whole ≡ change.step new → new ≡ assigning slot a → old ≡ assigning slot b
    → a ≡ rewritten_number change b → whole ≡ rewritten_step change old
assign_changed change {whole} {new} {old} {slot} {a} {b} by_change is_new is_old is_a =
    by_change ∙ ap change.step (is_new ∙ (λ i. assigning slot (is_a i))) ∙ sym (ap (rewritten_step change) is_old)

pub pay_changed : (change : Change) {whole new old : StepTree} {leg : ℕ} {a b : NumberTree}
    → whole ≡ change.step new → new ≡ paying leg a → old ≡ paying leg b
    → a ≡ rewritten_number change b → whole ≡ rewritten_step change old
pay_changed change {whole} {new} {old} {leg} {a} {b} by_change is_new is_old is_a =
    by_change ∙ ap change.step (is_new ∙ (λ i. paying leg (is_a i))) ∙ sym (ap (rewritten_step change) is_old)

pub choose_changed : (change : Change) {whole new old : StepTree} {changes : List ℕ} {a b : TestTree} {c d : StepsTree} {e f : StepsTree}
    → whole ≡ change.step new → new ≡ choosing a c e changes → old ≡ choosing b d f changes
    → a ≡ rewritten_test change b → c ≡ rewritten_steps change d → e ≡ rewritten_steps change f → whole ≡ rewritten_step change old
choose_changed change {whole} {new} {old} {changes} {a} {b} {c} {d} {e} {f} by_change is_new is_old is_a is_c is_e =
    by_change ∙ ap change.step (is_new ∙ (λ i. choosing (is_a i) (is_c i) (is_e i) changes)) ∙ sym (ap (rewritten_step change) is_old)

pub group_changed : (change : Change) {whole new old : StepTree} {a b : StepsTree}
    → whole ≡ change.step new → new ≡ grouping a → old ≡ grouping b
    → a ≡ rewritten_steps change b → whole ≡ rewritten_step change old
group_changed change {whole} {new} {old} {a} {b} by_change is_new is_old is_a =
    by_change ∙ ap change.step (is_new ∙ (λ i. grouping (is_a i))) ∙ sym (ap (rewritten_step change) is_old)
