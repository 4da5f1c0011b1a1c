-- One step of restoring and of blending values, in the order of the variables.
use Rattle.std.proofs.Common.{◌≡◌, ℕ, zero, suc, ◌+◌, ◌<◌, ℤ, pos, List, [], ◌∷◌, length, drop, set, get_or, refl, ap, ◌∙◌, add-one}
use Rattle.std.proofs.lemmas.List.{drop_more}
use Rattle.pay_fixed.specs.Weights.{blended}
use Rattle.pay_runs.specs.Slots.{Slots, slot_value}
use Rattle.pay_code.specs.Execution.{top_number, below_top, restored, blended_with}

-- the top of what is left is the value at its place
top-drop : (values : List ℤ) (i : ℕ) → top_number (drop i values) ≡ get_or values i (pos 0)
top-drop [] zero = refl
top-drop [] (suc i) = refl
top-drop (x ∷ values) zero = refl
top-drop (x ∷ values) (suc i) = top-drop values i

below-suc : (values : List ℤ) (i : ℕ) → below_top (drop i values) ≡ drop (suc i) values
below-suc [] zero = refl
below-suc [] (suc i) = refl
below-suc (x ∷ values) zero = refl
below-suc (x ∷ values) (suc i) = below-suc values i

-- what lies below it begins at the next place
below-drop : (values : List ℤ) (i : ℕ) → below_top (drop i values) ≡ drop (i + 1) values
below-drop values i = rw add-one (below-suc values i)

-- one variable is restored, and then the rest
pub restored_step : (changes : List ℕ) (values : List ℤ) (slots : Slots) (i d : ℕ) → i < length changes
    → restored (drop i changes) (drop i values) slots
    ≡ restored (drop (i + 1) changes) (drop (i + 1) values) (set slots (get_or changes i d) (get_or values i (pos 0)))
restored_step changes values slots i d h =
    ap (λ left. restored left (drop i values) slots) (drop_more changes i d h)
    ∙ (λ k. restored (drop (i + 1) changes) (below-drop values i k) (set slots (get_or changes i d) (top-drop values i k)))

-- one variable is blended, and then the rest
pub blended_step : (w : ℕ) (changes : List ℕ) (values : List ℤ) (slots : Slots) (i d : ℕ) → i < length changes
    → blended_with w (drop i changes) (drop i values) slots
    ≡ blended_with w (drop (i + 1) changes) (drop (i + 1) values)
    (set slots (get_or changes i d) (blended w (get_or values i (pos 0)) (slot_value slots (get_or changes i d))))
blended_step w changes values slots i d h =
    ap (λ left. blended_with w left (drop i values) slots) (drop_more changes i d h)
    ∙ (λ k. blended_with w (drop (i + 1) changes) (below-drop values i k)
    (set slots (get_or changes i d) (blended w (top-drop values i k) (slot_value slots (get_or changes i d)))))
