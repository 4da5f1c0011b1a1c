-- What lies below the top of a stack.
use Rattle.std.proofs.Common.{◌≡◌, ℕ, ◌-◌, ◌≤◌, List, [], ◌∷◌, length, reverse, get_or, refl, sym, ap, ◌∙◌, arith}
use Rattle.std.proofs.lemmas.List.{get_or-reverse, length-reverse}
use Rattle.pay_code.specs.Execution.{below_top}
use Rattle.pay_machine.specs.Stacks.{top_or}

second_at : {A : Type 0} (d e : A) (ys : List A) → 2 ≤ length ys → top_or d (below_top ys) ≡ get_or ys 1 e
second_at d e [] h = absurd (omega arith)
second_at d e (y ∷ []) h = absurd (omega arith)
second_at d e (y ∷ z ∷ rest) h = refl

-- the last but one of the items lies below the top
pub second_of : {A : Type 0} (d x : A) (items : List A) (n : ℕ) → n ≡ length items → 2 ≤ n → x ≡ get_or items (n - 2) x
    → x ≡ top_or d (below_top (reverse items))
second_of d x items n long two is =
    let back : length (reverse items) ≡ length items = length-reverse items in
    let there : n - 2 ≡ length items - 1 - 1 = omega arith in
    let turned : get_or (reverse items) 1 x ≡ get_or items (length items - 1 - 1) x = get_or-reverse items 1 x (omega arith) in
    let low : top_or d (below_top (reverse items)) ≡ get_or (reverse items) 1 x = second_at d x (reverse items) (omega arith) in
    is ∙ ap (λ k. get_or items k x) there ∙ sym turned ∙ sym low
