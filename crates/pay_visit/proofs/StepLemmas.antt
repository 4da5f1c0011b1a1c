-- Steps that are rewritten one by one are rewritten.
use Rattle.std.proofs.Common.{◌≡◌, ℕ, ◌<◌, suc, List, [], ◌∷◌, length, get_or, refl, arith}
use Rattle.pay_tree.specs.declared.owned.Step.{Step}
use Rattle.pay_tree.specs.Owned.{step_then}
use Rattle.pay_tree.specs.OwnedViews.{step_tree, steps_tree}
use Rattle.pay_visit.specs.Rewriting.{Change, rewritten_step, rewritten_steps}

pub all_rewritten : (change : Change) (new old : List Step) → length new ≡ length old
    → ((k : ℕ) (d : Step) → k < length old → step_tree (get_or new k d) ≡ rewritten_step change (step_tree (get_or old k d)))
    → steps_tree new ≡ rewritten_steps change (steps_tree old)
all_rewritten change [] [] same each = refl
all_rewritten change [] (y ∷ ys) same each = absurd (omega (arith, same))
all_rewritten change (x ∷ xs) [] same each = absurd (omega (arith, same))
all_rewritten change (x ∷ xs) (y ∷ ys) same each =
    let first = each 0 y (omega arith) in
    let rest = all_rewritten change xs ys (omega (arith, same)) (λ k d below. each (suc k) d (omega (arith, below))) in
    λ i. step_then (first i) (rest i)
