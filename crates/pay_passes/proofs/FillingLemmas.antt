-- Steps some of whose choices are filled.
use Rattle.std.proofs.Common.{◌≡◌, ℕ, ◌<◌, ◌≤◌, zero, suc, List, [], ◌∷◌, length, get_or, Result, Ok, Err, OnErr, refl, sym, ap, ◌∙◌, arith, subst, inl, inr}
use Rattle.std.proofs.lemmas.Bool.{cases_order}
use Rattle.std.proofs.lemmas.List.{get_or-set_other, length-set}
use Rattle.std.proofs.lemmas.Grind.{get_or-set_at}
use Rattle.std.proofs.Math.ListN.{set}
use Rattle.pay_tree.specs.declared.owned.Step.{Step}
use Rattle.pay_tree.specs.Owned.{TestTree, StepTree, assigning, paying, choosing, grouping, StepsTree, no_steps, step_then}
use Rattle.pay_tree.specs.OwnedViews.{step_tree, steps_tree}
use Rattle.pay_passes.specs.Changes.{changed_by, filled_step, filled_steps, SomeFilled, assigning_same, paying_same, choosing_some, grouping_some}
use Rattle.pay_passes.specs.Changes.{AreSomeFilled, nothing_filled, then_filled}
use Rattle.pay_passes.proofs.ChangesLemmas.{filled_assign, one_change}

-- what holds anyway holds where there is an error
pub on_err : {T E P : Type 0} (result : Result T E) → P → OnErr result P
on_err (Ok value) h = tt
on_err (Err fault) h = h

mutual
  -- a step has some of its choices filled where it is as it was
  pub none_filled : (step : StepTree) → SomeFilled step step
  none_filled (assigning slot value) = assigning_same slot value
  none_filled (paying leg amount) = paying_same leg amount
  none_filled (choosing test yes_part no_part changes) =
      choosing_some test yes_part yes_part no_part no_part changes changes (none_are_filled yes_part) (none_are_filled no_part) (inl refl)
  none_filled (grouping steps) = grouping_some steps steps (none_are_filled steps)

  pub none_are_filled : (steps : StepsTree) → AreSomeFilled steps steps
  none_are_filled no_steps = nothing_filled
  none_are_filled (step_then step rest) = then_filled step step rest rest (none_filled step) (none_are_filled rest)

mutual
  -- and where they all are
  pub all_filled : (step : StepTree) → SomeFilled (filled_step step) step
  all_filled (assigning slot value) = assigning_same slot value
  all_filled (paying leg amount) = paying_same leg amount
  all_filled (choosing test yes_part no_part changes) =
      choosing_some test (filled_steps yes_part) yes_part (filled_steps no_part) no_part (changed_by yes_part no_part) changes
      (all_are_filled yes_part) (all_are_filled no_part) (inr refl)
  all_filled (grouping steps) = grouping_some (filled_steps steps) steps (all_are_filled steps)

  pub all_are_filled : (steps : StepsTree) → AreSomeFilled (filled_steps steps) steps
  all_are_filled no_steps = nothing_filled
  all_are_filled (step_then step rest) = then_filled (filled_step step) step (filled_steps rest) rest (all_filled step) (all_are_filled rest)

-- steps that are filled one by one are filled
pub each_filled : (new old : List Step) → length new ≡ length old
    → ((k : ℕ) (d : Step) → k < length old → step_tree (get_or new k d) ≡ filled_step (step_tree (get_or old k d)))
    → steps_tree new ≡ filled_steps (steps_tree old)
each_filled [] [] same each = refl
each_filled [] (second ∷ others) same each = absurd (omega (arith, same))
each_filled (first ∷ rest) [] same each = absurd (omega (arith, same))
each_filled (first ∷ rest) (second ∷ others) same each =
    let here = each 0 second (omega arith) in
    let later = each_filled rest others (omega (arith, same)) (λ k d below. each (suc k) d (omega (arith, below))) in
    λ i. step_then (here i) (later i)

-- steps each of which has some of its choices filled have some filled
pub each_some : (new old : List Step) → length new ≡ length old
    → ((k : ℕ) (d : Step) → k < length old → SomeFilled (step_tree (get_or new k d)) (step_tree (get_or old k d)))
    → AreSomeFilled (steps_tree new) (steps_tree old)
each_some [] [] same each = nothing_filled
each_some [] (second ∷ others) same each = absurd (omega (arith, same))
each_some (first ∷ rest) [] same each = absurd (omega (arith, same))
each_some (first ∷ rest) (second ∷ others) same each =
    then_filled (step_tree first) (step_tree second) (steps_tree rest) (steps_tree others) (each 0 second (omega arith))
    (each_some rest others (omega (arith, same)) (λ k d below. each (suc k) d (omega (arith, below))))

-- a step that is filled, or is as it was, has some of its choices filled
pub from_filled : (new old : StepTree) → new ≡ filled_step old → SomeFilled new old
from_filled new old h = subst (λ step. SomeFilled step old) (sym h) (all_filled old)

pub from_all_filled : (new old : StepsTree) → new ≡ filled_steps old → AreSomeFilled new old
from_all_filled new old h = subst (λ steps. AreSomeFilled steps old) (sym h) (all_are_filled old)

pub from_kept : (new old : StepTree) → new ≡ old → SomeFilled new old
from_kept new old h = subst (λ step. SomeFilled step old) (sym h) (none_filled old)

-- a step of a list is the same one by any default
any_default : (items : List Step) (place : ℕ) (d e : Step) → place < length items → get_or items place d ≡ get_or items place e
any_default [] place d e inside = absurd (omega (arith, inside))
any_default (first ∷ rest) zero d e inside = refl
any_default (first ∷ rest) (suc place) d e inside = any_default rest place d e (omega (arith, inside))

-- steps that are filled up to one, which is filled in part, and unchanged after it
pub some_until : (items old : List Step) (last : ℕ) (step given : Step) → length items ≡ length old → last < length items
    → ((k : ℕ) (d : Step) → k < last → step_tree (get_or items k d) ≡ filled_step (step_tree (get_or old k d)))
    → SomeFilled (step_tree step) (step_tree (get_or items last given))
    → ((k : ℕ) (d : Step) → last ≤ k → get_or items k d ≡ get_or old k d)
    → AreSomeFilled (steps_tree (set items last step)) (steps_tree old)
some_until items old last step given same inside before here after =
    each_some (set items last step) old (length-set items last step ∙ same) (λ k d below. elim (cases_order k last) [
      | inl equal ↦
          let new = ap step_tree (get_or-set_at items last k step d equal inside) in
          let old_one = ap step_tree (sym (after k d (omega (arith, equal))) ∙ ap (λ place. get_or items place d) equal
          ∙ any_default items last d given inside) in
          subst (λ other. SomeFilled (step_tree (get_or (set items last step) k d)) other) (sym old_one)
          (subst (λ one. SomeFilled one (step_tree (get_or items last given))) (sym new) here)
      | inr (inl under) ↦
          from_filled (step_tree (get_or (set items last step) k d)) (step_tree (get_or old k d))
          (ap step_tree (get_or-set_other items last k step d (λ equal. omega (arith, equal, under))) ∙ before k d under)
      | inr (inr over) ↦
          from_kept (step_tree (get_or (set items last step) k d)) (step_tree (get_or old k d))
          (ap step_tree (get_or-set_other items last k step d (λ equal. omega (arith, equal, over)) ∙ after k d (omega (arith, over))))
    ])

-- a choice whose branches are filled, with the list of what they assign now, is filled
pub choice_filled : (test : TestTree) (yes_new yes_old no_new no_old : StepsTree) (new old : List ℕ) → yes_new ≡ filled_steps yes_old
    → no_new ≡ filled_steps no_old → new ≡ changed_by yes_new no_new
    → choosing test yes_new no_new new ≡ filled_step (choosing test yes_old no_old old)
choice_filled test yes_new yes_old no_new no_old new old first second is =
    let changes = is ∙ ap (λ steps. changed_by steps no_new) first ∙ ap (changed_by (filled_steps yes_old)) second
    ∙ one_change (filled_steps yes_old) yes_old (filled_steps no_old) no_old (filled_assign yes_old) (filled_assign no_old) in
    ap (λ steps. choosing test steps no_new new) first ∙ ap (λ steps. choosing test (filled_steps yes_old) steps new) second
    ∙ ap (choosing test (filled_steps yes_old) (filled_steps no_old)) changes
