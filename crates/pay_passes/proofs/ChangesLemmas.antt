-- The variables that steps assign, and steps whose choices are filled.
use Rattle.std.proofs.Common.{◌≡◌, ℕ, List, ◌++◌, refl, ap, ◌∙◌}
use Rattle.pay_tree.specs.Owned.{StepTree, assigning, paying, choosing, grouping, StepsTree, no_steps, step_then}
use Rattle.pay_tree.specs.Owned.{spelled_test, spelled_step, spelled_steps}
use Rattle.pay_meaning.specs.Language.{choose, group, next}
use Rattle.pay_tree.specs.Assigned.{assigned_by, assigned_in}
use Rattle.pay_passes.specs.Changes.{rising, changed_by, filled_step, filled_steps}

mutual
  -- filling changes nothing of what is assigned
  pub filled_assigns : (step : StepTree) → assigned_by (filled_step step) ≡ assigned_by step
  filled_assigns (assigning slot value) = refl
  filled_assigns (paying leg amount) = refl
  filled_assigns (choosing test yes_part no_part changes) =
      ap (λ slots. slots ++ assigned_in (filled_steps no_part)) (filled_assign yes_part) ∙ ap (λ slots. assigned_in yes_part ++ slots) (filled_assign no_part)
  filled_assigns (grouping steps) = filled_assign steps

  pub filled_assign : (steps : StepsTree) → assigned_in (filled_steps steps) ≡ assigned_in steps
  filled_assign no_steps = refl
  filled_assign (step_then step rest) =
      ap (λ slots. slots ++ assigned_in (filled_steps rest)) (filled_assigns step) ∙ ap (λ slots. assigned_by step ++ slots) (filled_assign rest)

mutual
  filled_spells : (names legs : List (List ℕ)) (step : StepTree) → spelled_step names legs (filled_step step) ≡ spelled_step names legs step
  filled_spells names legs (assigning slot value) = refl
  filled_spells names legs (paying leg amount) = refl
  filled_spells names legs (choosing test yes_part no_part changes) =
      ap (λ body. choose (spelled_test names test) body (spelled_steps names legs (filled_steps no_part))) (filled_spell names legs yes_part)
      ∙ ap (λ body. choose (spelled_test names test) (spelled_steps names legs yes_part) body) (filled_spell names legs no_part)
  filled_spells names legs (grouping steps) = ap group (filled_spell names legs steps)

  -- filling changes nothing of what steps stand for
  pub filled_spell : (names legs : List (List ℕ)) (steps : StepsTree) → spelled_steps names legs (filled_steps steps) ≡ spelled_steps names legs steps
  filled_spell names legs no_steps = refl
  filled_spell names legs (step_then step rest) =
      ap (λ first. next first (spelled_steps names legs (filled_steps rest))) (filled_spells names legs step)
      ∙ ap (next (spelled_step names legs step)) (filled_spell names legs rest)

-- the list of a choice is the same one where its branches assign the same
pub one_change : (yes_part other_yes no_part other_no : StepsTree) → assigned_in yes_part ≡ assigned_in other_yes
    → assigned_in no_part ≡ assigned_in other_no → changed_by yes_part no_part ≡ changed_by other_yes other_no
one_change yes_part other_yes no_part other_no h k =
    ap (λ slots. rising (slots ++ assigned_in no_part)) h ∙ ap (λ slots. rising (assigned_in other_yes ++ slots)) k

mutual
  filled_once : (step : StepTree) → filled_step (filled_step step) ≡ filled_step step
  filled_once (assigning slot value) = refl
  filled_once (paying leg amount) = refl
  filled_once (choosing test yes_part no_part changes) =
      ap (λ steps. choosing test steps (filled_steps (filled_steps no_part)) (changed_by (filled_steps yes_part) (filled_steps no_part))) (fill_once yes_part)
      ∙ ap (λ steps. choosing test (filled_steps yes_part) steps (changed_by (filled_steps yes_part) (filled_steps no_part))) (fill_once no_part)
      ∙ ap (choosing test (filled_steps yes_part) (filled_steps no_part))
      (one_change (filled_steps yes_part) yes_part (filled_steps no_part) no_part (filled_assign yes_part) (filled_assign no_part))
  filled_once (grouping steps) = ap grouping (fill_once steps)

  -- filling twice is filling once
  pub fill_once : (steps : StepsTree) → filled_steps (filled_steps steps) ≡ filled_steps steps
  fill_once no_steps = refl
  fill_once (step_then step rest) =
      ap (λ first. step_then first (filled_steps (filled_steps rest))) (filled_once step) ∙ ap (step_then (filled_step step)) (fill_once rest)
