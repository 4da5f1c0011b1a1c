-- The text of owned steps is the text of the steps that they stand for.
use Rattle.std.proofs.Common.{◌≡◌, ℕ, ◌&&◌, codes, List, [], ◌∷◌, ◌++◌, map, length, IsTrue, refl, sym, ap, ◌∙◌}
use Rattle.std.proofs.lemmas.Bool.{and_parts}
use Rattle.std.proofs.lemmas.List.{map-append}
use Rattle.pay_tree.specs.Owned.{StepTree, assigning, paying, choosing, grouping, StepsTree, no_steps, step_then}
use Rattle.pay_tree.specs.Owned.{name_at, spelled_test, spelled_step, spelled_steps}
use Rattle.pay_text.specs.Text.{word_line, deeper}
use Rattle.pay_runs.specs.RunLaws.{AreApart}
use Rattle.pay_runs.specs.Slots.{test_within, step_within, steps_within}
use Rattle.pay_passes.specs.Changes.{filled_step, filled_steps}
use Rattle.pay_print.specs.PrintLaws.{TreeTextsAreStepTexts}
use Rattle.pay_print.specs.StepText.{choice_line, else_lines, opened, opened_body, statement_lines, body_lines}
use Rattle.pay_print.specs.TreeText.{opened_step, opened_steps, step_lines, steps_lines}
use Rattle.pay_print.proofs.NameLemmas.{changes_named}

mutual
  filled_opens : (step : StepTree) → opened_step (filled_step step) ≡ map filled_step (opened_step step)
  filled_opens (assigning slot value) = refl
  filled_opens (paying leg amount) = refl
  filled_opens (choosing test yes_part no_part changes) = refl
  filled_opens (grouping steps) = filled_open steps

  -- filling in changes leaves as many steps once groups are opened
  filled_open : (steps : StepsTree) → opened_steps (filled_steps steps) ≡ map filled_step (opened_steps steps)
  filled_open no_steps = refl
  filled_open (step_then step rest) =
      (λ i. filled_opens step i ++ filled_open rest i) ∙ sym (map-append filled_step (opened_step step) (opened_steps rest))

module _ (names legs : List (List ℕ)) where
  mutual
    spelled_opens : (step : StepTree) → opened (spelled_step names legs step) ≡ map (spelled_step names legs) (opened_step step)
    spelled_opens (assigning slot value) = refl
    spelled_opens (paying leg amount) = refl
    spelled_opens (choosing test yes_part no_part changes) = refl
    spelled_opens (grouping steps) = spelled_open steps

    -- the statements that steps stand for are as many once groups are opened
    spelled_open : (steps : StepsTree) → opened_body (spelled_steps names legs steps) ≡ map (spelled_step names legs) (opened_steps steps)
    spelled_open no_steps = refl
    spelled_open (step_then step rest) =
        (λ i. spelled_opens step i ++ spelled_open rest i) ∙ sym (map-append (spelled_step names legs) (opened_step step) (opened_steps rest))

-- `else` stands where there are steps, whatever they are
else_mapped : {A B : Type 0} (f : A → B) (indent : List ℕ) (steps : List A) (lines : List ℕ)
    → else_lines indent (map f steps) lines ≡ else_lines indent steps lines
else_mapped f indent [] lines = refl
else_mapped f indent (first ∷ rest) lines = refl

-- `else` stands at a list of steps where it stands at the statements that they stand for
else_same : (names legs : List (List ℕ)) (indent : List ℕ) (steps : StepsTree) (lines : List ℕ)
    → else_lines indent (opened_steps (filled_steps steps)) lines ≡ else_lines indent (opened_body (spelled_steps names legs steps)) lines
else_same names legs indent steps lines =
    ap (λ opened. else_lines indent opened lines) (filled_open steps)
    ∙ else_mapped filled_step indent (opened_steps steps) lines
    ∙ sym (else_mapped (spelled_step names legs) indent (opened_steps steps) lines)
    ∙ ap (λ opened. else_lines indent opened lines) (sym (spelled_open names legs steps))

module _ (names legs : List (List ℕ)) where
  mutual
    step_same : AreApart names → (step : StepTree) → IsTrue (step_within (length names) step) → (indent : List ℕ)
        → step_lines names legs indent (filled_step step) ≡ statement_lines names indent (spelled_step names legs step)
    step_same apart (assigning slot value) within indent = refl
    step_same apart (paying leg amount) within indent = refl
    step_same apart (choosing test yes_part no_part changes) within indent =
        let parts = and_parts (test_within (length names) test) (steps_within (length names) yes_part && steps_within (length names) no_part) within in
        let branches = and_parts (steps_within (length names) yes_part) (steps_within (length names) no_part) parts.1 in
        let named = changes_named names legs apart yes_part no_part parts.1 in
        let yes_lines = steps_same apart yes_part branches.0 (deeper indent) in
        let no_lines = ap (else_lines indent (opened_steps (filled_steps no_part))) (steps_same apart no_part branches.1 (deeper indent))
        ∙ else_same names legs indent no_part (body_lines names (deeper indent) (spelled_steps names legs no_part)) in
        λ i. choice_line indent (spelled_test names test) (named i) ++ (yes_lines i ++ (no_lines i ++ word_line indent (codes "endif")))
    step_same apart (grouping steps) within indent = steps_same apart steps within indent

    -- the lines of steps with their changes are those of the statements that they stand for
    steps_same : AreApart names → (steps : StepsTree) → IsTrue (steps_within (length names) steps) → (indent : List ℕ)
        → steps_lines names legs indent (filled_steps steps) ≡ body_lines names indent (spelled_steps names legs steps)
    steps_same apart no_steps within indent = refl
    steps_same apart (step_then step rest) within indent =
        let parts = and_parts (step_within (length names) step) (steps_within (length names) rest) within in
        λ i. step_same apart step parts.0 indent i ++ steps_same apart rest parts.1 indent i

pub tree-texts-are-step-texts : TreeTextsAreStepTexts
tree-texts-are-step-texts names legs indent steps apart within filled =
    ap (steps_lines names legs indent) (sym filled) ∙ steps_same names legs apart steps within indent
