-- The same text of owned steps, where variables and legs are numbers and each `if` has the numbers of the variables that it changes.
use Rattle.std.specs.Prelude.{ℕ, zero, suc, Bool, true, false, codes, List, [], ◌∷◌, ◌++◌, map}
use Rattle.pay_tree.specs.Owned.{StepTree, assigning, paying, choosing, grouping, StepsTree, no_steps, step_then}
use Rattle.pay_tree.specs.Owned.{name_at, spelled_number, spelled_test}
use Rattle.pay_text.specs.Text.{line_text, word_line, deeper, item_indent}
use Rattle.pay_print.specs.StepText.{choice_line, else_lines}

abbrev mutual
  -- what stands in the place of a step: the step, or those of a group
  pub opened_step : StepTree → List StepTree
  opened_step (assigning slot value) = assigning slot value ∷ []
  opened_step (paying leg amount) = paying leg amount ∷ []
  opened_step (choosing test yes_part no_part changes) = choosing test yes_part no_part changes ∷ []
  opened_step (grouping steps) = opened_steps steps

  -- steps once their groups are opened
  pub opened_steps : StepsTree → List StepTree
  opened_steps no_steps = []
  opened_steps (step_then step rest) = opened_step step ++ opened_steps rest

-- whether there is one
abbrev pub has_any : {A : Type 0} → List A → Bool
has_any [] = false
has_any (first ∷ rest) = true

abbrev mutual
  -- the lines of a step, where the variables and the legs have these names; an `if` shows the names of its list of changes
  pub step_lines : List (List ℕ) → List (List ℕ) → List ℕ → StepTree → List ℕ
  step_lines names legs indent (assigning slot value) = line_text indent (name_at names slot) (codes " = ") (spelled_number names value)
  step_lines names legs indent (paying leg amount) = line_text indent (name_at legs leg) (codes " pays ") (spelled_number names amount)
  step_lines names legs indent (choosing test yes_part no_part changes) =
      choice_line indent (spelled_test names test) (map (name_at names) changes) ++ (steps_lines names legs (deeper indent) yes_part
      ++ (else_lines indent (opened_steps no_part) (steps_lines names legs (deeper indent) no_part) ++ word_line indent (codes "endif")))
  step_lines names legs indent (grouping steps) = steps_lines names legs indent steps

  -- the lines of steps in their order
  pub steps_lines : List (List ℕ) → List (List ℕ) → List ℕ → StepsTree → List ℕ
  steps_lines names legs indent no_steps = []
  steps_lines names legs indent (step_then step rest) = step_lines names legs indent step ++ steps_lines names legs indent rest

-- the indent at a depth: two spaces so many times
abbrev pub indent_at : ℕ → List ℕ
indent_at zero = []
indent_at (suc depth) = deeper (indent_at depth)

-- the text of the steps of an event
abbrev pub tree_text : List (List ℕ) → List (List ℕ) → StepsTree → List ℕ
tree_text names legs steps = steps_lines names legs item_indent steps
