-- That the text of owned steps is the text of the steps that they stand for.
use Rattle.std.specs.Prelude.{◌≡◌, ℕ, IsTrue, List, length}
use Rattle.pay_tree.specs.Owned.{StepsTree, spelled_steps}
use Rattle.pay_runs.specs.RunLaws.{AreApart}
use Rattle.pay_runs.specs.Slots.{steps_within}
use Rattle.pay_passes.specs.Changes.{filled_steps}
use Rattle.pay_print.specs.StepText.{body_lines}
use Rattle.pay_print.specs.TreeText.{steps_lines}

-- Where no name is there twice, the variables are among the names, and each choice has the variables that its branches assign, rising: the lines of
-- owned steps are those of the steps that they stand for.
abbrev pub TreeTextsAreStepTexts : Type 0
TreeTextsAreStepTexts = (names legs : List (List ℕ)) (indent : List ℕ) (steps : StepsTree) → AreApart names → IsTrue (steps_within (length names) steps)
    → filled_steps steps ≡ steps → steps_lines names legs indent steps ≡ body_lines names indent (spelled_steps names legs steps)
