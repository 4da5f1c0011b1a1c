use Rattle.std.proofs.Common.{◌≡◌, drop}
use Rattle.pay_tree.specs.OwnedViews.{steps_tree}
use Rattle.pay_print.specs.TreeText.{has_any, opened_steps}
use Rattle.pay_print.proofs.steps.+opened.Given as goal

-- there is a step exactly where what is left has one
abbrev pub invariant-has_step-loop-step : goal.invariant-has_step-loop-step
invariant-has_step-loop-step l = has_any (opened_steps (steps_tree l.steps)) ≡ has_any (opened_steps (steps_tree (drop l.step-index l.steps)))
