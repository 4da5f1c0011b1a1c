use Rattle.std.proofs.Common.{◌≡◌, map, take}
use Rattle.pay_tree.specs.OwnedViews.{step_tree}
use Rattle.pay_tree.proofs.owned_copy.+steps.Given as goal

-- the copy so far is the same as the steps that it is of
abbrev pub invariant-copy_steps-loop-step : goal.invariant-copy_steps-loop-step
invariant-copy_steps-loop-step l = map step_tree l.copy.items ≡ map step_tree (take l.step-index l.steps.items)
