use Rattle.std.proofs.Common.{◌≡◌, ℕ, ◌<◌, get_or}
use Rattle.pay_tree.specs.declared.owned.Step.{Step}
use Rattle.pay_tree.specs.OwnedViews.{step_tree}
use Rattle.pay_passes.specs.Changes.{filled_step}
use Rattle.pay_passes.proofs.changes.+fill.Given as goal

-- the steps before this one are filled, and the others are as they were
abbrev pub invariant-fill_changes-loop-step : goal.invariant-fill_changes-loop-step
invariant-fill_changes-loop-step l = record {
  unvisited : goal.unvisited-fill_changes-loop-step l;
  filled : (k : ℕ) (d : Step) → k < l.step-index → step_tree (get_or l.step-items k d) ≡ filled_step (step_tree (get_or l.initial.step-items k d));
}
