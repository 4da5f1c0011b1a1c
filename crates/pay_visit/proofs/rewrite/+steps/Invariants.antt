use Rattle.std.proofs.Common.{◌≡◌, ℕ, ◌<◌, get_or}
use Rattle.pay_tree.specs.declared.owned.Step.{Step}
use Rattle.pay_tree.specs.OwnedViews.{step_tree}
use Rattle.pay_visit.specs.Rewriting.{rewritten_step}
use Rattle.pay_visit.proofs.rewrite.+steps.Given as goal

-- the steps before this one are changed, and the others are not
abbrev pub invariant-change_steps-loop-step : goal.invariant-change_steps-loop-step
invariant-change_steps-loop-step g l = record {
  unvisited : goal.unvisited-change_steps-loop-step g l;
  changed : (k : ℕ) (d : Step) → k < l.step-index
      → step_tree (get_or l.step-items k d) ≡ rewritten_step (g.R.Rewriter.change l.with) (step_tree (get_or l.initial.step-items k d));
}
