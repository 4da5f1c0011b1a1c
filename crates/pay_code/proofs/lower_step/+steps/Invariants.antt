use Rattle.std.proofs.Common.{◌≡◌, ◌++◌, length, drop}
use Rattle.pay_code.specs.Flat.{steps_code, steps_table}
use Rattle.pay_tree.specs.OwnedViews.{steps_tree}
use Rattle.pay_code.proofs.lower_step.+steps.Given as goal

-- the code so far and that of what is left are the code of all steps, and so are their tables
abbrev pub invariant-lower_steps-loop-step : goal.invariant-lower_steps-loop-step
invariant-lower_steps-loop-step l = record {
  code : l.initial.ops.items ++ steps_code (length l.initial.ops.items) (length l.initial.changed.items) (steps_tree l.steps.items)
      ≡ l.ops.items ++ steps_code (length l.ops.items) (length l.changed.items) (steps_tree (drop l.step-index l.steps.items));
  table : l.initial.changed.items ++ steps_table (steps_tree l.steps.items)
      ≡ l.changed.items ++ steps_table (steps_tree (drop l.step-index l.steps.items));
}
