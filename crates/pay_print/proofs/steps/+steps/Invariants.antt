use Rattle.std.proofs.Common.{◌≡◌, ◌++◌, drop}
use Rattle.pay_tree.specs.OwnedViews.{steps_tree}
use Rattle.pay_print.specs.TreeText.{steps_lines}
use Rattle.pay_print.proofs.steps.+steps.Given as goal

-- the text so far and the lines of what is left are the whole text
abbrev pub invariant-append_steps-loop-step : goal.invariant-append_steps-loop-step
invariant-append_steps-loop-step l =
    l.initial.text.items ++ steps_lines l.names l.legs l.indent (steps_tree l.steps)
    ≡ l.text.items ++ steps_lines l.names l.legs l.indent (steps_tree (drop l.step-index l.steps))
