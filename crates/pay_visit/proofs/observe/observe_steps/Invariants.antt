use Rattle.std.proofs.Common.{drop}
use Rattle.pay_tree.specs.OwnedViews.{steps_tree}
use Rattle.pay_visit.specs.Showing.{parts_of_steps}
use Rattle.pay_visit.proofs.ShowingLemmas.{SeenTo}
use Rattle.pay_visit.proofs.observe.observe_steps.Given as goal

-- the parts of the steps before this one are shown
abbrev pub invariant-loop-step : goal.invariant-loop-step
invariant-loop-step g l =
    SeenTo (g.O.Observer.seen l.initial.with) (g.O.Observer.seen l.with) (parts_of_steps (steps_tree l.steps))
    (parts_of_steps (steps_tree (drop l.step-index l.steps)))
