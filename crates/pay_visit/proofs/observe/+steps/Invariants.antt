use Rattle.std.proofs.Common.{drop}
use Rattle.pay_tree.specs.OwnedViews.{steps_tree}
use Rattle.pay_visit.specs.Showing.{parts_of_steps}
use Rattle.pay_visit.proofs.ShowingLemmas.{SeenTo}
use Rattle.pay_visit.proofs.observe.+steps.Given as goal

-- the parts of the steps before this one are shown
abbrev pub invariant-observe_branch-loop-step : goal.invariant-observe_branch-loop-step
invariant-observe_branch-loop-step g l =
    SeenTo (g.O.Observer.seen l.initial.with) (g.O.Observer.seen l.with) (parts_of_steps (steps_tree l.steps.items))
    (parts_of_steps (steps_tree (drop l.step-index l.steps.items)))
