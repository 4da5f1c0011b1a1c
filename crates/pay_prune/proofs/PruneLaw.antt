-- An event that is pruned by its own marks stands for the simplified event, since its steps stand for the simplified body.
use Rattle.std.proofs.Common.{◌≡◌, ℕ, false, List, length, ap, ◌∙◌}
use Rattle.pay_tree.specs.Owned.{EventTree, spelled_steps, spelled_event}
use Rattle.pay_visit.specs.Rewriting.{rewritten_steps}
use Rattle.pay_simplified.specs.Pruning.{pruning}
use Rattle.pay_simplified.specs.PruningLaws.{PrunedStepsAreSimple}
use Rattle.pay_prune.specs.PruneLaws.{PrunedIsSimplified}

pub pruned_is_simplified : PrunedStepsAreSimple → PrunedIsSimplified
pruned_is_simplified steps_are_simple names legs event marks slots domains apart can stand is =
    ap (λ body. record { date = event.date; period = event.period; days = event.days; body = body })
    (ap (λ m. spelled_steps names legs (rewritten_steps (pruning m) event.steps)) is
    ∙ steps_are_simple names legs event.steps slots domains false (spelled_event names legs event) apart can.within can.places stand)
