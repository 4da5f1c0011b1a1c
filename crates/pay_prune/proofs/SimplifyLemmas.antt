-- One event simplified.
use Rattle.std.proofs.Common.{◌≡◌, ℕ, false, ap, ◌∙◌}
use Rattle.pay_tree.specs.Owned.{EventTree}
use Rattle.pay_facts.specs.SlotFacts.{SlotDomains, SlotFacts, after_steps}
use Rattle.pay_analysis.specs.declared.marks.Mark.{Mark}
use Rattle.pay_simplified.specs.Pruning.{filled_event, marks_of, pruned_event}
use Rattle.pay_prune.specs.Pruned.{pruned_by}
use Rattle.pay_prune.specs.Simplifying.{after_simplified, simplified_event}

-- an event that is pruned by the marks of a walk over it, and whose choices are filled in again, is simplified
pub event_simplified : (event whole pruned : EventTree) (marks : ℕ → Mark) (domains : SlotDomains) → whole ≡ filled_event event
    → marks ≡ marks_of whole.steps domains false → pruned ≡ pruned_by marks whole → filled_event pruned ≡ simplified_event event domains
event_simplified event whole pruned marks domains is marked by =
    ap filled_event (by ∙ ap (λ own. pruned_by own whole) marked ∙ ap (λ e. pruned_event e domains) is)

-- the raws after a walk over it are those after it
pub facts_after : (event whole : EventTree) (domains : SlotDomains) (facts : SlotFacts) → whole ≡ filled_event event
    → facts ≡ after_steps whole.steps domains false → facts.domains ≡ after_simplified event domains
facts_after event whole domains facts is walked = ap (λ f. f.domains) walked ∙ ap (λ e. (after_steps e.steps domains false).domains) is
