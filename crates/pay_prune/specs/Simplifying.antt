-- An event simplified by what is known before it.
use Rattle.std.specs.Prelude.{false}
use Rattle.pay_facts.specs.SlotFacts.{SlotDomains, after_steps}
use Rattle.pay_simplified.specs.Pruning.{filled_event, pruned_event}
use Rattle.pay_tree.specs.Owned.{EventTree}

-- an event with its choices filled in, pruned from these raws of the variables, and filled in again, since less may be assigned then
abbrev pub simplified_event : EventTree → SlotDomains → EventTree
simplified_event event domains = filled_event (pruned_event (filled_event event) domains)

-- the raws of the variables after it
abbrev pub after_simplified : EventTree → SlotDomains → SlotDomains
after_simplified event domains = (after_steps (filled_event event).steps domains false).domains
