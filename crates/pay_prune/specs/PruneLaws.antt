-- That an event which is pruned by its own marks stands for the simplified event.
use Rattle.std.specs.Prelude.{◌≡◌, ℕ, false, List, length}
use Rattle.pay_tree.specs.Owned.{EventTree, spelled_event}
use Rattle.pay_runs.specs.RunLaws.{AreApart}
use Rattle.pay_facts.specs.Facts.{Domains}
use Rattle.pay_facts.specs.SlotFacts.{SlotDomains}
use Rattle.pay_facts.specs.SlotLaws.{DomainsStandFor}
use Rattle.pay_analysis.specs.declared.marks.Mark.{Mark}
use Rattle.pay_simplified.specs.Simplified.{simple_event}
use Rattle.pay_simplified.specs.Pruning.{marks_of}
use Rattle.pay_simplified.specs.PruningLaws.{CanBePruned}
use Rattle.pay_prune.specs.Pruned.{pruned_by}

-- Where no name is there twice, the variables are among the names, and no place is there twice: an event that is pruned by the marks of a walk over it
-- stands for the simplified event of what it stands for.
abbrev pub PrunedIsSimplified : Type 0
PrunedIsSimplified = (names legs : List (List ℕ)) (event : EventTree) (marks : ℕ → Mark) (slots : SlotDomains) (domains : Domains)
    → AreApart names → CanBePruned (length names) event.steps → DomainsStandFor names slots domains → marks ≡ marks_of event.steps slots false
    → spelled_event names legs (pruned_by marks event) ≡ simple_event (spelled_event names legs event) domains
