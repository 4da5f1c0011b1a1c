-- That facts by the numbers of variables are those by their names.
use Rattle.std.specs.Prelude.{◌≡◌, ℕ, ◌<◌, Bool, IsTrue, List, map, length}
use Rattle.std.specs.List.{list_all}
use Rattle.pay_meaning.specs.Language.{Event}
use Rattle.pay_tree.specs.Owned.{NumberTree, TestTree, StepsTree, EventTree, name_at, spelled_number, spelled_test, spelled_steps, spelled_event}
use Rattle.pay_runs.specs.Slots.{number_within, test_within, steps_within}
use Rattle.pay_runs.specs.RunLaws.{AreApart}
use Rattle.pay_facts.specs.Facts.{Domains, Facts}
use Rattle.pay_facts.specs.Ranges.{range}
use Rattle.pay_facts.specs.Decisions.{decide}
use Rattle.pay_facts.specs.After.{after, after_events}
use Rattle.pay_facts.specs.SlotFacts.{SlotDomains, slot_domain, SlotFacts, range_by_slots, decide_by_slots, after_steps, after_slot_events}

-- domains by number are those of these names: one for each name, and each is what its name has
pub record DomainsStandFor (names : List (List ℕ)) (slots : SlotDomains) (domains : Domains) : Type 0 where
  pub one_each : length slots ≡ length names
  pub same : (slot : ℕ) → slot < length names → slot_domain slots slot ≡ domains (name_at names slot)

-- facts by number are those by name
pub record FactsStandFor (names : List (List ℕ)) (slots : SlotFacts) (facts : Facts) : Type 0 where
  pub domains : DomainsStandFor names slots.domains facts.domains
  pub known : slots.known ≡ facts.known

-- Where no name is there twice, and the variables are among the names: ranges, decisions and the facts after steps are by number what they are by name.
pub record SlotFactsAreNames : Type 0 where
  pub ranges : (names : List (List ℕ)) (number : NumberTree) (slots : SlotDomains) (domains : Domains) (known : Bool) (event : Event)
      → IsTrue (number_within (length names) number) → DomainsStandFor names slots domains
      → range_by_slots number slots known ≡ range (spelled_number names number) domains known event
  pub decisions : (names : List (List ℕ)) (test : TestTree) (slots : SlotDomains) (domains : Domains) (known : Bool) (event : Event)
      → IsTrue (test_within (length names) test) → DomainsStandFor names slots domains
      → decide_by_slots test slots known ≡ decide (spelled_test names test) domains known event
  pub facts : (names legs : List (List ℕ)) (steps : StepsTree) (slots : SlotDomains) (domains : Domains) (known : Bool) (event : Event)
      → AreApart names → IsTrue (steps_within (length names) steps) → DomainsStandFor names slots domains
      → FactsStandFor names (after_steps steps slots known) (after (spelled_steps names legs steps) domains known event)

-- The same of events in their order: the raws of the variables after them are by number what they are by name.
abbrev pub SlotEventsAreNames : Type 0
SlotEventsAreNames = (names legs : List (List ℕ)) (events : List EventTree) (slots : SlotDomains) (domains : Domains)
    → AreApart names → IsTrue (list_all (λ event. steps_within (length names) event.steps) events) → DomainsStandFor names slots domains
    → DomainsStandFor names (after_slot_events events slots) (after_events (map (spelled_event names legs) events) domains)
