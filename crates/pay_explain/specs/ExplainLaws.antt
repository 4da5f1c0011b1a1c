-- That what is said of a trade is said of the script's own events, and holds in every run.
use Rattle.std.specs.Prelude.{◌≡◌, ℕ, ◌<◌, List, [], ◌∷◌, ◌++◌, map, take, length}
use Rattle.pay_meaning.specs.Language.{Event}
use Rattle.pay_meaning.specs.Meaning.{Variables, lookup, no_variables, Fixings, finished, meaning}
use Rattle.pay_domains.specs.Pieces.{Held}
use Rattle.pay_facts.specs.Facts.{no_facts}
use Rattle.pay_facts.specs.Holding.{AreFixings}
use Rattle.pay_facts.specs.SlotFacts.{SlotDomains, slot_domain, after_slot_events}
use Rattle.pay_passes.specs.Terms.{at_own_terms}
use Rattle.pay_passes.specs.declared.trade.Trade.{Trade}
use Rattle.pay_passes.specs.Trades.{IsGood, spelled_trade, trees_of}
use Rattle.pay_tree.specs.Owned.{EventTree, name_at}
use Rattle.pay_print.specs.TreeText.{tree_text}
use Rattle.pay_explain.specs.Explaining.{explain_text, explain_trees, tree_heading, left_steps, domain_lines, zero_domains}

-- what is said of the events of a good trade by the numbers of its variables, is said of the events that they stand for, from no variables
abbrev pub ExplainedByName : Type 0
ExplainedByName = (trade : Trade) → IsGood trade
    → explain_trees trade.names.items trade.legs.items (trees_of trade) (zero_domains trade.names.items)
    ≡ explain_text trade.names.items (spelled_trade trade) no_facts

-- what is said of events with `period()` and `days()` as numbers is said of the events
abbrev pub ExplainedAtTerms : Type 0
ExplainedAtTerms = (names : List (List ℕ)) (events : List Event)
    → explain_text names (map at_own_terms events) no_facts ≡ explain_text names events no_facts

-- what is said of an event after others has the steps that are left of it, and a line for each variable with its raws after all of them
abbrev pub EndsAreShown : Type 0
EndsAreShown = (names legs : List (List ℕ)) (earlier : List EventTree) (event : EventTree) (domains : SlotDomains)
    → explain_trees names legs (earlier ++ (event ∷ [])) domains
    ≡ explain_trees names legs earlier domains ++ (tree_heading event ++ (tree_text names legs (left_steps event.steps (after_slot_events earlier domains))
    ++ domain_lines names (after_slot_events (earlier ++ (event ∷ [])) domains)))

-- After the first so many events of a good trade, in every run from no variables under fixings within their limit that comes so far: the value of each
-- variable is one of the raws that it has by what is said of them.
abbrev pub ShownDomainsHold : Type 0
ShownDomainsHold = (trade : Trade) (count : ℕ) (variables : Variables) (fixings : Fixings) (slot : ℕ) → IsGood trade → AreFixings fixings
    → (meaning (take count (spelled_trade trade)) no_variables fixings).end ≡ finished variables
    → slot < length trade.names.items
    → Held (lookup variables (name_at trade.names.items slot))
    (slot_domain (after_slot_events (take count (trees_of trade)) (zero_domains trade.names.items)) slot)

-- each line of what is said holds in every run
pub record ExplainedDomainsHold : Type 0 where
  pub shown : EndsAreShown
  pub hold : ShownDomainsHold
