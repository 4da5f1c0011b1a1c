-- That pruned trees stand for the simplified script, and can be lowered where the trees could.
use Rattle.std.specs.Prelude.{◌≡◌, ℕ, ◌≤◌, nat_lt, Bool, IsTrue, List, [], ◌∷◌, map, length}
use Rattle.std.specs.List.{filter, list_all}
use Rattle.pay_meaning.specs.Language.{Event}
use Rattle.pay_meaning.specs.Meaning.{Variables, Fixings, meaning}
use Rattle.pay_tree.specs.Owned.{StepsTree, EventTree, spelled_steps, spelled_event, steps_places}
use Rattle.pay_visit.specs.Rewriting.{rewritten_steps}
use Rattle.pay_passes.specs.declared.trade.Trade.{Trade}
use Rattle.pay_passes.specs.Changes.{filled_steps}
use Rattle.pay_passes.specs.Trades.{IsGood, trees_of}
use Rattle.pay_runs.specs.Slots.{steps_within}
use Rattle.pay_runs.specs.RunLaws.{AreApart}
use Rattle.pay_code.specs.Filled.{IsEachOnce, AreFilled}
use Rattle.pay_code.specs.Flat.{flat_code}
use Rattle.pay_code.specs.Bounds.{legs_in, pays_in}
use Rattle.pay_code.specs.Programs.{CanBeLowered}
use Rattle.pay_facts.specs.Facts.{Domains}
use Rattle.pay_facts.specs.Holding.{HoldValues, AreFixings}
use Rattle.pay_facts.specs.FactLaws.{AreDomains}
use Rattle.pay_facts.specs.Reached.{steps_parts}
use Rattle.pay_facts.specs.SlotFacts.{SlotDomains, after_steps}
use Rattle.pay_facts.specs.SlotLaws.{DomainsStandFor}
use Rattle.pay_analysis.specs.declared.marks.Mark.{Mark}
use Rattle.pay_simplified.specs.Simplified.{simple_body, simplified}
use Rattle.pay_simplified.specs.Pruning.{pruning, pruned_steps, folded_event, filled_event, pruned}

-- Steps whose places are distinct, pruned by their own marks, stand for the simplified body of what they stand for: where no name is there twice, and
-- the variables are among the names.
abbrev pub PrunedStepsAreSimple : Type 0
PrunedStepsAreSimple = (names legs : List (List ℕ)) (steps : StepsTree) (slots : SlotDomains) (domains : Domains) (known : Bool) (event : Event)
    → AreApart names → IsTrue (steps_within (length names) steps) → IsEachOnce (steps_places steps) → DomainsStandFor names slots domains
    → spelled_steps names legs (pruned_steps steps slots known) ≡ simple_body (spelled_steps names legs steps) domains known event

-- the variables of steps are among so many, and no place is there twice
pub record CanBePruned (variables : ℕ) (steps : StepsTree) : Type 0 where
  pub within : IsTrue (steps_within variables steps)
  pub places : IsEachOnce (steps_places steps)

-- the same of the steps of each event
abbrev pub AllCanBePruned : ℕ → List EventTree → Type 0
AllCanBePruned variables [] = Unit {0}
AllCanBePruned variables (event ∷ rest) = CanBePruned variables event.steps × AllCanBePruned variables rest

-- Events pruned by number from the raws of the variables stand for the simplified script of what they stand for.
abbrev pub PrunedIsSimplified : Type 0
PrunedIsSimplified = (names legs : List (List ℕ)) (events : List EventTree) (slots : SlotDomains) (domains : Domains)
    → AreApart names → AllCanBePruned (length names) events → DomainsStandFor names slots domains
    → map (spelled_event names legs) (pruned events slots) ≡ simplified (map (spelled_event names legs) events) domains

-- So what they stand for pays, ends and faults as before: in every run from variables of which the facts hold, under all fixings within their limit.
abbrev pub PrunedPaysTheSame : Type 0
PrunedPaysTheSame = (names legs : List (List ℕ)) (events : List EventTree) (slots : SlotDomains) (domains : Domains)
    (variables : Variables) (fixings : Fixings)
    → AreApart names → AllCanBePruned (length names) events → DomainsStandFor names slots domains
    → AreDomains domains → HoldValues domains variables → AreFixings fixings
    → meaning (map (spelled_event names legs) (pruned events slots)) variables fixings
    ≡ meaning (map (spelled_event names legs) events) variables fixings

-- The events of a good trade can be pruned, folded or not, whichever of them are kept; and their choices are filled.
pub record GoodTradesCanBePruned : Type 0 where
  pub plain : (trade : Trade) (keep : EventTree → Bool) → IsGood trade
      → AllCanBePruned (length trade.names.items) (map filled_event (filter keep (trees_of trade)))
      × AreFilled (map filled_event (filter keep (trees_of trade)))
  pub folded : (trade : Trade) (keep : EventTree → Bool) → IsGood trade
      → AllCanBePruned (length trade.names.items) (map filled_event (map folded_event (filter keep (trees_of trade))))
      × AreFilled (map filled_event (map folded_event (filter keep (trees_of trade))))

-- the legs of the code of events are among so many
abbrev pub HaveOwnLegs : ℕ → List EventTree → Type 0
HaveOwnLegs legs events = IsTrue (list_all (λ leg. nat_lt leg legs) (legs_in (flat_code events)))

-- Pruned events whose choices are filled again can be lowered where the events could; their payments are on the same legs, and no more. No place is
-- there twice in pruned steps where none was before, whatever their marks.
pub record PrunedCanBeLowered : Type 0 where
  pub lowered : (events : List EventTree) (slots : SlotDomains) (variables : ℕ) → CanBeLowered events variables
      → CanBeLowered (map filled_event (pruned events slots)) variables
  pub legs : (events : List EventTree) (slots : SlotDomains) (legs : ℕ) → HaveOwnLegs legs events
      → HaveOwnLegs legs (map filled_event (pruned events slots))
  pub pays : (events : List EventTree) (slots : SlotDomains)
      → pays_in (flat_code (map filled_event (pruned events slots))) ≤ pays_in (flat_code events)
  pub places : (marks : ℕ → Mark) (steps : StepsTree) → IsEachOnce (steps_places steps)
      → IsEachOnce (steps_places (rewritten_steps (pruning marks) steps))

-- Filling the choices of steps, before they are pruned or afterwards, changes neither their marks nor what they stand for.
pub record FillingKeepsPruned : Type 0 where
  pub parts : (steps : StepsTree) (slots : SlotDomains) (known : Bool) → steps_parts (filled_steps steps) slots known ≡ steps_parts steps slots known
  pub facts : (steps : StepsTree) (slots : SlotDomains) (known : Bool) → after_steps (filled_steps steps) slots known ≡ after_steps steps slots known
  pub before : (names legs : List (List ℕ)) (events : List EventTree) (slots : SlotDomains)
      → map (spelled_event names legs) (pruned (map filled_event events) slots) ≡ map (spelled_event names legs) (pruned events slots)
  pub afterwards : (names legs : List (List ℕ)) (events : List EventTree)
      → map (spelled_event names legs) (map filled_event events) ≡ map (spelled_event names legs) events
