-- That the facts of each part hold in every run that evaluates it.
use Rattle.std.specs.Prelude.{◌≡◌, ℤ, Bool, false, IsTrue, List, [], ◌∷◌, map, length, Option}
use Rattle.pay_meaning.specs.Language.{Event}
use Rattle.pay_meaning.specs.Meaning.{Variables, Fixings, fixing_at, moment_of, finished, meaning}
use Rattle.pay_tree.specs.Owned.{StepsTree, EventTree, spelled_event}
use Rattle.pay_runs.specs.Slots.{steps_within}
use Rattle.pay_runs.specs.RunLaws.{AreApart}
use Rattle.pay_facts.specs.Facts.{Domains}
use Rattle.pay_facts.specs.After.{after_events}
use Rattle.pay_facts.specs.FactLaws.{AreDomains}
use Rattle.pay_facts.specs.Holding.{Hold, HoldValues, InRange, IsDecided, AreFixings, at_fixing}
use Rattle.pay_facts.specs.SlotFacts.{SlotDomains}
use Rattle.pay_facts.specs.SlotLaws.{DomainsStandFor}
use Rattle.pay_facts.specs.Reached.{Found, number_found, test_found, Part, steps_parts}
use Rattle.pay_facts.specs.Visits.{Gave, number_gave, test_gave, Visit, Names, steps_visits}

-- what a part gave is what it can give: a value of its range, its decided truth, or a fault that is flagged
abbrev pub Fits : Option ℤ → Found → Gave → Type 0
Fits fixing (number_found range) (number_gave value) = InRange fixing range value
Fits fixing (test_found decision) (test_gave truth) = IsDecided fixing decision truth
Fits fixing (number_found range) (test_gave truth) = ⊥
Fits fixing (test_found decision) (number_gave value) = ⊥

-- a part is among those that are reached, with facts that it fits
pub data IsReached (fixing : Option ℤ) (visit : Visit) : List Part → Type 0 where
  here : {part : Part} {rest : List Part} → visit.id ≡ part.id → Fits fixing part.found visit.gave → IsReached fixing visit (part ∷ rest)
  there : {part : Part} {rest : List Part} → IsReached fixing visit rest → IsReached fixing visit (part ∷ rest)

-- each part that is evaluated is reached, with facts that it fits
abbrev pub AllReached : Option ℤ → List Part → List Visit → Type 0
AllReached fixing parts [] = Unit {0}
AllReached fixing parts (visit ∷ rest) = IsReached fixing visit parts × AllReached fixing parts rest

-- Under facts that hold, each part of steps that a run evaluates is reached, with facts that it fits: so a part that is not reached is evaluated by no
-- such run.
abbrev pub VisitsAreReached : Type 0
VisitsAreReached = (names : Names) (steps : StepsTree) (slots : SlotDomains) (domains : Domains) (known : Bool) (event : Event) (variables : Variables)
    (fixing : Option ℤ) → AreApart names.variables → IsTrue (steps_within (length names.variables) steps)
    → DomainsStandFor names.variables slots domains → AreDomains domains → Hold domains known variables fixing
    → AllReached fixing (steps_parts steps slots known) (steps_visits names steps variables (at_fixing event fixing))

-- From variables of which the facts hold, before each event of a script: in every run that comes so far, under all fixings within their limit, each part
-- of the event that is evaluated is reached, with facts that it fits. The facts are those after the earlier events.
abbrev pub EachEventIsReached : Type 0
EachEventIsReached = (names : Names) (earlier : List EventTree) (event : EventTree) (slots : SlotDomains) (domains : Domains)
    (start variables : Variables) (fixings : Fixings)
    → AreApart names.variables → IsTrue (steps_within (length names.variables) event.steps)
    → DomainsStandFor names.variables slots (after_events (map (spelled_event names.variables names.legs) earlier) domains)
    → AreDomains domains → HoldValues domains start → AreFixings fixings
    → (meaning (map (spelled_event names.variables names.legs) earlier) start fixings).end ≡ finished variables
    → AllReached (fixing_at fixings event.date) (steps_parts event.steps slots false)
    (steps_visits names event.steps variables (moment_of (spelled_event names.variables names.legs event) fixings))
