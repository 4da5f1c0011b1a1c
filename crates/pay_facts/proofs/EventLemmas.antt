-- Before each event of a script, the parts that are evaluated are reached.
use Rattle.std.proofs.Common.{◌≡◌, true, false, map, subst}
use Rattle.pay_meaning.specs.Meaning.{fixing_at}
use Rattle.pay_tree.specs.Owned.{spelled_event}
use Rattle.pay_facts.specs.After.{after_events}
use Rattle.pay_facts.specs.Holding.{HoldValues}
use Rattle.pay_facts.specs.FactLaws.{HoldAtEnd}
use Rattle.pay_facts.specs.VisitLaws.{VisitsAreReached, EachEventIsReached}
use Rattle.pay_facts.proofs.RangeLemmas.{ranges-sound}
use Rattle.pay_facts.proofs.DecisionLemmas.{decisions-sound}
use Rattle.pay_facts.proofs.AfterLemmas.{facts-hold, hold-in-runs, domains-stay}
use Rattle.pay_facts.proofs.VisitLemmas.{Sound, visits_reached}

pub visits_are_reached : VisitsAreReached
visits_are_reached =
    let sound : Sound = record { ranges = ranges-sound; decisions = decisions-sound; facts = facts-hold; stay = domains-stay } in
    visits_reached sound

pub each_event_is_reached : EachEventIsReached
each_event_is_reached names earlier event slots domains start variables fixings apart within same are hold fixed ends =
    let before = map (spelled_event names.variables names.legs) earlier in
    let at = spelled_event names.variables names.legs event in
    let values : HoldValues (after_events before domains) variables =
    subst (HoldAtEnd (after_events before domains)) ends (hold-in-runs before domains start fixings are hold fixed)
    in
    visits_are_reached names event.steps slots (after_events before domains) false at variables (fixing_at fixings event.date) apart within same
    (domains-stay.of_events before domains are)
    (record { values = values; spot = λ k. let wrong : false ≡ true = k in absurd cc; limits = fixed at })
