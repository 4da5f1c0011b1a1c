-- Each part that a run evaluates is reached, with facts that it fits.
use Rattle.std.proofs.Common.{ℕ, ℤ, Bool, [], length, Option, Result, Ok, Err, IsTrue, refl, sym, subst}
use Rattle.std.proofs.lemmas.Bool.{and_parts}
use Rattle.pay_meaning.specs.declared.fault.FaultKind.{FaultKind}
use Rattle.pay_meaning.specs.Language.{Statement, done, next, Event}
use Rattle.pay_meaning.specs.Meaning.{Variables, Effect, followed_by, value, truth, effect_of, effect}
use Rattle.pay_tree.specs.Owned.{NumberTree, literal_at, slot_at, spot_at, unary_at, binary_at, TestTree, truth_at, compare_at, not_at, and_at, or_at}
use Rattle.pay_tree.specs.Owned.{StepTree, assigning, paying, choosing, grouping, StepsTree, no_steps, step_then}
use Rattle.pay_tree.specs.Owned.{spelled_number, spelled_test, spelled_step}
use Rattle.pay_runs.specs.Slots.{number_within, test_within, step_within, steps_within}
use Rattle.pay_runs.specs.RunLaws.{AreApart}
use Rattle.pay_facts.specs.Facts.{Domains, Facts}
use Rattle.pay_facts.specs.After.{after_one}
use Rattle.pay_facts.specs.FactLaws.{AreDomains, RangesAreSound, DecisionsAreSound, FactsHoldAfter, DomainsStay}
use Rattle.pay_facts.specs.Holding.{Hold, IsKnown, InRange, IsDecided, HoldAfter, at_fixing}
use Rattle.pay_facts.specs.SlotFacts.{SlotDomains, range_by_slots, decide_by_slots, after_step}
use Rattle.pay_facts.specs.SlotLaws.{DomainsStandFor, FactsStandFor}
use Rattle.pay_facts.specs.Reached.{number_parts, own_number, test_parts, own_test, step_parts, steps_parts}
use Rattle.pay_facts.specs.Visits.{Names, number_visits, number_itself, test_visits, test_itself, step_visits, steps_visits, unless_fault, on_true, on_false}
use Rattle.pay_facts.specs.VisitLaws.{here, AllReached, VisitsAreReached}
use Rattle.pay_facts.proofs.SlotRangeLemmas.{range_same, decision_same}
use Rattle.pay_facts.proofs.SlotFactLemmas.{step_same}
use Rattle.pay_facts.proofs.ReachedLemmas.{then_reached, number_then, and_then, or_then, branch_reached, onward_reached}

-- the laws of facts that are used here
pub record Sound : Type 0 where
  pub ranges : RangesAreSound
  pub decisions : DecisionsAreSound
  pub facts : FactsHoldAfter
  pub stay : DomainsStay

-- facts of an event by number and by name, which hold of the variables of a run
pub record Stands (names : Names) (slots : SlotDomains) (domains : Domains) (variables : Variables) (fixing : Option ℤ) : Type 0 where
  pub same : DomainsStandFor names.variables slots domains
  pub are : AreDomains domains
  pub hold : (known : Bool) → IsKnown known fixing → Hold domains known variables fixing

-- the value of a number fits its range
number_fits : Sound → (names : Names) (slots : SlotDomains) (domains : Domains) (event : Event) (variables : Variables) (fixing : Option ℤ)
    → Stands names slots domains variables fixing → (number : NumberTree) → IsTrue (number_within (length names.variables) number) → (known : Bool)
    → IsKnown known fixing
    → InRange fixing (range_by_slots number slots known) (value (spelled_number names.variables number) variables (at_fixing event fixing))
number_fits sound names slots domains event variables fixing at number within known k =
    subst (λ r. InRange fixing r (value (spelled_number names.variables number) variables (at_fixing event fixing)))
    (sym (range_same names.variables slots domains event at.same number within known))
    (sound.ranges (spelled_number names.variables number) domains known event variables fixing at.are (at.hold known k))

-- the truth of a test fits its decision
test_fits : Sound → (names : Names) (slots : SlotDomains) (domains : Domains) (event : Event) (variables : Variables) (fixing : Option ℤ)
    → Stands names slots domains variables fixing → (test : TestTree) → IsTrue (test_within (length names.variables) test) → (known : Bool)
    → IsKnown known fixing
    → IsDecided fixing (decide_by_slots test slots known) (truth (spelled_test names.variables test) variables (at_fixing event fixing))
test_fits sound names slots domains event variables fixing at test within known k =
    subst (λ d. IsDecided fixing d (truth (spelled_test names.variables test) variables (at_fixing event fixing)))
    (sym (decision_same names.variables slots domains event at.same test within known))
    (sound.decisions (spelled_test names.variables test) domains known event variables fixing at.are (at.hold known k))

-- a number itself is reached, and a test itself
own_number_reached : Sound → (names : Names) (slots : SlotDomains) (domains : Domains) (event : Event) (variables : Variables) (fixing : Option ℤ)
    → Stands names slots domains variables fixing → (id : ℕ) (number : NumberTree) → IsTrue (number_within (length names.variables) number)
    → (known : Bool) → IsKnown known fixing
    → AllReached fixing (own_number number slots known id) (number_itself names number variables (at_fixing event fixing) id)
own_number_reached sound names slots domains event variables fixing at id number within known k =
    (here refl (number_fits sound names slots domains event variables fixing at number within known k), tt)

own_test_reached : Sound → (names : Names) (slots : SlotDomains) (domains : Domains) (event : Event) (variables : Variables) (fixing : Option ℤ)
    → Stands names slots domains variables fixing → (id : ℕ) (test : TestTree) → IsTrue (test_within (length names.variables) test)
    → (known : Bool) → IsKnown known fixing
    → AllReached fixing (own_test test slots known id) (test_itself names test variables (at_fixing event fixing) id)
own_test_reached sound names slots domains event variables fixing at id test within known k =
    (here refl (test_fits sound names slots domains event variables fixing at test within known k), tt)

-- the parts of a number that are evaluated are reached
number_reached : Sound → (names : Names) (slots : SlotDomains) (domains : Domains) (event : Event) (variables : Variables) (fixing : Option ℤ)
    → Stands names slots domains variables fixing → (number : NumberTree) → IsTrue (number_within (length names.variables) number) → (known : Bool)
    → IsKnown known fixing → AllReached fixing (number_parts number slots known) (number_visits names number variables (at_fixing event fixing))
number_reached sound names slots domains event variables fixing at (literal_at id raw) within known k =
    own_number_reached sound names slots domains event variables fixing at id (literal_at id raw) within known k
number_reached sound names slots domains event variables fixing at (slot_at id slot) within known k =
    own_number_reached sound names slots domains event variables fixing at id (slot_at id slot) within known k
number_reached sound names slots domains event variables fixing at (spot_at id) within known k =
    own_number_reached sound names slots domains event variables fixing at id (spot_at id) within known k
number_reached sound names slots domains event variables fixing at (unary_at id op side) within known k =
    then_reached fixing _ _ (number_visits names side variables (at_fixing event fixing)) _
    (number_reached sound names slots domains event variables fixing at side within known k)
    (own_number_reached sound names slots domains event variables fixing at id (unary_at id op side) within known k)
number_reached sound names slots domains event variables fixing at (binary_at id op left right) within known k =
    let parts = and_parts (number_within (length names.variables) left) (number_within (length names.variables) right) within in
    let after = (range_by_slots left slots known).known in
    then_reached fixing (number_parts left slots known) _ (number_visits names left variables (at_fixing event fixing)) _
    (number_reached sound names slots domains event variables fixing at left parts.0 known k)
    (then_reached fixing (number_parts right slots after) _
    (unless_fault (value (spelled_number names.variables left) variables (at_fixing event fixing))
    (number_visits names right variables (at_fixing event fixing))) _
    (number_then fixing (range_by_slots left slots known) (value (spelled_number names.variables left) variables (at_fixing event fixing)) _ _
    (number_fits sound names slots domains event variables fixing at left parts.0 known k)
    (number_reached sound names slots domains event variables fixing at right parts.1 after))
    (own_number_reached sound names slots domains event variables fixing at id (binary_at id op left right) within known k))

-- the parts of a test that are evaluated are reached
test_reached : Sound → (names : Names) (slots : SlotDomains) (domains : Domains) (event : Event) (variables : Variables) (fixing : Option ℤ)
    → Stands names slots domains variables fixing → (test : TestTree) → IsTrue (test_within (length names.variables) test) → (known : Bool)
    → IsKnown known fixing → AllReached fixing (test_parts test slots known) (test_visits names test variables (at_fixing event fixing))
test_reached sound names slots domains event variables fixing at (truth_at id told answer) within known k =
    own_test_reached sound names slots domains event variables fixing at id (truth_at id told answer) within known k
test_reached sound names slots domains event variables fixing at (compare_at id told op left right smooth) within known k =
    let parts = and_parts (number_within (length names.variables) left) (number_within (length names.variables) right) within in
    let after = (range_by_slots left slots known).known in
    then_reached fixing (number_parts left slots known) _ (number_visits names left variables (at_fixing event fixing)) _
    (number_reached sound names slots domains event variables fixing at left parts.0 known k)
    (then_reached fixing (number_parts right slots after) _
    (unless_fault (value (spelled_number names.variables left) variables (at_fixing event fixing))
    (number_visits names right variables (at_fixing event fixing))) _
    (number_then fixing (range_by_slots left slots known) (value (spelled_number names.variables left) variables (at_fixing event fixing)) _ _
    (number_fits sound names slots domains event variables fixing at left parts.0 known k)
    (number_reached sound names slots domains event variables fixing at right parts.1 after))
    (own_test_reached sound names slots domains event variables fixing at id (compare_at id told op left right smooth) within known k))
test_reached sound names slots domains event variables fixing at (not_at id told side) within known k =
    then_reached fixing _ _ (test_visits names side variables (at_fixing event fixing)) _
    (test_reached sound names slots domains event variables fixing at side within known k)
    (own_test_reached sound names slots domains event variables fixing at id (not_at id told side) within known k)
test_reached sound names slots domains event variables fixing at (and_at id told left right) within known k =
    let parts = and_parts (test_within (length names.variables) left) (test_within (length names.variables) right) within in
    let first = decide_by_slots left slots known in
    let u = truth (spelled_test names.variables left) variables (at_fixing event fixing) in
    then_reached fixing (test_parts left slots known) _ (test_visits names left variables (at_fixing event fixing)) _
    (test_reached sound names slots domains event variables fixing at left parts.0 known k)
    (then_reached fixing _ _ (on_true u (test_visits names right variables (at_fixing event fixing))) _
    (and_then fixing first.answer first.flags first.known u (test_parts right slots first.known) (test_visits names right variables (at_fixing event fixing))
    (test_fits sound names slots domains event variables fixing at left parts.0 known k)
    (test_reached sound names slots domains event variables fixing at right parts.1 first.known))
    (own_test_reached sound names slots domains event variables fixing at id (and_at id told left right) within known k))
test_reached sound names slots domains event variables fixing at (or_at id told left right) within known k =
    let parts = and_parts (test_within (length names.variables) left) (test_within (length names.variables) right) within in
    let first = decide_by_slots left slots known in
    let u = truth (spelled_test names.variables left) variables (at_fixing event fixing) in
    then_reached fixing (test_parts left slots known) _ (test_visits names left variables (at_fixing event fixing)) _
    (test_reached sound names slots domains event variables fixing at left parts.0 known k)
    (then_reached fixing _ _ (on_false u (test_visits names right variables (at_fixing event fixing))) _
    (or_then fixing first.answer first.flags first.known u (test_parts right slots first.known) (test_visits names right variables (at_fixing event fixing))
    (test_fits sound names slots domains event variables fixing at left parts.0 known k)
    (test_reached sound names slots domains event variables fixing at right parts.1 first.known))
    (own_test_reached sound names slots domains event variables fixing at id (or_at id told left right) within known k))

-- the facts hold after one statement
one_by_body : (fixing : Option ℤ) (facts : Facts) (e : Result Effect FaultKind)
    → HoldAfter fixing facts (followed_by e (λ variables. Ok (record { variables = variables; payments = [] }))) → HoldAfter fixing facts e
one_by_body fixing facts (Err fault) h = h
one_by_body fixing facts (Ok effect) h = h

one_holds : Sound → (statement : Statement) (domains : Domains) (known : Bool) (event : Event) (variables : Variables) (fixing : Option ℤ)
    → AreDomains domains → Hold domains known variables fixing
    → HoldAfter fixing (after_one statement domains known event) (effect_of statement variables (at_fixing event fixing))
one_holds sound statement domains known event variables fixing are hold =
    one_by_body fixing (after_one statement domains known event) (effect_of statement variables (at_fixing event fixing))
    (sound.facts (next statement done) domains known event variables fixing are hold)

-- facts that hold, with the fixing as it is elsewhere
stands : (names : Names) (slots : SlotDomains) (domains : Domains) (known : Bool) (variables : Variables) (fixing : Option ℤ)
    → DomainsStandFor names.variables slots domains → AreDomains domains → Hold domains known variables fixing
    → Stands names slots domains variables fixing
stands names slots domains known variables fixing same are hold = record {
  same = same;
  are = are;
  hold = λ after k. record { values = hold.values; spot = k; limits = hold.limits };
}

mutual
  step_reached : Sound → (names : Names) (event : Event) (fixing : Option ℤ) → AreApart names.variables → (step : StepTree)
      → IsTrue (step_within (length names.variables) step) → (slots : SlotDomains) (domains : Domains) (known : Bool) (variables : Variables)
      → DomainsStandFor names.variables slots domains → AreDomains domains → Hold domains known variables fixing
      → AllReached fixing (step_parts step slots known) (step_visits names step variables (at_fixing event fixing))
  step_reached sound names event fixing apart (assigning slot number) within slots domains known variables same are hold =
      let parts = and_parts _ (number_within (length names.variables) number) within in
      number_reached sound names slots domains event variables fixing (stands names slots domains known variables fixing same are hold) number parts.1
      known hold.spot
  step_reached sound names event fixing apart (paying leg amount) within slots domains known variables same are hold =
      number_reached sound names slots domains event variables fixing (stands names slots domains known variables fixing same are hold) amount within
      known hold.spot
  step_reached sound names event fixing apart (choosing test yes_part no_part changes) within slots domains known variables same are hold =
      let parts = and_parts (test_within (length names.variables) test) _ within in
      let branches = and_parts (steps_within (length names.variables) yes_part) (steps_within (length names.variables) no_part) parts.1 in
      let at = stands names slots domains known variables fixing same are hold in
      let first = decide_by_slots test slots known in
      let u = truth (spelled_test names.variables test) variables (at_fixing event fixing) in
      then_reached fixing (test_parts test slots known) _ (test_visits names test variables (at_fixing event fixing)) _
      (test_reached sound names slots domains event variables fixing at test parts.0 known hold.spot)
      (branch_reached fixing first.answer first.flags first.known u (steps_parts yes_part slots first.known) (steps_parts no_part slots first.known) _ _
      (test_fits sound names slots domains event variables fixing at test parts.0 known hold.spot)
      (λ k. steps_reached sound names event fixing apart yes_part branches.0 slots domains first.known variables same are (at.hold first.known k))
      (λ k. steps_reached sound names event fixing apart no_part branches.1 slots domains first.known variables same are (at.hold first.known k)))
  step_reached sound names event fixing apart (grouping steps) within slots domains known variables same are hold =
      steps_reached sound names event fixing apart steps within slots domains known variables same are hold

  -- the parts of steps that are evaluated are reached
  steps_reached : Sound → (names : Names) (event : Event) (fixing : Option ℤ) → AreApart names.variables → (steps : StepsTree)
      → IsTrue (steps_within (length names.variables) steps) → (slots : SlotDomains) (domains : Domains) (known : Bool) (variables : Variables)
      → DomainsStandFor names.variables slots domains → AreDomains domains → Hold domains known variables fixing
      → AllReached fixing (steps_parts steps slots known) (steps_visits names steps variables (at_fixing event fixing))
  steps_reached sound names event fixing apart no_steps within slots domains known variables same are hold = tt
  steps_reached sound names event fixing apart (step_then step rest) within slots domains known variables same are hold =
      let parts = and_parts (step_within (length names.variables) step) (steps_within (length names.variables) rest) within in
      let statement = spelled_step names.variables names.legs step in
      let between = after_one statement domains known event in
      let stand : FactsStandFor names.variables (after_step step slots known) between =
      step_same names.variables names.legs event apart step parts.0 slots domains same known
      in
      then_reached fixing (step_parts step slots known) _ (step_visits names step variables (at_fixing event fixing)) _
      (step_reached sound names event fixing apart step parts.0 slots domains known variables same are hold)
      (onward_reached fixing between (effect_of statement variables (at_fixing event fixing)) _
      (λ after. steps_visits names rest after (at_fixing event fixing))
      (one_holds sound statement domains known event variables fixing are hold)
      (λ after held. steps_reached sound names event fixing apart rest parts.1 (after_step step slots known).domains between.domains
      (after_step step slots known).known after stand.domains (sound.stay.of_after (next statement done) domains known event are)
      (rw stand.known held)))

pub visits_reached : Sound → VisitsAreReached
visits_reached sound names steps slots domains known event variables fixing apart within same are hold =
    steps_reached sound names event fixing apart steps within slots domains known variables same are hold
