-- Steps and events that are pruned by their own marks stand for the simplified ones.
use Rattle.std.proofs.Common.{◌≡◌, ℕ, Bool, true, false, List, [], ◌∷◌, map, length, Option, Some, None, IsTrue, refl, sym, ap, ◌∙◌, inl, inr}
use Rattle.std.proofs.lemmas.Bool.{and_parts}
use Rattle.pay_meaning.specs.Language.{Condition, assign, pay, group, Body, next, Event}
use Rattle.pay_meaning.specs.Meaning.{meaning}
use Rattle.pay_tree.specs.Owned.{TestTree, StepTree, assigning, paying, choosing, grouping, StepsTree, no_steps, step_then, name_at}
use Rattle.pay_tree.specs.Owned.{spelled_test, spelled_step, spelled_steps, spelled_event}
use Rattle.pay_visit.specs.Rewriting.{rewritten_test, rewritten_step, rewritten_steps}
use Rattle.pay_runs.specs.Slots.{number_within, test_within, step_within, steps_within}
use Rattle.pay_runs.specs.RunLaws.{AreApart}
use Rattle.pay_facts.specs.Facts.{Domains, Facts}
use Rattle.pay_facts.specs.Decisions.{Decision, decide}
use Rattle.pay_facts.specs.After.{after_one, after, after_event}
use Rattle.pay_facts.specs.Reached.{Part, test_parts, branch_parts, step_parts, steps_parts}
use Rattle.pay_facts.specs.SlotFacts.{SlotDomains, SlotFacts, decide_by_slots, after_step, after_steps}
use Rattle.pay_facts.specs.SlotLaws.{DomainsStandFor, FactsStandFor}
use Rattle.pay_facts.proofs.SlotRangeLemmas.{decision_same}
use Rattle.pay_facts.proofs.SlotFactLemmas.{step_same, steps_same}
use Rattle.pay_analysis.specs.declared.marks.Mark.{Mark}
use Rattle.pay_analysis.specs.MarkLaws.{MarksAreOwn}
use Rattle.pay_simplified.specs.Simplified.{sure_of, simple_condition, choose_form, simple_choose, simple_statement, simple_body}
use Rattle.pay_simplified.specs.Pruning.{sure_in, literal_in, choice_form, pruned_step, pruning, marks_of}
use Rattle.pay_simplified.specs.PruningLaws.{PrunedStepsAreSimple, PrunedIsSimplified, PrunedPaysTheSame}
use Rattle.pay_simplified.proofs.FormLemmas.{Shows, decided_shows}
use Rattle.pay_simplified.proofs.MarkedLemmas.{AreMarked, marked_left, marked_right, literal_spelled, sure_spelled, number_pruned, test_pruned}
use Rattle.pay_simplified.proofs.EffectLemmas.{simplified_pays_the_same}

-- a choice stands for what its form makes of an `if`
form_spelled : (names legs : List (List ℕ)) (literal told : Option Bool) (test : TestTree) (yes_part no_part : StepsTree) (changes : List ℕ)
    → spelled_step names legs (choice_form literal told test yes_part no_part changes)
    ≡ choose_form literal told (spelled_test names test) (spelled_steps names legs yes_part) (spelled_steps names legs no_part)
form_spelled names legs (Some true) told test yes_part no_part changes = refl
form_spelled names legs (Some false) told test yes_part no_part changes = refl
form_spelled names legs None (Some true) test yes_part no_part changes = refl
form_spelled names legs None (Some false) test yes_part no_part changes = refl
form_spelled names legs None None test yes_part no_part changes = refl

pub choice_spelled : (names legs : List (List ℕ)) (test : TestTree) (yes_part no_part : StepsTree) (changes : List ℕ)
    → spelled_step names legs (pruned_step (choosing test yes_part no_part changes))
    ≡ simple_choose (spelled_test names test) (spelled_steps names legs yes_part) (spelled_steps names legs no_part)
choice_spelled names legs test yes_part no_part changes =
    form_spelled names legs (literal_in test) (sure_in test) test yes_part no_part changes
    ∙ (λ i. choose_form (literal_spelled names test i) (sure_spelled names test i) (spelled_test names test) (spelled_steps names legs yes_part)
    (spelled_steps names legs no_part))

-- a branch that is not reached is dropped
yes_kept : (condition : Condition) (yes_part no_part other : Body) → Shows condition true
    → simple_choose condition yes_part no_part ≡ simple_choose condition yes_part other
yes_kept condition yes_part no_part other (inl is) =
    (λ i. choose_form (is i) (sure_of condition) condition yes_part no_part) ∙ sym (λ i. choose_form (is i) (sure_of condition) condition yes_part other)
yes_kept condition yes_part no_part other (inr is) =
    (λ i. choose_form (is.0 i) (is.1 i) condition yes_part no_part) ∙ sym (λ i. choose_form (is.0 i) (is.1 i) condition yes_part other)

no_kept : (condition : Condition) (yes_part other no_part : Body) → Shows condition false
    → simple_choose condition yes_part no_part ≡ simple_choose condition other no_part
no_kept condition yes_part other no_part (inl is) =
    (λ i. choose_form (is i) (sure_of condition) condition yes_part no_part) ∙ sym (λ i. choose_form (is i) (sure_of condition) condition other no_part)
no_kept condition yes_part other no_part (inr is) =
    (λ i. choose_form (is.0 i) (is.1 i) condition yes_part no_part) ∙ sym (λ i. choose_form (is.0 i) (is.1 i) condition other no_part)

-- a branch matters where it is reached
branches_reached : (marks : ℕ → Mark) (answer : Option Bool) (first second : List Part) (condition : Condition) (a b c e : Body)
    → ((shown : Bool) → answer ≡ Some shown → Shows condition shown) → AreMarked marks (branch_parts answer first second)
    → (AreMarked marks first → a ≡ b) → (AreMarked marks second → c ≡ e) → simple_choose condition a c ≡ simple_choose condition b e
branches_reached marks None first second condition a b c e shows marked yes_same no_same =
    let yes_path = yes_same (marked_left marks first second marked) in
    let no_path = no_same (marked_right marks first second marked) in
    λ i. simple_choose condition (yes_path i) (no_path i)
branches_reached marks (Some true) first second condition a b c e shows marked yes_same no_same =
    ap (λ body. simple_choose condition body c) (yes_same marked) ∙ yes_kept condition b c e (shows true refl)
branches_reached marks (Some false) first second condition a b c e shows marked yes_same no_same =
    ap (simple_choose condition a) (no_same marked) ∙ no_kept condition a b e (shows false refl)

module _ (names legs : List (List ℕ)) (event : Event) (apart : AreApart names) (marks : ℕ → Mark) where
  mutual
    step-pruned : (step : StepTree) → IsTrue (step_within (length names) step) → (slots : SlotDomains) (domains : Domains)
        → DomainsStandFor names slots domains → (known : Bool) → AreMarked marks (step_parts step slots known)
        → spelled_step names legs (rewritten_step (pruning marks) step) ≡ simple_statement (spelled_step names legs step) domains known event
    step-pruned (assigning slot number) within slots domains stand known marked =
        let parts = and_parts _ (number_within (length names) number) within in
        ap (assign (name_at names slot)) (number_pruned names slots domains event stand marks number parts.1 known marked)
    step-pruned (paying leg amount) within slots domains stand known marked =
        ap (pay (name_at legs leg)) (number_pruned names slots domains event stand marks amount within known marked)
    step-pruned (choosing test yes_part no_part changes) within slots domains stand known marked =
        let parts = and_parts (test_within (length names) test) _ within in
        let branches = and_parts (steps_within (length names) yes_part) (steps_within (length names) no_part) parts.1 in
        let d : Decision = decide_by_slots test slots known in
        let same : d ≡ decide (spelled_test names test) domains known event = decision_same names slots domains event stand test parts.0 known in
        let first : List Part = steps_parts yes_part slots d.known in
        let second : List Part = steps_parts no_part slots d.known in
        let made : Condition = simple_condition (spelled_test names test) domains known event in
        choice_spelled names legs (rewritten_test (pruning marks) test) (rewritten_steps (pruning marks) yes_part) (rewritten_steps (pruning marks) no_part)
        changes
        ∙ ap (λ c. simple_choose c (spelled_steps names legs (rewritten_steps (pruning marks) yes_part))
        (spelled_steps names legs (rewritten_steps (pruning marks) no_part)))
        (test_pruned names slots domains event stand marks test parts.0 known
        (marked_left marks (test_parts test slots known) (branch_parts d.answer first second) marked))
        ∙ branches_reached marks d.answer first second made _ _ _ _
        (λ shown is. decided_shows (spelled_test names test) domains known event shown (sym (ap (λ e. e.answer) same) ∙ is))
        (marked_right marks (test_parts test slots known) (branch_parts d.answer first second) marked)
        (λ here. steps-pruned yes_part branches.0 slots domains stand d.known here
        ∙ ap (λ e. simple_body (spelled_steps names legs yes_part) domains e.known event) same)
        (λ here. steps-pruned no_part branches.1 slots domains stand d.known here
        ∙ ap (λ e. simple_body (spelled_steps names legs no_part) domains e.known event) same)
    step-pruned (grouping steps) within slots domains stand known marked =
        ap group (steps-pruned steps within slots domains stand known marked)

    -- steps whose parts have their own marks
    pub steps-pruned : (steps : StepsTree) → IsTrue (steps_within (length names) steps) → (slots : SlotDomains) (domains : Domains)
        → DomainsStandFor names slots domains → (known : Bool) → AreMarked marks (steps_parts steps slots known)
        → spelled_steps names legs (rewritten_steps (pruning marks) steps) ≡ simple_body (spelled_steps names legs steps) domains known event
    steps-pruned no_steps within slots domains stand known marked = refl
    steps-pruned (step_then step rest) within slots domains stand known marked =
        let parts = and_parts (step_within (length names) step) (steps_within (length names) rest) within in
        let found : SlotFacts = after_step step slots known in
        let between : Facts = after_one (spelled_step names legs step) domains known event in
        let both : FactsStandFor names found between = step_same names legs event apart step parts.0 slots domains stand known in
        let first : List Part = step_parts step slots known in
        let second : List Part = steps_parts rest found.domains found.known in
        let here = step-pruned step parts.0 slots domains stand known (marked_left marks first second marked) in
        let later = steps-pruned rest parts.1 found.domains between.domains both.domains found.known (marked_right marks first second marked)
        ∙ ap (λ k. simple_body (spelled_steps names legs rest) between.domains k event) both.known in
        λ i. next (here i) (later i)

-- steps pruned by their own marks
pub pruned_steps_simple : MarksAreOwn → PrunedStepsAreSimple
pruned_steps_simple own names legs steps slots domains known event apart within once stand =
    steps-pruned names legs event apart (marks_of steps slots known) steps within slots domains stand known
    (λ part is. own.own steps slots known part once is)

-- events pruned one after the other
pub pruned_simplified : MarksAreOwn → PrunedIsSimplified
pruned_simplified own names legs [] slots domains apart can stand = refl
pruned_simplified own names legs (event ∷ rest) slots domains apart can stand =
    let at : Event = spelled_event names legs event in
    let here = pruned_steps_simple own names legs event.steps slots domains false at apart can.0.within can.0.places stand in
    let both : FactsStandFor names (after_steps event.steps slots false) (after at.body domains false at) =
    steps_same names legs at apart event.steps can.0.within slots domains stand false in
    let later = pruned_simplified own names legs rest (after_steps event.steps slots false).domains (after_event at domains) apart can.1 both.domains in
    λ i. record { date = event.date; period = event.period; days = event.days; body = here i } ∷ later i

pub pruned_pays : MarksAreOwn → PrunedPaysTheSame
pruned_pays own names legs events slots domains variables fixings apart can stand d h f =
    ap (λ made. meaning made variables fixings) (pruned_simplified own names legs events slots domains apart can stand)
    ∙ simplified_pays_the_same.held (map (spelled_event names legs) events) domains variables fixings d h f
