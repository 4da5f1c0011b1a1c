-- Steps whose choices are filled: the same marks, facts, variables, bounds, places and payments, and what they stand for once they are pruned.
use Rattle.std.proofs.Common.{◌≡◌, ℕ, ◌<◌, ◌+◌, nat_eq, Bool, false, ◌||◌, ◌&&◌, List, [], ◌∷◌, ◌++◌, map, refl, sym, ap, ◌∙◌}
use Rattle.std.proofs.Common.{arith, inl, inr}
use Rattle.std.proofs.lemmas.Bool.{cases_Bool, eqb-true, eqb-false, eq-eqb, ne_eqb}
use Rattle.pay_meaning.specs.Language.{group, next}
use Rattle.pay_tree.specs.Assigned.{assigned_in}
use Rattle.pay_tree.specs.Owned.{TestTree, StepTree, assigning, paying, choosing, grouping, StepsTree, no_steps, step_then, EventTree, test_places}
use Rattle.pay_tree.specs.Owned.{step_places, steps_places, spelled_test, spelled_step, spelled_steps, spelled_event}
use Rattle.pay_visit.specs.Rewriting.{rewritten_test, rewritten_step, rewritten_steps}
use Rattle.pay_passes.specs.Changes.{rising, changed_by, filled_step, filled_steps}
use Rattle.pay_passes.specs.Gathering.{has}
use Rattle.pay_passes.specs.PassLaws.{AreLess}
use Rattle.pay_passes.proofs.RisingLemmas.{IsBefore, first_before, rest_less, rising_less, has_rising}
use Rattle.pay_passes.proofs.ChangesLemmas.{filled_assign, filled_spell}
use Rattle.pay_runs.specs.Slots.{test_within, step_within, steps_within}
use Rattle.pay_code.specs.Bounds.{test_parts as parts_of_test, step_parts as count_of_step, steps_parts as count_of_steps}
use Rattle.pay_code.specs.Filled.{is_among, IsEachOnce, AreChanges, IsFilled, AreFilledSteps}
use Rattle.pay_code.specs.Programs.{IsSmoothStep, AreSmoothSteps}
use Rattle.pay_facts.specs.Reached.{test_parts, branch_parts, step_parts, steps_parts}
use Rattle.pay_facts.specs.SlotFacts.{SlotDomains, decide_by_slots, after_slot_branches, after_step, after_steps}
use Rattle.pay_analysis.specs.declared.marks.Mark.{Mark}
use Rattle.pay_analysis.specs.Marks.{marked, no_marks}
use Rattle.pay_simplified.specs.Simplified.{simple_choose}
use Rattle.pay_simplified.specs.Pruning.{pruning, marks_of, pruned_steps, filled_event, pruned}
use Rattle.pay_simplified.specs.PruningLaws.{FillingKeepsPruned}
use Rattle.pay_simplified.proofs.BoundLemmas.{paid_by, paid_in}
use Rattle.pay_simplified.proofs.PrunedLemmas.{choice_spelled}

mutual
  filled_after_step : (step : StepTree) (slots : SlotDomains) (known : Bool) → after_step (filled_step step) slots known ≡ after_step step slots known
  filled_after_step (assigning slot value) slots known = refl
  filled_after_step (paying leg amount) slots known = refl
  filled_after_step (choosing test yes_part no_part changes) slots known =
      λ i. after_slot_branches (decide_by_slots test slots known).answer
      (filled_after yes_part slots (decide_by_slots test slots known).known i)
      (filled_after no_part slots (decide_by_slots test slots known).known i)
  filled_after_step (grouping steps) slots known = filled_after steps slots known

  -- the facts after filled steps
  pub filled_after : (steps : StepsTree) (slots : SlotDomains) (known : Bool) → after_steps (filled_steps steps) slots known ≡ after_steps steps slots known
  filled_after no_steps slots known = refl
  filled_after (step_then step rest) slots known =
      ap (λ facts. after_steps (filled_steps rest) facts.domains facts.known) (filled_after_step step slots known)
      ∙ filled_after rest (after_step step slots known).domains (after_step step slots known).known

mutual
  filled_found : (step : StepTree) (slots : SlotDomains) (known : Bool) → step_parts (filled_step step) slots known ≡ step_parts step slots known
  filled_found (assigning slot value) slots known = refl
  filled_found (paying leg amount) slots known = refl
  filled_found (choosing test yes_part no_part changes) slots known =
      λ i. test_parts test slots known ++ branch_parts (decide_by_slots test slots known).answer
      (all_found yes_part slots (decide_by_slots test slots known).known i)
      (all_found no_part slots (decide_by_slots test slots known).known i)
  filled_found (grouping steps) slots known = all_found steps slots known

  -- the parts of filled steps that are reached
  pub all_found : (steps : StepsTree) (slots : SlotDomains) (known : Bool) → steps_parts (filled_steps steps) slots known ≡ steps_parts steps slots known
  all_found no_steps slots known = refl
  all_found (step_then step rest) slots known =
      (λ i. filled_found step slots known i ++ steps_parts (filled_steps rest) (filled_after_step step slots known i).domains
      (filled_after_step step slots known i).known)
      ∙ ap (λ parts. step_parts step slots known ++ parts) (all_found rest (after_step step slots known).domains (after_step step slots known).known)

mutual
  filled_within_step : (count : ℕ) (step : StepTree) → step_within count (filled_step step) ≡ step_within count step
  filled_within_step count (assigning slot value) = refl
  filled_within_step count (paying leg amount) = refl
  filled_within_step count (choosing test yes_part no_part changes) =
      λ i. test_within count test && (filled_within count yes_part i && filled_within count no_part i)
  filled_within_step count (grouping steps) = filled_within count steps

  -- the variables of filled steps
  pub filled_within : (count : ℕ) (steps : StepsTree) → steps_within count (filled_steps steps) ≡ steps_within count steps
  filled_within count no_steps = refl
  filled_within count (step_then step rest) = λ i. filled_within_step count step i && filled_within count rest i

mutual
  filled_step_places : (step : StepTree) → step_places (filled_step step) ≡ step_places step
  filled_step_places (assigning slot value) = refl
  filled_step_places (paying leg amount) = refl
  filled_step_places (choosing test yes_part no_part changes) =
      λ i. test_places test ++ (filled_places yes_part i ++ filled_places no_part i)
  filled_step_places (grouping steps) = filled_places steps

  -- the places of filled steps
  pub filled_places : (steps : StepsTree) → steps_places (filled_steps steps) ≡ steps_places steps
  filled_places no_steps = refl
  filled_places (step_then step rest) = λ i. filled_step_places step i ++ filled_places rest i

mutual
  filled_step_count : (step : StepTree) → count_of_step (filled_step step) ≡ count_of_step step
  filled_step_count (assigning slot value) = refl
  filled_step_count (paying leg amount) = refl
  filled_step_count (choosing test yes_part no_part changes) =
      λ i. parts_of_test test + (1 + (filled_count yes_part i + filled_count no_part i))
  filled_step_count (grouping steps) = filled_count steps

  -- how many parts filled steps have
  pub filled_count : (steps : StepsTree) → count_of_steps (filled_steps steps) ≡ count_of_steps steps
  filled_count no_steps = refl
  filled_count (step_then step rest) = λ i. filled_step_count step i + filled_count rest i

mutual
  filled_step_smooth : (step : StepTree) → IsSmoothStep step → IsSmoothStep (filled_step step)
  filled_step_smooth (assigning slot value) h = h
  filled_step_smooth (paying leg amount) h = h
  filled_step_smooth (choosing test yes_part no_part changes) h = (h.0, (filled_smooth yes_part h.1.0, filled_smooth no_part h.1.1))
  filled_step_smooth (grouping steps) h = filled_smooth steps h

  -- the smoothings of filled steps
  pub filled_smooth : (steps : StepsTree) → AreSmoothSteps steps → AreSmoothSteps (filled_steps steps)
  filled_smooth no_steps h = h
  filled_smooth (step_then step rest) h = (filled_step_smooth step h.0, filled_smooth rest h.1)

mutual
  filled_paid_by : (step : StepTree) → paid_by (filled_step step) ≡ paid_by step
  filled_paid_by (assigning slot value) = refl
  filled_paid_by (paying leg amount) = refl
  filled_paid_by (choosing test yes_part no_part changes) = λ i. filled_paid yes_part i ++ filled_paid no_part i
  filled_paid_by (grouping steps) = filled_paid steps

  -- the legs that filled steps pay
  pub filled_paid : (steps : StepsTree) → paid_in (filled_steps steps) ≡ paid_in steps
  filled_paid no_steps = refl
  filled_paid (step_then step rest) = λ i. filled_paid_by step i ++ filled_paid rest i

turned : (a b : ℕ) → nat_eq a b ≡ nat_eq b a
turned a b = elim (cases_Bool (nat_eq b a)) [
  | inl hit ↦ eq-eqb a b (sym (eqb-true b a hit)) ∙ sym hit
  | inr miss ↦ ne_eqb a b (λ same. eqb-false b a miss (sym same)) ∙ sym miss
]

among_has : (slot : ℕ) (slots : List ℕ) → is_among slot slots ≡ has slots slot
among_has slot [] = refl
among_has slot (first ∷ rest) = λ i. turned slot first i || among_has slot rest i

later : (slot first : ℕ) (rest : List ℕ) → slot < first → IsBefore first rest → IsBefore slot rest
later slot first [] h k = tt
later slot first (second ∷ rest) h k = omega (arith, h, k)

-- a number before the first is none of those that rise
none_among : (slot : ℕ) (slots : List ℕ) → IsBefore slot slots → AreLess slots → is_among slot slots ≡ false
none_among slot [] h k = refl
none_among slot (first ∷ rest) h k =
    ap (λ b. b || is_among slot rest) (ne_eqb slot first (λ e. omega (arith, e, h)))
    ∙ none_among slot rest (later slot first rest h (first_before first rest k)) (rest_less first rest k)

-- numbers that rise are there once each
less_once : (slots : List ℕ) → AreLess slots → IsEachOnce slots
less_once [] h = tt
less_once (first ∷ rest) h = (none_among first rest (first_before first rest h) (rest_less first rest h), less_once rest (rest_less first rest h))

changes_filled : (yes_part no_part : StepsTree) → AreChanges (changed_by yes_part no_part) (filled_steps yes_part) (filled_steps no_part)
changes_filled yes_part no_part =
    let slots : List ℕ = assigned_in yes_part ++ assigned_in no_part in
    record {
      each_once = less_once (rising slots) (rising_less slots);
      those = λ slot. among_has slot (rising slots) ∙ has_rising slots slot ∙ sym (among_has slot slots)
          ∙ sym (λ i. is_among slot (filled_assign yes_part i ++ filled_assign no_part i));
    }

mutual
  step_is_filled : (step : StepTree) → IsFilled (filled_step step)
  step_is_filled (assigning slot value) = tt
  step_is_filled (paying leg amount) = tt
  step_is_filled (choosing test yes_part no_part changes) =
      (changes_filled yes_part no_part, (steps_are_filled yes_part, steps_are_filled no_part))
  step_is_filled (grouping steps) = steps_are_filled steps

  -- each choice of filled steps has the variables that its branches assign
  pub steps_are_filled : (steps : StepsTree) → AreFilledSteps (filled_steps steps)
  steps_are_filled no_steps = tt
  steps_are_filled (step_then step rest) = (step_is_filled step, steps_are_filled rest)

module _ (names legs : List (List ℕ)) (marks : ℕ → Mark) where
  mutual
    step-spelled : (step : StepTree)
        → spelled_step names legs (rewritten_step (pruning marks) (filled_step step)) ≡ spelled_step names legs (rewritten_step (pruning marks) step)
    step-spelled (assigning slot value) = refl
    step-spelled (paying leg amount) = refl
    step-spelled (choosing test yes_part no_part changes) =
        let new : TestTree = rewritten_test (pruning marks) test in
        choice_spelled names legs new (rewritten_steps (pruning marks) (filled_steps yes_part)) (rewritten_steps (pruning marks) (filled_steps no_part))
        (changed_by yes_part no_part)
        ∙ (λ i. simple_choose (spelled_test names new) (steps-spelled yes_part i) (steps-spelled no_part i))
        ∙ sym (choice_spelled names legs new (rewritten_steps (pruning marks) yes_part) (rewritten_steps (pruning marks) no_part) changes)
    step-spelled (grouping steps) = ap group (steps-spelled steps)

    -- pruned steps stand for the same where their choices were filled before
    pub steps-spelled : (steps : StepsTree)
        → spelled_steps names legs (rewritten_steps (pruning marks) (filled_steps steps)) ≡ spelled_steps names legs (rewritten_steps (pruning marks) steps)
    steps-spelled no_steps = refl
    steps-spelled (step_then step rest) = λ i. next (step-spelled step i) (steps-spelled rest i)

module _ (names legs : List (List ℕ)) where
  pruned-spelled : (steps : StepsTree) (slots : SlotDomains) (known : Bool)
      → spelled_steps names legs (pruned_steps (filled_steps steps) slots known) ≡ spelled_steps names legs (pruned_steps steps slots known)
  pruned-spelled steps slots known =
      ap (λ parts. spelled_steps names legs (rewritten_steps (pruning (marked no_marks parts)) (filled_steps steps))) (all_found steps slots known)
      ∙ steps-spelled names legs (marks_of steps slots known) steps

  before-same : (events : List EventTree) (slots : SlotDomains)
      → map (spelled_event names legs) (pruned (map filled_event events) slots) ≡ map (spelled_event names legs) (pruned events slots)
  before-same [] slots = refl
  before-same (event ∷ rest) slots =
      let here = pruned-spelled event.steps slots false in
      let after_same = filled_after event.steps slots false in
      let left = (after_steps event.steps slots false).domains in
      (λ i. record { date = event.date; period = event.period; days = event.days; body = here i }
      ∷ map (spelled_event names legs) (pruned (map filled_event rest) (after_same i).domains))
      ∙ ap (λ more. spelled_event names legs (record {
        date = event.date;
        period = event.period;
        days = event.days;
        steps = pruned_steps event.steps slots false;
      }) ∷ more) (before-same rest left)

  filled-spelled : (events : List EventTree) → map (spelled_event names legs) (map filled_event events) ≡ map (spelled_event names legs) events
  filled-spelled [] = refl
  filled-spelled (event ∷ rest) =
      let here = filled_spell names legs event.steps in
      λ i. record { date = event.date; period = event.period; days = event.days; body = here i } ∷ filled-spelled rest i

pub filling_keeps_pruned : FillingKeepsPruned
filling_keeps_pruned = record {
  parts = all_found;
  facts = filled_after;
  before = λ names legs events slots. before-same names legs events slots;
  afterwards = λ names legs events. filled-spelled names legs events;
}
