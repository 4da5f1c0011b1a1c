-- Facts after steps, by number and by name.
use Rattle.std.proofs.Common.{◌≡◌, ℕ, zero, suc, ◌<◌, Bool, true, false, ◌&&◌, List, [], ◌∷◌, map, length, set, Option, Some, None, IsTrue, refl, sym, ap, ◌∙◌}
use Rattle.std.proofs.Common.{subst, inl, inr, arith, if◌then◌else◌}
use Rattle.std.proofs.lemmas.Bool.{cases_Bool, cases_eq, and_parts, ltb-true}
use Rattle.std.proofs.lemmas.List.{length-set, get_or-set_same, get_or-set_other}
use Rattle.std.proofs.lemmas.Map.Lookups.{exact_bytes}
use Rattle.std.proofs.lemmas.Map.Views.{tells_apart}
use Rattle.std.specs.Prelude.{pos}
use Rattle.std.specs.List.{list_all}
use Rattle.std.specs.Ordering.{nat_cmp, eq_by_cmp}
use Rattle.std.specs.Cmp.{eq_by_cmp_equiv}
use Rattle.std.specs.Cmp.Lexicographic.{slice_cmp, nat_list_cmp_total}
use Rattle.pay_meaning.specs.Language.{Event}
use Rattle.pay_domains.specs.declared.piece.Piece.{Piece}
use Rattle.pay_domains.specs.Pieces.{point}
use Rattle.pay_domains.specs.Operators.{united}
use Rattle.pay_tree.specs.Owned.{StepTree, assigning, paying, choosing, grouping, StepsTree, no_steps, step_then, name_at}
use Rattle.pay_tree.specs.Owned.{EventTree, spelled_step, spelled_steps, spelled_event}
use Rattle.pay_runs.specs.Slots.{number_within, test_within, step_within, steps_within}
use Rattle.pay_runs.specs.RunLaws.{AreApart}
use Rattle.pay_runs.proofs.NameLemmas.{one_place}
use Rattle.pay_facts.specs.Facts.{Domains, Facts, put, joined}
use Rattle.pay_facts.specs.After.{after_assignment, after_branches, after_one, after, after_event, after_events}
use Rattle.pay_facts.specs.SlotFacts.{SlotDomains, slot_domain, SlotFacts, joined_slots, after_slot_branches, after_step, after_steps}
use Rattle.pay_facts.specs.SlotFacts.{after_slot_events, range_by_slots, decide_by_slots}
use Rattle.pay_facts.specs.SlotLaws.{DomainsStandFor, FactsStandFor, SlotFactsAreNames, SlotEventsAreNames}
use Rattle.pay_facts.proofs.SlotRangeLemmas.{range_same, decision_same}

-- what a name has after an assignment
put_same : (domains : Domains) (name : List ℕ) (pieces : List Piece) → put domains name pieces name ≡ pieces
put_same domains name pieces = ap (λ b. if b then pieces else domains name) ((eq_by_cmp_equiv nat_list_cmp_total).refl name)

put_other : (domains : Domains) (name : List ℕ) (pieces : List Piece) (other : List ℕ) → ¬ (other ≡ name) → put domains name pieces other ≡ domains other
put_other domains name pieces other differ = elim (cases_Bool (eq_by_cmp (slice_cmp nat_cmp) other name)) [
  | inl hit ↦ absurd (differ (tells_apart exact_bytes other name hit))
  | inr miss ↦ ap (λ b. if b then pieces else domains other) miss
]

-- a variable that is assigned by number is assigned by its name
stand_put : (names : List (List ℕ)) (slots : SlotDomains) (domains : Domains) (slot : ℕ) (pieces : List Piece) → AreApart names → slot < length names
    → DomainsStandFor names slots domains → DomainsStandFor names (set slots slot pieces) (put domains (name_at names slot) pieces)
stand_put names slots domains slot pieces apart within stand = record {
  one_each = length-set slots slot pieces ∙ stand.one_each;
  same = λ other below. elim (cases_eq other slot) [
    | inl is ↦ rw is (get_or-set_same slots slot pieces (point (pos 0)) (rw stand.one_each within) ∙ sym (put_same domains (name_at names slot) pieces))
    | inr differ ↦ get_or-set_other slots slot other pieces (point (pos 0)) differ
        ∙ stand.same other below
        ∙ sym (put_other domains (name_at names slot) pieces (name_at names other) (λ e. differ (one_place names apart other slot below within e)))
  ];
}

joined_length : (a b : SlotDomains) → length a ≡ length b → length (joined_slots a b) ≡ length a
joined_length [] b same = refl
joined_length (x ∷ a) [] same = absurd (omega arith)
joined_length (x ∷ a) (y ∷ b) same = ap suc (joined_length a b (omega arith))

joined_domain : (a b : SlotDomains) → length a ≡ length b → (slot : ℕ) → slot < length a
    → slot_domain (joined_slots a b) slot ≡ united (slot_domain a slot) (slot_domain b slot)
joined_domain [] b same slot below = absurd (omega arith)
joined_domain (x ∷ a) [] same slot below = absurd (omega arith)
joined_domain (x ∷ a) (y ∷ b) same zero below = refl
joined_domain (x ∷ a) (y ∷ b) same (suc slot) below = joined_domain a b (omega arith) slot (omega arith)

-- domains that are joined by number are joined by name
stand_joined : (names : List (List ℕ)) (a b : SlotDomains) (d e : Domains) → DomainsStandFor names a d → DomainsStandFor names b e
    → DomainsStandFor names (joined_slots a b) (joined d e)
stand_joined names a b d e first second =
    let same : length a ≡ length b = first.one_each ∙ sym second.one_each in
    record {
      one_each = joined_length a b same ∙ first.one_each;
      same = λ slot below. joined_domain a b same slot (rw first.one_each below) ∙ (λ i. united (first.same slot below i) (second.same slot below i));
    }

-- the branch that is decided, or both
branches_same : (names : List (List ℕ)) (answer : Option Bool) (a b : SlotFacts) (f g : Facts) → FactsStandFor names a f → FactsStandFor names b g
    → FactsStandFor names (after_slot_branches answer a b) (after_branches answer f g)
branches_same names (Some true) a b f g first second = first
branches_same names (Some false) a b f g first second = second
branches_same names None a b f g first second = record {
  domains = stand_joined names a.domains b.domains f.domains g.domains first.domains second.domains;
  known = λ i. first.known i && second.known i;
}

mutual
  pub step_same : (names legs : List (List ℕ)) (event : Event) → AreApart names → (step : StepTree) → IsTrue (step_within (length names) step)
      → (slots : SlotDomains) (domains : Domains) → DomainsStandFor names slots domains → (known : Bool)
      → FactsStandFor names (after_step step slots known) (after_one (spelled_step names legs step) domains known event)
  step_same names legs event apart (assigning slot number) within slots domains stand known =
      let parts = and_parts _ (number_within (length names) number) within in
      subst (λ r. FactsStandFor names (after_step (assigning slot number) slots known) (after_assignment domains (name_at names slot) r))
      (range_same names slots domains event stand number parts.1 known)
      (record {
        domains = stand_put names slots domains slot (range_by_slots number slots known).domain apart (ltb-true slot (length names) parts.0) stand;
        known = refl;
      })
  step_same names legs event apart (paying leg amount) within slots domains stand known =
      record { domains = stand; known = ap (λ r. r.known) (range_same names slots domains event stand amount within known) }
  step_same names legs event apart (choosing test yes_part no_part changes) within slots domains stand known =
      let parts = and_parts (test_within (length names) test) _ within in
      let branches = and_parts (steps_within (length names) yes_part) (steps_within (length names) no_part) parts.1 in
      subst (λ d. FactsStandFor names (after_step (choosing test yes_part no_part changes) slots known)
      (after_branches d.answer (after (spelled_steps names legs yes_part) domains d.known event)
      (after (spelled_steps names legs no_part) domains d.known event)))
      (decision_same names slots domains event stand test parts.0 known)
      (branches_same names (decide_by_slots test slots known).answer _ _ _ _
      (steps_same names legs event apart yes_part branches.0 slots domains stand (decide_by_slots test slots known).known)
      (steps_same names legs event apart no_part branches.1 slots domains stand (decide_by_slots test slots known).known))
  step_same names legs event apart (grouping steps) within slots domains stand known =
      steps_same names legs event apart steps within slots domains stand known

  -- the facts after steps are by number what they are by name
  pub steps_same : (names legs : List (List ℕ)) (event : Event) → AreApart names → (steps : StepsTree) → IsTrue (steps_within (length names) steps)
      → (slots : SlotDomains) (domains : Domains) → DomainsStandFor names slots domains → (known : Bool)
      → FactsStandFor names (after_steps steps slots known) (after (spelled_steps names legs steps) domains known event)
  steps_same names legs event apart no_steps within slots domains stand known = record { domains = stand; known = refl }
  steps_same names legs event apart (step_then step rest) within slots domains stand known =
      let parts = and_parts (step_within (length names) step) (steps_within (length names) rest) within in
      let first : FactsStandFor names (after_step step slots known) (after_one (spelled_step names legs step) domains known event) =
      step_same names legs event apart step parts.0 slots domains stand known
      in
      let between = after_one (spelled_step names legs step) domains known event in
      subst (λ k. FactsStandFor names (after_steps (step_then step rest) slots known)
      (after (spelled_steps names legs rest) between.domains k event))
      first.known
      (steps_same names legs event apart rest parts.1 (after_step step slots known).domains between.domains first.domains (after_step step slots known).known)

pub slots_are_names : SlotFactsAreNames
slots_are_names = record {
  ranges = λ names number slots domains known event within stand. range_same names slots domains event stand number within known;
  decisions = λ names test slots domains known event within stand. decision_same names slots domains event stand test within known;
  facts = λ names legs steps slots domains known event apart within stand. steps_same names legs event apart steps within slots domains stand known;
}

-- the raws after events are by number what they are by name
events_same : (names legs : List (List ℕ)) → AreApart names → (events : List EventTree)
    → IsTrue (list_all (λ event. steps_within (length names) event.steps) events) → (slots : SlotDomains) (domains : Domains)
    → DomainsStandFor names slots domains
    → DomainsStandFor names (after_slot_events events slots) (after_events (map (spelled_event names legs) events) domains)
events_same names legs apart [] within slots domains stand = stand
events_same names legs apart (event ∷ rest) within slots domains stand =
    let parts = and_parts (steps_within (length names) event.steps) _ within in
    let after = steps_same names legs (spelled_event names legs event) apart event.steps parts.0 slots domains stand false in
    events_same names legs apart rest parts.1 (after_steps event.steps slots false).domains (after_event (spelled_event names legs event) domains)
    after.domains

pub slot_events_are_names : SlotEventsAreNames
slot_events_are_names names legs events slots domains apart within stand = events_same names legs apart events within slots domains stand
