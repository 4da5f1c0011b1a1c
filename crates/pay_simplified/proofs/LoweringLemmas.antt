-- Pruned events whose choices are filled again can be lowered where the events could.
use Rattle.std.proofs.Common.{◌≡◌, ℕ, suc, ◌≤◌, nat_eq, true, false, ◌||◌, List, [], ◌∷◌, map, length, IsTrue, refl, sym, ap, ◌∙◌, subst}
use Rattle.std.proofs.Common.{arith, if◌then◌else◌, inl, inr}
use Rattle.std.proofs.lemmas.Bool.{cases_Bool, and_parts, false≢true}
use Rattle.std.proofs.lemmas.Bool.Decides.{nat_tests}
use Rattle.std.specs.List.{list_all}
use Rattle.pay_tree.specs.Owned.{EventTree, steps_places}
use Rattle.pay_visit.specs.Rewriting.{rewritten_steps}
use Rattle.pay_runs.specs.Slots.{steps_within}
use Rattle.pay_code.specs.Bounds.{pays_in, events_parts}
use Rattle.pay_code.specs.Execution.{dates_of}
use Rattle.pay_code.specs.Filled.{is_among, IsEachOnce, AreFilled}
use Rattle.pay_code.specs.Flat.{flat_code}
use Rattle.pay_code.specs.Programs.{Rise, AreSmooth, CanBeLowered}
use Rattle.pay_facts.specs.SlotFacts.{SlotDomains, after_steps}
use Rattle.pay_simplified.specs.Pruning.{pruning, marks_of, pruned_steps, filled_event, pruned}
use Rattle.pay_simplified.specs.PruningLaws.{HaveOwnLegs, PrunedCanBeLowered}
use Rattle.pay_simplified.proofs.ShrinkLemmas.{pruned_keeps}
use Rattle.pay_simplified.proofs.BoundLemmas.{and_both, within_shrinks, parts_shrink, smooth_shrinks, total, total_both, places_shrink, paid_in, pays_shrink}
use Rattle.pay_simplified.proofs.FillingLemmas.{filled_within, filled_count, filled_smooth, filled_paid, steps_are_filled}
use Rattle.pay_simplified.proofs.PaidLemmas.{events_paid, events_pay, each_one, pays_are_legs, outside, own_total, total_own}

-- the events that are made of events
abbrev made : List EventTree → SlotDomains → List EventTree
made events slots = map filled_event (pruned events slots)

-- the raws of the variables after an event
abbrev later : EventTree → SlotDomains → SlotDomains
later event slots = (after_steps event.steps slots false).domains

made_dates : (events : List EventTree) (slots : SlotDomains) → dates_of (made events slots) ≡ dates_of events
made_dates [] slots = refl
made_dates (event ∷ rest) slots = ap (λ dates. event.date ∷ dates) (made_dates rest (later event slots))

made_count : (events : List EventTree) (slots : SlotDomains) → length (made events slots) ≡ length events
made_count [] slots = refl
made_count (event ∷ rest) slots = ap suc (made_count rest (later event slots))

made_within : (count : ℕ) (events : List EventTree) (slots : SlotDomains) → IsTrue (list_all (λ event. steps_within count event.steps) events)
    → IsTrue (list_all (λ event. steps_within count event.steps) (made events slots))
made_within count [] slots h = refl
made_within count (event ∷ rest) slots h =
    let parts = and_parts (steps_within count event.steps) (list_all (λ one. steps_within count one.steps) rest) h in
    and_both _ _
    (filled_within count (pruned_steps event.steps slots false) ∙ pruned_keeps (within_shrinks count) (marks_of event.steps slots false) event.steps parts.0)
    (made_within count rest (later event slots) parts.1)

made_filled : (events : List EventTree) (slots : SlotDomains) → AreFilled (made events slots)
made_filled [] slots = tt
made_filled (event ∷ rest) slots = (steps_are_filled (pruned_steps event.steps slots false), made_filled rest (later event slots))

made_smooth : (events : List EventTree) (slots : SlotDomains) → AreSmooth events → AreSmooth (made events slots)
made_smooth [] slots h = tt
made_smooth (event ∷ rest) slots h = (
  filled_smooth (pruned_steps event.steps slots false) (pruned_keeps smooth_shrinks (marks_of event.steps slots false) event.steps h.0),
  made_smooth rest (later event slots) h.1,
)

made_parts : (events : List EventTree) (slots : SlotDomains) → events_parts (made events slots) ≤ events_parts events
made_parts [] slots = omega arith
made_parts (event ∷ rest) slots =
    let here = filled_count (pruned_steps event.steps slots false) in
    let fewer = pruned_keeps parts_shrink (marks_of event.steps slots false) event.steps in
    let more = made_parts rest (later event slots) in
    omega (arith, here, fewer, more)

can_be_lowered : (events : List EventTree) (slots : SlotDomains) (variables : ℕ) → CanBeLowered events variables → CanBeLowered (made events slots) variables
can_be_lowered events slots variables can = record {
  rise = subst Rise (sym (made_dates events slots)) can.rise;
  within = made_within variables events slots can.within;
  few_variables = can.few_variables;
  filled = made_filled events slots;
  smooth = made_smooth events slots can.smooth;
  few_events = omega (arith, made_count events slots, can.few_events);
  few_parts = omega (arith, made_parts events slots, can.few_parts);
}

-- a sum over the legs that are paid is no greater
made_paid : (f : ℕ → ℕ) (events : List EventTree) (slots : SlotDomains) → total f (events_paid (made events slots)) ≤ total f (events_paid events)
made_paid f [] slots = omega arith
made_paid f (event ∷ rest) slots =
    let here = ap (total f) (filled_paid (pruned_steps event.steps slots false)) in
    let fewer = pruned_keeps (pays_shrink f) (marks_of event.steps slots false) event.steps in
    let more = made_paid f rest (later event slots) in
    let new = total_both f (paid_in (filled_event (record {
      date = event.date;
      period = event.period;
      days = event.days;
      steps = pruned_steps event.steps slots false;
    })).steps) (events_paid (made rest (later event slots))) in
    let old = total_both f (paid_in event.steps) (events_paid rest) in
    omega (arith, here, fewer, more, new, old)

own_legs : (events : List EventTree) (slots : SlotDomains) (legs : ℕ) → HaveOwnLegs legs events → HaveOwnLegs legs (made events slots)
own_legs events slots legs own =
    let before = ap (total (outside legs)) (events_pay events 0 0) in
    let none = own_total legs _ own in
    let now = ap (total (outside legs)) (events_pay (made events slots) 0 0) in
    total_own legs _ (omega (arith, before, none, now, made_paid (outside legs) events slots))

no_more_pays : (events : List EventTree) (slots : SlotDomains) → pays_in (flat_code (made events slots)) ≤ pays_in (flat_code events)
no_more_pays events slots =
    let before = ap (total each_one) (events_pay events 0 0) in
    let now = ap (total each_one) (events_pay (made events slots) 0 0) in
    omega (arith, before, now, pays_are_legs (flat_code events), pays_are_legs (flat_code (made events slots)), made_paid each_one events slots)

-- how often a place is there
one : ℕ → ℕ → ℕ
one id place = if nat_eq id place then 1 else 0

one_here : (id place : ℕ) → nat_eq id place ≡ true → one id place ≡ 1
unfolding one
one_here id place hit = ap (λ b. if b then 1 else 0) hit

one_elsewhere : (id place : ℕ) → nat_eq id place ≡ false → one id place ≡ 0
unfolding one
one_elsewhere id place miss = ap (λ b. if b then 1 else 0) miss

out_total : (id : ℕ) (places : List ℕ) → is_among id places ≡ false → total (one id) places ≡ 0
out_total id [] h = refl
out_total id (place ∷ rest) h = elim (cases_Bool (nat_eq id place)) [
  | inl hit ↦ absurd (false≢true (sym h ∙ ap (λ b. b || is_among id rest) hit))
  | inr miss ↦
      let more = out_total id rest (sym (ap (λ b. b || is_among id rest) miss) ∙ h) in
      let here = one_elsewhere id place miss in omega (arith, more, here)
]

in_total : (id : ℕ) (places : List ℕ) → is_among id places ≡ true → 1 ≤ total (one id) places
in_total id [] h = absurd (false≢true h)
in_total id (place ∷ rest) h = elim (cases_Bool (nat_eq id place)) [
  | inl hit ↦ let here = one_here id place hit in omega (arith, here)
  | inr miss ↦
      let more = in_total id rest (sym (ap (λ b. b || is_among id rest) miss) ∙ h) in
      omega (arith, more)
]

-- where no place is there twice, each is there once at most; and the other way round
once_total : (id : ℕ) (places : List ℕ) → IsEachOnce places → total (one id) places ≤ 1
once_total id [] h = omega arith
once_total id (place ∷ rest) h = elim (cases_Bool (nat_eq id place)) [
  | inl hit ↦
      let same : id ≡ place = grind (arith, nat_tests) in
      let more : total (one id) rest ≡ 0 = subst (λ p. total (one p) rest ≡ 0) (sym same) (out_total place rest h.0) in
      let here = one_here id place hit in omega (arith, more, here)
  | inr miss ↦
      let more = once_total id rest h.1 in
      let here = one_elsewhere id place miss in omega (arith, more, here)
]

total_once : (places : List ℕ) → ((id : ℕ) → total (one id) places ≤ 1) → IsEachOnce places
total_once [] h = tt
total_once (place ∷ rest) h = (
  elim (cases_Bool (is_among place rest)) [
    | inl hit ↦
        let here = one_here place place (itself place) in
        let more = in_total place rest hit in absurd (omega (arith, h place, here, more))
    | inr miss ↦ miss
  ],
  total_once rest (λ id. omega (arith, h id)),
)
  where
    itself : (n : ℕ) → nat_eq n n ≡ true
    itself n = grind (arith, nat_tests)

-- places that are no more than those of steps where each is there once
pub places_once : (places others : List ℕ) → ((f : ℕ → ℕ) → total f places ≤ total f others) → IsEachOnce others → IsEachOnce places
places_once places others fewer once = total_once places (λ id. omega (arith, fewer (one id), once_total id others once))

pub pruned_can_be_lowered : PrunedCanBeLowered
pruned_can_be_lowered = record {
  lowered = can_be_lowered;
  legs = own_legs;
  pays = no_more_pays;
  places = λ marks steps once.
      places_once (steps_places (rewritten_steps (pruning marks) steps)) (steps_places steps) (λ f. pruned_keeps (places_shrink f) marks steps) once;
}
