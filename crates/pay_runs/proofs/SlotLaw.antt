-- What events mean by number is what they mean by name, and as many parts are evaluated.
use Rattle.std.proofs.Common.{◌≡◌, ℕ, ◌+◌, List, [], ◌∷◌, map, length, IsTrue, Result, Ok, Err, refl}
use Rattle.std.proofs.lemmas.Bool.{and_parts}
use Rattle.std.specs.List.{list_all}
use Rattle.pay_dates.specs.declared.day.Day.{Day}
use Rattle.pay_meaning.specs.declared.fault.FaultKind.{FaultKind}
use Rattle.pay_meaning.specs.Meaning.{Variables, Moment, moment_of, Fixings, Payment, Effect, Meaning, after_earlier, event_then}
use Rattle.pay_tree.specs.Owned.{EventTree, spelled_event}
use Rattle.pay_runs.specs.Weighing.{IsFuzzy, weighed, weighed_meaning}
use Rattle.pay_runs.specs.Counting.{node_count}
use Rattle.pay_runs.specs.Slots.{Slots, SlotPayment, SlotEffect, SlotMeaning, after_earlier_slots, slot_event_then, meaning_by_slots, steps_by_slots}
use Rattle.pay_runs.specs.Slots.{steps_within}
use Rattle.pay_runs.specs.SlotCounts.{slot_node_count}
use Rattle.pay_runs.specs.RunLaws.{AreApart, StandFor, named_payment, MeansSame, row_of, SlotsAreNames}
use Rattle.pay_runs.proofs.SlotEffects.{DoSame, joined_same, numbered, steps_same}
use Rattle.pay_runs.proofs.SlotNodes.{onward_counts, steps_counts}

earlier_same : (names legs : List (List ℕ)) (p : List SlotPayment) (q : List Payment) (m : SlotMeaning) (n : Meaning)
    → map (named_payment legs) p ≡ q → MeansSame names legs m n → MeansSame names legs (after_earlier_slots p m) (after_earlier q n)
earlier_same names legs p q m n same h = record { payments = joined_same legs p m.payments q n.payments same h.payments; end = h.end }

event_same : (names legs : List (List ℕ)) (date : Day) (e : Result SlotEffect FaultKind) (f : Result Effect FaultKind)
    (g : Slots → SlotMeaning) (h : Variables → Meaning) → DoSame names legs e f
    → ((slots : Slots) (variables : Variables) → StandFor names slots variables → MeansSame names legs (g slots) (h variables))
    → MeansSame names legs (slot_event_then date e g) (event_then date f h)
event_same names legs date (Err fault) (Err kind) g h first rest = record { payments = refl; end = (refl, first) }
event_same names legs date (Err fault) (Ok right) g h first rest = absurd first
event_same names legs date (Ok left) (Err kind) g h first rest = absurd first
event_same names legs date (Ok left) (Ok right) g h first rest =
    earlier_same names legs left.payments right.payments (g left.slots) (h right.variables) first.0 (rest left.slots right.variables first.1)

-- the variables of all events are among the names
abbrev AllWithin : List (List ℕ) → List EventTree → Type 0
AllWithin names events = IsTrue (list_all (λ event. steps_within (length names) event.steps) events)

-- what an event reads
abbrev moment : List (List ℕ) → List (List ℕ) → EventTree → Fixings → Moment
moment names legs event fixings = moment_of (spelled_event names legs event) fixings

meaning_same : (fuzzy : IsFuzzy) (names legs : List (List ℕ)) (fixings : Fixings) → AreApart names → (events : List EventTree)
    → AllWithin names events → (slots : Slots) (variables : Variables) → StandFor names slots variables
    → MeansSame names legs (meaning_by_slots fuzzy events slots (row_of events fixings))
    (weighed_meaning fuzzy (map (spelled_event names legs) events) variables fixings)
meaning_same fuzzy names legs fixings apart [] within slots variables stand = record { payments = refl; end = stand }
meaning_same fuzzy names legs fixings apart (event ∷ rest) within slots variables stand =
    let parts = and_parts (steps_within (length names) event.steps) _ within in
    event_same names legs event.date _ _ _ _
    (steps_same fuzzy names legs (moment names legs event fixings) apart event.steps parts.0 slots variables stand)
    (meaning_same fuzzy names legs fixings apart rest parts.1)

count_same : (fuzzy : IsFuzzy) (names legs : List (List ℕ)) (fixings : Fixings) → AreApart names → (events : List EventTree)
    → AllWithin names events → (slots : Slots) (variables : Variables) → StandFor names slots variables
    → slot_node_count fuzzy events slots (row_of events fixings) ≡ node_count fuzzy (map (spelled_event names legs) events) variables fixings
count_same fuzzy names legs fixings apart [] within slots variables stand = refl
count_same fuzzy names legs fixings apart (event ∷ rest) within slots variables stand =
    let parts = and_parts (steps_within (length names) event.steps) _ within in
    let at = moment names legs event fixings in
    λ i. steps_counts fuzzy names legs at apart event.steps parts.0 slots variables stand i
    + onward_counts names legs (steps_by_slots fuzzy event.steps slots (numbered at)) (weighed fuzzy (spelled_event names legs event).body variables at)
    (λ after. slot_node_count fuzzy rest after (row_of rest fixings))
    (λ after. node_count fuzzy (map (spelled_event names legs) rest) after fixings)
    (steps_same fuzzy names legs at apart event.steps parts.0 slots variables stand)
    (count_same fuzzy names legs fixings apart rest parts.1) i

pub slots_are_names : SlotsAreNames
slots_are_names fuzzy names legs events slots variables fixings apart within stand = (
  meaning_same fuzzy names legs fixings apart events within slots variables stand,
  count_same fuzzy names legs fixings apart events within slots variables stand,
)
