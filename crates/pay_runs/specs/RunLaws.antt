-- Laws that tie the ways in which runs are said.
use Rattle.std.specs.Prelude.{◌≡◌, ℕ, ◌<◌, ◌≤◌, false, IsTrue, List, [], ◌∷◌, map, length}
use Rattle.std.specs.List.{list_all}
use Rattle.pay_fixed.specs.Weights.{whole as full, blended}
use Rattle.pay_meaning.specs.Language.{Event, Body}
use Rattle.pay_meaning.specs.Meaning.{Variables, lookup, Fixings, fixing_at, Moment, Payment, Meaning, meaning, End, finished, faulted, effect}
use Rattle.pay_tree.specs.Owned.{EventTree, spelled_event, name_at}
use Rattle.pay_runs.specs.Weighing.{IsFuzzy, blended_variables, weighed, weighed_meaning}
use Rattle.pay_runs.specs.Counting.{node_count}
use Rattle.pay_runs.specs.Slots.{Slots, slot_value, SlotPayment, SlotEnd, slots_finished, slots_faulted, SlotMeaning, meaning_by_slots, steps_within, Row}
use Rattle.pay_runs.specs.SlotCounts.{slot_node_count}

-- a crisp run is the direct one, whatever smoothings the comparisons carry
pub record CrispIsDirect : Type 0 where
  pub effects : (body : Body) (variables : Variables) (at : Moment) → weighed false body variables at ≡ effect body variables at
  pub meanings : (events : List Event) (variables : Variables) (fixings : Fixings) → weighed_meaning false events variables fixings ≡ meaning events variables fixings

-- each variable of two blended branches has the blend of its two values
abbrev pub BlendIsByName : Type 0
BlendIsByName = (w : ℕ) (yes_part no_part : Variables) (name : List ℕ) → w ≤ full
    → lookup (blended_variables w yes_part no_part) name ≡ blended w (lookup yes_part name) (lookup no_part name)

-- it is none of these
abbrev pub IsNotAmong : List (List ℕ) → List ℕ → Type 0
IsNotAmong [] name = Unit {0}
IsNotAmong (first ∷ rest) name = ¬ (first ≡ name) × IsNotAmong rest name

-- no name is there twice
abbrev pub AreApart : List (List ℕ) → Type 0
AreApart [] = Unit {0}
AreApart (first ∷ rest) = IsNotAmong rest first × AreApart rest

-- the values stand for the variables of these names: one for each name, and each is what its name has
pub record StandFor (names : List (List ℕ)) (slots : Slots) (variables : Variables) : Type 0 where
  pub one_each : length slots ≡ length names
  pub same : (slot : ℕ) → slot < length names → slot_value slots slot ≡ lookup variables (name_at names slot)

-- a payment to the leg of a number, by the name of that leg
abbrev pub named_payment : List (List ℕ) → SlotPayment → Payment
named_payment legs payment = record { date = payment.date; leg = name_at legs payment.leg; amount = payment.amount }

-- a scenario ends so by number as it does by name
abbrev pub EndsAs : List (List ℕ) → SlotEnd → End → Type 0
EndsAs names (slots_finished slots) (finished variables) = StandFor names slots variables
EndsAs names (slots_faulted date fault) (faulted other kind) = (date ≡ other) × (fault ≡ kind)
EndsAs names (slots_finished slots) (faulted other kind) = ⊥
EndsAs names (slots_faulted date fault) (finished variables) = ⊥

-- the same payments and the same end, by number and by name
pub record MeansSame (names legs : List (List ℕ)) (m : SlotMeaning) (n : Meaning) : Type 0 where
  pub payments : map (named_payment legs) m.payments ≡ n.payments
  pub end : EndsAs names m.end n.end

-- a row that has the fixing of each event's date
abbrev pub row_of : List EventTree → Fixings → Row
row_of events fixings = map (λ event. fixing_at fixings event.date) events

-- What events mean by number is what the events that they stand for mean by name, and a run evaluates as many parts: where no name is there twice,
-- the variables are among the names, and the values stand for those of the variables.
abbrev pub SlotsAreNames : Type 0
SlotsAreNames = (fuzzy : IsFuzzy) (names legs : List (List ℕ)) (events : List EventTree) (slots : Slots) (variables : Variables) (fixings : Fixings)
    → AreApart names → IsTrue (list_all (λ event. steps_within (length names) event.steps) events) → StandFor names slots variables
    → MeansSame names legs (meaning_by_slots fuzzy events slots (row_of events fixings))
    (weighed_meaning fuzzy (map (spelled_event names legs) events) variables fixings)
    × (slot_node_count fuzzy events slots (row_of events fixings) ≡ node_count fuzzy (map (spelled_event names legs) events) variables fixings)
