-- Trades: what their events stand for, and which trades are good.
use Rattle.std.specs.Prelude.{◌≡◌, ℕ, ◌+◌, suc, zero, ◌≤◌, nat_lt, Bool, true, false, IsTrue, is_none, ◌&&◌, List, [], ◌∷◌, length, map, filter}
use Rattle.std.specs.List.{flat_map, list_all}
use Rattle.pay_meaning.specs.Language.{Event}
use Rattle.pay_roll.specs.Laws.{AreApart}
use Rattle.pay_tree.specs.Owned.{slot_at, truth_at, compare_at, not_at, and_at, or_at, assigning, paying, choosing}
use Rattle.pay_tree.specs.Owned.{grouping, EventTree, spelled_event, steps_places}
use Rattle.pay_tree.specs.OwnedViews.{event_tree}
use Rattle.pay_visit.specs.Showing.{TreePart, a_number_at, a_test_at, a_step_of, parts_of_steps}
use Rattle.pay_passes.specs.declared.trade.Trade.{Trade}

-- the events of a trade
abbrev pub trees_of : Trade → List EventTree
trees_of trade = map event_tree trade.events.items

-- the events of the language that those of a trade stand for
abbrev pub spelled_trade : Trade → List Event
spelled_trade trade = map (spelled_event trade.names.items trade.legs.items) (trees_of trade)

-- it is none of these
abbrev pub IsNotIn : {A : Type 0} → List A → A → Type 0
IsNotIn [] x = Unit {0}
IsNotIn (first ∷ rest) x = ¬ (first ≡ x) × IsNotIn rest x

-- each of these is there once
abbrev pub AreDistinct : {A : Type 0} → List A → Type 0
AreDistinct [] = Unit {0}
AreDistinct (first ∷ rest) = IsNotIn rest first × AreDistinct rest

-- so many whole numbers from this one on
abbrev pub counted_from : ℕ → ℕ → List ℕ
counted_from first zero = []
counted_from first (suc count) = first ∷ counted_from (first + 1) count

-- the numbers and the tests of an event are counted from 0 in the order of the text
abbrev pub IsCounted : EventTree → Type 0
IsCounted event = steps_places event.steps ≡ counted_from 0 (length (steps_places event.steps))

-- the same of each of these events
abbrev pub AreCounted : List EventTree → Type 0
AreCounted [] = Unit {0}
AreCounted (event ∷ rest) = IsCounted event × AreCounted rest

-- a part of a trade with so many variables and legs is plain: its variable or its leg is one of them, no test is sure of its answer, no comparison
-- is smoothed, and no step is a group
abbrev pub is_plain : ℕ → ℕ → TreePart → Bool
is_plain variables legs (a_number_at (slot_at id slot)) = nat_lt slot variables
is_plain variables legs (a_number_at number) = true
is_plain variables legs (a_test_at (truth_at id told answer)) = is_none told
is_plain variables legs (a_test_at (compare_at id told op left right smooth)) = is_none told && is_none smooth
is_plain variables legs (a_test_at (not_at id told side)) = is_none told
is_plain variables legs (a_test_at (and_at id told left right)) = is_none told
is_plain variables legs (a_test_at (or_at id told left right)) = is_none told
is_plain variables legs (a_step_of (assigning slot value)) = nat_lt slot variables
is_plain variables legs (a_step_of (paying leg amount)) = nat_lt leg legs
is_plain variables legs (a_step_of (choosing test yes_part no_part changes)) = true
is_plain variables legs (a_step_of (grouping steps)) = false

-- the parts of events, one event after the other
abbrev pub parts_of_events : List EventTree → List TreePart
parts_of_events events = flat_map (λ event. parts_of_steps event.steps) events

-- a part that is a payment
abbrev pub is_paying : TreePart → Bool
is_paying (a_step_of (paying leg amount)) = true
is_paying part = false

-- the numbers and the tests of an event have places of their own, below 262,144
abbrev pub HasOwnPlaces : EventTree → Type 0
HasOwnPlaces event = AreDistinct (steps_places event.steps) × IsTrue (list_all (λ place. nat_lt place 262_144) (steps_places event.steps))

-- the same of each of these events
abbrev pub HaveOwnPlaces : List EventTree → Type 0
HaveOwnPlaces [] = Unit {0}
HaveOwnPlaces (event ∷ rest) = HasOwnPlaces event × HaveOwnPlaces rest

-- A trade is good where its variables are distinct and at most 1,024, its legs distinct and at most 256, and the dates of its events rise; where it
-- has at most 4,096 events, 262,144 numbers, tests and steps, and 16,384 payments; where its parts are plain; and where the numbers and tests of
-- each event have places of their own.
pub record IsGood (trade : Trade) : Type 0 where
  pub names : AreDistinct trade.names.items
  pub few_names : length trade.names.items ≤ 1024
  pub legs : AreDistinct trade.legs.items
  pub few_legs : length trade.legs.items ≤ 256
  pub apart : AreApart (spelled_trade trade)
  pub few_events : length (trees_of trade) ≤ 4096
  pub few_parts : length (parts_of_events (trees_of trade)) ≤ 262_144
  pub few_payments : length (filter is_paying (parts_of_events (trees_of trade))) ≤ 16_384
  pub plain : IsTrue (list_all (is_plain (length trade.names.items) (length trade.legs.items)) (parts_of_events (trees_of trade)))
  pub places : HaveOwnPlaces (trees_of trade)
