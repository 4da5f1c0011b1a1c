-- What holds of the events of a trade holds of those until a date.
use Rattle.std.proofs.Common.{◌≡◌, ℕ, ◌+◌, ◌≤◌, ◌<ℤ◌, List, [], ◌∷◌, ◌++◌, map, length, Option, arith, inl, inr, ◌∙◌}
use Rattle.std.proofs.lemmas.Bool.{cases_Bool}
use Rattle.std.proofs.lemmas.Int.{ints}
use Rattle.std.proofs.lemmas.List.Folds.{list_all-append}
use Rattle.std.specs.List.{list_all}
use Rattle.pay_dates.specs.Days.{day_number}
use Rattle.pay_dates.specs.declared.day.Day.{Day}
use Rattle.pay_roll.specs.Laws as roll
use Rattle.pay_tree.specs.Owned.{EventTree, spelled_event}
use Rattle.pay_visit.specs.Showing.{TreePart, parts_of_steps}
use Rattle.pay_passes.specs.Trades.{is_plain, parts_of_events}
use Rattle.pay_code.specs.Programs.{IsBefore, Rise}
use Rattle.pay_code.specs.Execution.{dates_of}
use Rattle.pay_compile.specs.Compiling.{is_until}
use Rattle.pay_simplified.specs.Pruning.{filled_event}
use Rattle.pay_simplified.proofs.BoundLemmas.{and_both}
use Rattle.pay_compile.specs.Prepared.{kept_until}
use Rattle.pay_compile.proofs.PlainLemmas.{ArePlain, plain_both}

-- their parts are plain
pub plain_until : (variables legs : ℕ) (until : Option Day) (events : List EventTree) → ArePlain variables legs (parts_of_events events)
    → ArePlain variables legs (parts_of_events (kept_until until events))
plain_until variables legs until [] plain = plain
plain_until variables legs until (event ∷ rest) plain =
    let parts = plain_both variables legs (parts_of_steps event.steps) (parts_of_events rest) plain in
    let later = plain_until variables legs until rest parts.1 in
    elim (cases_Bool (is_until until event.date)) [
      | inl hit ↦
          rw hit (list_all-append (is_plain variables legs) (parts_of_steps event.steps) (parts_of_events (kept_until until rest))
          ∙ and_both (list_all (is_plain variables legs) (parts_of_steps event.steps))
          (list_all (is_plain variables legs) (parts_of_events (kept_until until rest))) parts.0 later)
      | inr miss ↦ rw miss later
    ]

-- a count of their parts that is the sum of the counts of both lists is no greater
pub fewer_until : (count : List TreePart → ℕ) → ((front back : List TreePart) → count (front ++ back) ≡ count front + count back)
    → (until : Option Day) (events : List EventTree) → count (parts_of_events (kept_until until events)) ≤ count (parts_of_events events)
fewer_until count sum until [] = omega arith
fewer_until count sum until (event ∷ rest) =
    let later = fewer_until count sum until rest in
    let all = sum (parts_of_steps event.steps) (parts_of_events rest) in
    let kept = sum (parts_of_steps event.steps) (parts_of_events (kept_until until rest)) in
    elim (cases_Bool (is_until until event.date)) [
      | inl hit ↦ rw hit (omega (arith, all, kept, later))
      | inr miss ↦ rw miss (omega (arith, all, later))
    ]

-- there are no more of them
pub events_until_fewer : (until : Option Day) (events : List EventTree) → length (kept_until until events) ≤ length events
events_until_fewer until [] = omega arith
events_until_fewer until (event ∷ rest) = elim (cases_Bool (is_until until event.date)) [
  | inl hit ↦ rw hit (omega (arith, events_until_fewer until rest))
  | inr miss ↦ rw miss (omega (arith, events_until_fewer until rest))
]

before_from : (names legs : List (List ℕ)) (event : EventTree) (rest : List EventTree)
    → roll.IsBefore (spelled_event names legs event) (map (spelled_event names legs) rest) → IsBefore event.date (dates_of rest)
before_from names legs event [] h = tt
before_from names legs event (following ∷ rest) h = h

-- the dates of events that are apart rise
pub apart_rise : (names legs : List (List ℕ)) (events : List EventTree) → roll.AreApart (map (spelled_event names legs) events) → Rise (dates_of events)
apart_rise names legs [] apart = tt
apart_rise names legs (event ∷ rest) apart = (before_from names legs event rest apart.0, apart_rise names legs rest apart.1)

before_later : (date other : Day) (dates : List Day) → day_number date <ℤ day_number other → IsBefore other dates → IsBefore date dates
before_later date other [] h k = tt
before_later date other (following ∷ rest) h k = omega (arith, ints, h, k)

before_until : (until : Option Day) (date : Day) (events : List EventTree) → IsBefore date (dates_of events) → Rise (dates_of events)
    → IsBefore date (dates_of (map filled_event (kept_until until events)))
before_until until date [] h rise = tt
before_until until date (event ∷ rest) h rise = elim (cases_Bool (is_until until event.date)) [
  | inl hit ↦ rw hit h
  | inr miss ↦ rw miss (before_until until date rest (before_later date event.date (dates_of rest) h rise.0) rise.1)
]

-- their dates rise, and filling in their choices keeps their dates
pub rise_until : (until : Option Day) (events : List EventTree) → Rise (dates_of events) → Rise (dates_of (map filled_event (kept_until until events)))
rise_until until [] rise = tt
rise_until until (event ∷ rest) rise = elim (cases_Bool (is_until until event.date)) [
  | inl hit ↦ rw hit (before_until until event.date rest rise.0 rise.1, rise_until until rest rise.1)
  | inr miss ↦ rw miss (rise_until until rest rise.1)
]
