-- Numbered events: what they stand for, their places and their parts, and the room for their places.
use Rattle.std.proofs.Common.{◌≡◌, ℕ, ◌+◌, ◌<◌, ◌≤◌, zero, suc, Bool, true, false, inl, inr, IsTrue, List, [], ◌∷◌, ◌++◌, length, get_or, drop, filter, map, refl, sym, ap, ◌∙◌, arith, drop-cons}
use Rattle.std.proofs.lemmas.Bool.{cases_Bool, and_parts, and_from}
use Rattle.std.proofs.lemmas.Bool.Decides.{nat_tests}
use Rattle.std.proofs.lemmas.List.{length-append, length-map, map-append}
use Rattle.std.specs.List.{list_all}
use Rattle.std.specs.Prelude.{int_lt, nat_lt}
use Rattle.pay_meaning.specs.Language.{Event}
use Rattle.pay_meaning.specs.Events.{number_of, placed, in_order}
use Rattle.pay_meaning.specs.Parts.{as_variable, as_leg, body_parts, event_parts, is_payment, payment_count}
use Rattle.pay_roll.specs.Laws.{AreApart}
use Rattle.pay_tree.specs.declared.tree.NamedEvent.{NamedEvent}
use Rattle.pay_tree.specs.Owned.{spelled_event, steps_places}
use Rattle.pay_tree.specs.Views.{event}
use Rattle.pay_visit.specs.Showing.{parts_of_steps}
use Rattle.pay_passes.specs.Numbering.{after_body, numbered_body, numbered_event, is_written, are_written, use_own, events_use_own}
use Rattle.pay_passes.specs.Terms.{at_own_terms}
use Rattle.pay_passes.specs.Trades.{IsNotIn, AreDistinct, counted_from, AreCounted, is_plain, is_paying, parts_of_events, HaveOwnPlaces}
use Rattle.pay_passes.proofs.NumberedForms.{body_stands, body_counted, body_plain, body_marks, body_within, all_both}

-- the first of the events that are left, and those after it
pub events_next : (events items : List NamedEvent) (i : ℕ) (one : NamedEvent) → items ≡ events → i < length items → one ≡ get_or items i one
    → map event (drop i events) ≡ event one ∷ map event (drop (i + 1) events)
events_next events items i one same less is =
    let one_more : suc i ≡ i + 1 = omega arith in
    ap (λ left. map event (drop i left)) (sym same)
    ∙ ap (map event) (drop-cons items i one less ∙ ap (λ first. first ∷ drop (suc i) items) (sym is) ∙ ap (λ n. one ∷ drop n items) one_more)
    ∙ ap (λ left. event one ∷ map event (drop (i + 1) left)) same

-- there is room for the places of the first of events whose parts keep the limit
pub first_room : (one : Event) (rest : List Event) → length (event_parts (one ∷ rest)) ≤ 262_144 → after_body 0 one.body ≤ 262_144
first_room one rest few =
    let within = body_within 0 one.body in
    let count = length-append (body_parts one.body) (event_parts rest) in
    omega (arith, few, within, count)

-- and for those of the rest
pub rest_room : (one : Event) (rest : List Event) → length (event_parts (one ∷ rest)) ≤ 262_144 → length (event_parts rest) ≤ 262_144
rest_room one rest few =
    let count = length-append (body_parts one.body) (event_parts rest) in
    omega (arith, few, count)

-- events that are written and use own names alone stand for themselves with their period and days
pub events_stand : (names legs : List (List ℕ)) (events : List Event) → events_use_own as_variable names events ≡ true
    → events_use_own as_leg legs events ≡ true → are_written events ≡ true
    → map (spelled_event names legs) (map (numbered_event names legs) events) ≡ map at_own_terms events
events_stand names legs [] own own_legs written = refl
events_stand names legs (one ∷ rest) own own_legs written =
    let each = and_parts (use_own as_variable names (body_parts one.body)) (events_use_own as_variable names rest) own in
    let legs_each = and_parts (use_own as_leg legs (body_parts one.body)) (events_use_own as_leg legs rest) own_legs in
    let both = and_parts (is_written one.body) (are_written rest) written in
    ap (λ body. let made : Event = record { date = one.date; period = one.period; days = one.days; body = body } in
    made ∷ map (spelled_event names legs) (map (numbered_event names legs) rest))
    (body_stands names legs one.period one.days 0 one.body each.0 legs_each.0 both.0)
    ∙ ap (λ more. at_own_terms one ∷ more) (events_stand names legs rest each.1 legs_each.1 both.1)

-- the places of each are counted
pub events_counted : (names legs : List (List ℕ)) (events : List Event) → AreCounted (map (numbered_event names legs) events)
events_counted names legs [] = tt
events_counted names legs (one ∷ rest) = ((body_counted names legs one.period one.days 0 one.body).0, events_counted names legs rest)

-- the parts of all are plain
pub events_plain : (names legs : List (List ℕ)) (events : List Event) → events_use_own as_variable names events ≡ true
    → events_use_own as_leg legs events ≡ true → are_written events ≡ true
    → list_all (is_plain (length names) (length legs)) (parts_of_events (map (numbered_event names legs) events)) ≡ true
events_plain names legs [] own own_legs written = refl
events_plain names legs (one ∷ rest) own own_legs written =
    let each = and_parts (use_own as_variable names (body_parts one.body)) (events_use_own as_variable names rest) own in
    let legs_each = and_parts (use_own as_leg legs (body_parts one.body)) (events_use_own as_leg legs rest) own_legs in
    let both = and_parts (is_written one.body) (are_written rest) written in
    all_both (is_plain (length names) (length legs)) (parts_of_steps (numbered_body names legs one.period one.days 0 one.body))
    (parts_of_events (map (numbered_event names legs) rest)) (body_plain names legs one.period one.days 0 one.body each.0 legs_each.0 both.0)
    (events_plain names legs rest each.1 legs_each.1 both.1)

-- the parts of all are as many as those of the events, and payments where these are
events_marks : (names legs : List (List ℕ)) (events : List Event) → are_written events ≡ true
    → map is_paying (parts_of_events (map (numbered_event names legs) events)) ≡ map is_payment (event_parts events)
events_marks names legs [] written = refl
events_marks names legs (one ∷ rest) written =
    let both = and_parts (is_written one.body) (are_written rest) written in
    let steps = parts_of_steps (numbered_body names legs one.period one.days 0 one.body) in
    let others = parts_of_events (map (numbered_event names legs) rest) in
    map-append is_paying steps others
    ∙ ap (λ front. front ++ map is_paying others) (body_marks names legs one.period one.days 0 one.body both.0)
    ∙ ap (λ back. map is_payment (body_parts one.body) ++ back) (events_marks names legs rest both.1)
    ∙ sym (map-append is_payment (body_parts one.body) (event_parts rest))

-- how many marks are true
abbrev marked : List Bool → ℕ
marked [] = 0
marked (true ∷ rest) = suc (marked rest)
marked (false ∷ rest) = marked rest

filter_marked : {A : Type 0} (test : A → Bool) (xs : List A) → length (filter test xs) ≡ marked (map test xs)
filter_marked test [] = refl
filter_marked test (x ∷ xs) = elim (cases_Bool (test x)) [
  | inl passes ↦ rw passes (ap suc (filter_marked test xs))
  | inr fails ↦ rw fails (filter_marked test xs)
]

pub events_parts : (names legs : List (List ℕ)) (events : List Event) → are_written events ≡ true
    → length (parts_of_events (map (numbered_event names legs) events)) ≡ length (event_parts events)
events_parts names legs events written =
    sym (length-map (parts_of_events (map (numbered_event names legs) events)) is_paying) ∙ ap length (events_marks names legs events written)
    ∙ length-map (event_parts events) is_payment

pub events_pay : (names legs : List (List ℕ)) (events : List Event) → are_written events ≡ true
    → length (filter is_paying (parts_of_events (map (numbered_event names legs) events))) ≡ payment_count (event_parts events)
events_pay names legs events written =
    filter_marked is_paying (parts_of_events (map (numbered_event names legs) events)) ∙ ap marked (events_marks names legs events written)
    ∙ sym (filter_marked is_payment (event_parts events))

-- no number that is counted is below the first one
not_counted : (low first count : ℕ) → low < first → IsNotIn (counted_from first count) low
not_counted low first zero less = tt
not_counted low first (suc count) less = ((λ same. absurd (omega (arith, less, same))), not_counted low (first + 1) count (omega (arith, less)))

counted_distinct : (first count : ℕ) → AreDistinct (counted_from first count)
counted_distinct first zero = tt
counted_distinct first (suc count) = (not_counted first (first + 1) count (omega arith), counted_distinct (first + 1) count)

counted_below : (first count limit : ℕ) → first + count ≤ limit → list_all (λ place. nat_lt place limit) (counted_from first count) ≡ true
counted_below first zero limit less = refl
counted_below first (suc count) limit less =
    let below : nat_lt first limit ≡ true = grind (arith, nat_tests) in
    and_from _ _ below (counted_below (first + 1) count limit (omega (arith, less)))

-- places that are counted from 0 and not too many are own places
own_places : (places : List ℕ) → places ≡ counted_from 0 (length places) → length places ≤ 262_144
    → AreDistinct places × IsTrue (list_all (λ place. nat_lt place 262_144) places)
own_places places counted few =
    let count = length places in
    rw counted (counted_distinct 0 count, counted_below 0 count 262_144 (omega (arith, few)))

pub events_places : (names legs : List (List ℕ)) (events : List Event) → length (event_parts events) ≤ 262_144
    → HaveOwnPlaces (map (numbered_event names legs) events)
events_places names legs [] few = tt
events_places names legs (one ∷ rest) few =
    let counted = body_counted names legs one.period one.days 0 one.body in
    let room = first_room one rest few in
    let past = counted.1 in (
      own_places (steps_places (numbered_body names legs one.period one.days 0 one.body)) counted.0 (omega (arith, past, room)),
      events_places names legs rest (rest_room one rest few),
    )

-- events on the same dates are apart
pub still_apart : (events : List Event) → AreApart events → AreApart (map at_own_terms events)
still_apart [] apart = tt
still_apart (one ∷ []) apart = (tt, tt)
still_apart (one ∷ following ∷ rest) apart = (apart.0, still_apart (following ∷ rest) apart.1)

-- in order there are as many events
placed_length : (one : Event) (events : List Event) → length (placed one events) ≡ suc (length events)
placed_length one [] = refl
placed_length one (first ∷ rest) = elim (cases_Bool (int_lt (number_of first) (number_of one))) [
  | inl earlier ↦ rw earlier (ap suc (placed_length one rest))
  | inr follows ↦ rw follows refl
]

pub ordered_length : (events : List Event) → length (in_order events) ≡ length events
ordered_length [] = refl
ordered_length (one ∷ rest) = placed_length one (in_order rest) ∙ ap suc (ordered_length rest)
