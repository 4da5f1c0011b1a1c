-- The events of a script that is not refused, and the schedule that is named where one is none.
use Rattle.std.proofs.Common.{◌≡◌, ℕ, ◌+◌, ◌≤◌, ℤ, ◌<ℤ◌, Bool, true, false, not, ◌&&◌, List, [], ◌∷◌, length, Option}
use Rattle.std.proofs.Common.{Some, None, refl, sym, ap, ◌∙◌, inl, inr, arith}
use Rattle.std.proofs.lemmas.Bool.{cases_Bool}
use Rattle.std.proofs.lemmas.Bool.Decides.{nat_tests}
use Rattle.std.proofs.lemmas.Int.{ints, by_lt_z}
use Rattle.std.specs.Prelude.{int_lt, nat_le, if◌then◌else◌}
use Rattle.std.specs.Option.{option_map}
use Rattle.pay_dates.specs.declared.day.Day.{Day}
use Rattle.pay_dates.specs.Days.{day_number}
use Rattle.pay_meaning.specs.Language.{Event, Item, plain, scheduled, Script}
use Rattle.pay_meaning.specs.Events.{number_of, all_events, events_of, shared_date}
use Rattle.pay_meaning.specs.Laws.{IsRising}
use Rattle.pay_meaning.specs.Parts.{event_parts, payment_count}
use Rattle.pay_meaning.proofs.EventLaws.{order-unique, eq-cases, lt-cases}
use Rattle.pay_roll.specs.Laws.{AreApart, AcceptedIsRolled, IsGood, AreGood, IsFirstBad, FirstBadIsNamed}
use Rattle.pay_roll.specs.Rolling.{is_bad, first_bad, first_of, event_refusals, refusal_beyond, roll_refusal}
use Rattle.pay_roll.specs.declared.refusal.RollRefusal.{RollRefusal}
use Rattle.pay_roll.specs.declared.refusal.RollRefusal.TheVariants.{BadSchedule, SameDate, TooMany}
use Rattle.pay_roll.specs.declared.refusal.What.{What}
use Rattle.pay_roll.specs.declared.refusal.What.TheVariants.{Events, Nodes, Pays}

-- events that rise, no neighbours of which share a date, are apart
apart : (events : List Event) → IsRising events → shared_date events ≡ None → AreApart events
apart [] rising none = tt
apart (event ∷ []) rising none = (tt, tt)
apart (event ∷ following ∷ rest) rising none = elim (eq-cases (number_of event) (number_of following)) [
  | inl hit ↦ let some = rw hit.0 at none in cc
  | inr miss ↦ (
    by_lt_z (number_of event) (number_of following) (λ less. less) (λ le. absurd (miss.1 (omega (arith, ints, rising.0.0)))),
    apart (following ∷ rest) rising.1 (rw miss.0 at none),
  )
]

-- no refusal beyond a limit, so no more than that
kept : (what : What) (limit count : ℕ) → refusal_beyond what limit count ≡ None → count ≤ limit
kept what limit count none = elim (cases_Bool (nat_le count limit)) [
  | inl hit ↦ grind (arith, nat_tests)
  | inr miss ↦ let some = rw miss at none in cc
]

-- where none of a list is a refusal, the first is none and none of the rest is
first_none : (first : Option RollRefusal) (rest : List (Option RollRefusal)) → first_of (first ∷ rest) ≡ None → first ≡ None
first_none None rest none = refl
first_none (Some refusal) rest none = cc

rest_none : (first : Option RollRefusal) (rest : List (Option RollRefusal)) → first_of (first ∷ rest) ≡ None → first_of rest ≡ None
rest_none None rest none = none
rest_none (Some refusal) rest none = cc

unshared : (date : Option Day) → option_map (λ shared. SameDate shared) date ≡ None → date ≡ None
unshared None none = refl
unshared (Some date) none = cc

unnamed : (item : Option ℕ) → option_map (λ number. BadSchedule number) item ≡ None → item ≡ None
unnamed None none = refl
unnamed (Some item) none = cc

pub accepted-rolled : AcceptedIsRolled
unfolding roll_refusal
accepted-rolled script none =
    let bad = option_map (λ item. BadSchedule item) (first_bad 1 script) in
    let many = refusal_beyond Events 4096 (length (all_events script)) in
    let shared = option_map (λ date. SameDate date) (shared_date (events_of script)) in
    let nodes = refusal_beyond Nodes 262_144 (length (event_parts (events_of script))) in
    let pays = refusal_beyond Pays 16_384 (payment_count (event_parts (events_of script))) in
    let of_events = rest_none bad (many ∷ shared ∷ nodes ∷ pays ∷ []) none in
    let of_dates = rest_none many (shared ∷ nodes ∷ pays ∷ []) of_events in
    let of_nodes = rest_none shared (nodes ∷ pays ∷ []) of_dates in
    let of_pays = rest_none nodes (pays ∷ []) of_nodes in
    let ordered = order-unique.ordered (all_events script) in
    record {
      apart = apart (events_of script) ordered.rising (unshared (shared_date (events_of script)) (first_none shared (nodes ∷ pays ∷ []) of_dates));
      same = ordered.same;
      events = kept Events 4096 (length (all_events script)) (first_none many (shared ∷ nodes ∷ pays ∷ []) of_events);
      nodes = kept Nodes 262_144 (length (event_parts (events_of script))) (first_none nodes (pays ∷ []) of_nodes);
      payments = kept Pays 16_384 (payment_count (event_parts (events_of script))) (first_none pays [] of_pays);
    }

-- the test of an item says whether it is good
test_both : (p q r : Bool) → not (p && q && r) ≡ false → (p ≡ true) × (q ≡ true) × (r ≡ true)
test_both true true true e = (refl, refl, refl)
test_both true true false e = cc
test_both true false r e = cc
test_both false q r e = cc

-- what the three tests say
earlier : (a b : ℤ) → int_lt a b ≡ true → a <ℤ b
earlier a b test = elim (lt-cases a b) [
  | inl hit ↦ hit.1
  | inr miss ↦ let never : true ≡ false = sym test ∙ miss.0 in cc
]

earlier_test : (a b : ℤ) → a <ℤ b → int_lt a b ≡ true
earlier_test a b less = elim (lt-cases a b) [
  | inl hit ↦ hit.0
  | inr miss ↦ let after = miss.1 in absurd (omega (arith, ints))
]

at_most : (a b : ℕ) → nat_le a b ≡ true → a ≤ b
at_most a b test = grind (arith, nat_tests)

at_most_test : (a b : ℕ) → a ≤ b → nat_le a b ≡ true
at_most_test a b less = grind (arith, nat_tests)

good_item : (item : Item) → is_bad item ≡ false → IsGood item
good_item (plain date body) test = tt
good_item (scheduled terms body) test =
    let tests = test_both (int_lt (day_number terms.first) (day_number terms.last)) (nat_le 1 terms.every) (nat_le terms.every 999) test in
    (earlier (day_number terms.first) (day_number terms.last) tests.0, at_most 1 terms.every tests.1, at_most terms.every 999 tests.2)

bad_item : (item : Item) → is_bad item ≡ true → ¬ IsGood item
bad_item (plain date body) test good = cc
bad_item (scheduled terms body) test good =
    let dates = earlier_test (day_number terms.first) (day_number terms.last) good.0 in
    let never = rw (dates, at_most_test 1 terms.every good.1, at_most_test terms.every 999 good.2) at test in
    cc

-- the first that is bad, from any number on
first_is : (first number : ℕ) (script : Script) → first_bad first script ≡ Some number → IsFirstBad first number script
first_is first number [] found = cc
first_is first number (item ∷ rest) found = elim (cases_Bool (is_bad item)) [
  | inl hit ↦
      let same : number ≡ first = let named = rw hit at found in cc in
      record { before = []; bad = item; after = rest; is = refl; counted = omega (arith, same); are_good = tt; is_bad = bad_item item hit }
  | inr miss ↦
      let later = first_is (first + 1) number rest (rw miss at found) in
      record {
        before = item ∷ later.before;
        bad = later.bad;
        after = later.after;
        is = ap (λ (items : Script). item ∷ items) later.is;
        counted = omega (arith, later.counted);
        are_good = (good_item item miss, later.are_good);
        is_bad = later.is_bad;
      }
]

none_is : (first : ℕ) (script : Script) → first_bad first script ≡ None → AreGood script
none_is first [] none = tt
none_is first (item ∷ rest) none = elim (cases_Bool (is_bad item)) [
  | inl hit ↦ let some = rw hit at none in cc
  | inr miss ↦ (good_item item miss, none_is (first + 1) rest (rw miss at none))
]

-- no other refusal names a schedule
not_beyond : (p : Bool) (what : What) (limit item : ℕ) (rest : List (Option RollRefusal))
    → first_of ((if p then None else Some (TooMany what limit)) ∷ rest) ≡ Some (BadSchedule item) → first_of rest ≡ Some (BadSchedule item)
not_beyond true what limit item rest named = named
not_beyond false what limit item rest named = cc

not_shared : (date : Option Day) (item : ℕ) (rest : List (Option RollRefusal))
    → first_of (option_map (λ shared. SameDate shared) date ∷ rest) ≡ Some (BadSchedule item) → first_of rest ≡ Some (BadSchedule item)
not_shared None item rest named = named
not_shared (Some date) item rest named = cc

of_events_named : (events : List Event) (item : ℕ) → first_of (event_refusals events) ≡ Some (BadSchedule item) → ⊥
of_events_named events item named =
    let of_nodes = not_shared (shared_date events) item _ named in
    let of_pays = not_beyond (nat_le (length (event_parts events)) 262_144) Nodes 262_144 item _ of_nodes in
    let last = not_beyond (nat_le (payment_count (event_parts events)) 16_384) Pays 16_384 item [] of_pays in
    cc

named_first : (found : Option ℕ) (p : Bool) (events : List Event) (item : ℕ)
    → first_of (option_map (λ number. BadSchedule number) found ∷ (if p then None else Some (TooMany Events 4096)) ∷ event_refusals events)
    ≡ Some (BadSchedule item)
    → found ≡ Some item
named_first (Some number) p events item named = cc
named_first None p events item named = absurd (of_events_named events item (not_beyond p Events 4096 item (event_refusals events) named))

pub bad-named : FirstBadIsNamed
unfolding roll_refusal
bad-named = record {
  named = λ script item named.
      first_is 1 item script (named_first (first_bad 1 script) (nat_le (length (all_events script)) 4096) (events_of script) item named);
  none = λ script none. none_is 1 script (unnamed (first_bad 1 script) (first_none _ _ none));
}
