-- What a script is refused for, by what is asked of it one after the other.
use Rattle.std.proofs.Common.{◌≡◌, ℕ, ◌≤◌, ◌<◌, true, false, Some, None, List, length, map, refl, sym, ap, subst, ◌∙◌, arith}
use Rattle.std.proofs.lemmas.List.{length-map}
use Rattle.std.proofs.lemmas.Bool.Decides.{nat_tests}
use Rattle.std.specs.Prelude.{nat_le, Result, Ok, Err, IfErr}
use Rattle.std.specs.Result.{IsErrAnd}
use Rattle.pay_meaning.specs.Language.{Event, Script}
use Rattle.pay_meaning.specs.Events.{all_events, events_of, in_order}
use Rattle.pay_roll.specs.Plans.{planned, IsPlanRefusal}
use Rattle.pay_roll.specs.declared.plan.PlannedEvent.{PlannedEvent}
use Rattle.pay_roll.specs.Rolling.{first_bad, first_of, event_refusals, roll_refusal, IsRefusalOf}
use Rattle.pay_roll.specs.declared.refusal.RollRefusal.{RollRefusal}
use Rattle.pay_roll.specs.declared.refusal.RollRefusal.TheVariants.{BadSchedule, SameDate, TooMany, NoMemory}
use Rattle.pay_roll.specs.declared.refusal.What.TheVariants.{Events}

within : (count limit : ℕ) → count ≤ limit → nat_le count limit ≡ true
within count limit few = grind (arith, nat_tests)

beyond : (count limit : ℕ) → limit < count → nat_le count limit ≡ false
beyond count limit many = grind (arith, nat_tests)

-- a bad schedule comes first
pub refusal_of_bad : (script : Script) (item : ℕ) → first_bad 1 script ≡ Some item → IsRefusalOf script (BadSchedule item)
unfolding roll_refusal
refusal_of_bad script item bad = rw bad refl

-- then too many events
refusal_of_many : (script : Script) → first_bad 1 script ≡ None → 4096 < length (all_events script) → roll_refusal script ≡ Some (TooMany Events 4096)
unfolding roll_refusal
refusal_of_many script good many = rw (good, beyond (length (all_events script)) 4096 many) refl

pub refusal_of_plan : (script : Script) (refusal : RollRefusal) → first_bad 1 script ≡ None → IsPlanRefusal (all_events script) refusal
    → IsRefusalOf script refusal
refusal_of_plan script (BadSchedule item) good is = absurd is
refusal_of_plan script (SameDate date) good is = absurd is
refusal_of_plan script (TooMany what limit) good is = rw (is.0, is.1) (refusal_of_many script good is.2)
refusal_of_plan script NoMemory good is = tt

-- and then what the events are refused for
refusal_of_events : (script : Script) → first_bad 1 script ≡ None → length (all_events script) ≤ 4096
    → roll_refusal script ≡ first_of (event_refusals (events_of script))
unfolding roll_refusal
refusal_of_events script good few = rw (good, within (length (all_events script)) 4096 few) refl

-- so of planned events, once they are in order
pub refusal_of_planned : (script : Script) (before after : List PlannedEvent) → first_bad 1 script ≡ None → length before ≤ 4096
    → map planned before ≡ all_events script → map planned after ≡ in_order (map planned before)
    → roll_refusal script ≡ first_of (event_refusals (map planned after))
refusal_of_planned script before after good few all sorted =
    let count : length (all_events script) ≤ 4096 = omega (arith, few, length-map before planned, ap length all) in
    refusal_of_events script good count ∙ ap (λ (events : List Event). first_of (event_refusals events)) (sym (sorted ∙ ap in_order all))

-- a refusal that there is
pub refusal_is : (script : Script) (refusal : RollRefusal) → roll_refusal script ≡ Some refusal → IsRefusalOf script refusal
refusal_is script (BadSchedule item) is = is
refusal_is script (SameDate date) is = is
refusal_is script (TooMany what limit) is = is
refusal_is script NoMemory is = tt

-- what holds of a fault holds of an answer that is this fault
pub is_of_fault : {T E : Type 0} (Holds : E → Type 0) (fault : E) (answer : Result T E) → IsErrAnd answer (λ other. other ≡ fault)
    → Holds fault → IfErr answer Holds
is_of_fault Holds fault (Err other) is holds = subst Holds (sym is) holds
is_of_fault Holds fault (Ok value) is holds = absurd is
