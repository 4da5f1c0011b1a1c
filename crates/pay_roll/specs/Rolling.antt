-- What a script is refused for before it has events, in the order in which it is asked, and its events.
use Rattle.std.specs.Prelude.{◌≡◌, ℕ, ◌+◌, nat_le, int_lt, Bool, false, not, ◌&&◌, List, [], ◌∷◌, length, Option, Some, None}
use Rattle.std.specs.Prelude.{if◌then◌else◌}
use Rattle.std.specs.Option.{option_map}
use Rattle.pay_dates.specs.Days.{day_number}
use Rattle.pay_meaning.specs.Language.{Event, Terms, Item, plain, scheduled, Script}
use Rattle.pay_meaning.specs.Events.{all_events, events_of, shared_date}
use Rattle.pay_meaning.specs.Parts.{event_parts, payment_count}
use Rattle.pay_roll.specs.declared.refusal.RollRefusal.{RollRefusal}
use Rattle.pay_roll.specs.declared.refusal.RollRefusal.TheVariants.{BadSchedule, SameDate, TooMany, NoMemory}
use Rattle.pay_roll.specs.declared.refusal.What.{What}
use Rattle.pay_roll.specs.declared.refusal.What.TheVariants.{Events, Nodes, Pays}

-- the first date comes before the last, and a step has 1 to 999 units
abbrev pub is_schedule : Terms → Bool
is_schedule terms = int_lt (day_number terms.first) (day_number terms.last) && nat_le 1 terms.every && nat_le terms.every 999

-- the item is a schedule that is bad: a plain item never is
abbrev pub is_bad : Item → Bool
is_bad (plain date body) = false
is_bad (scheduled terms body) = not (is_schedule terms)

-- the number of the first item that is bad, where the first of these has this number
abbrev pub first_bad : ℕ → Script → Option ℕ
first_bad number [] = None
first_bad number (item ∷ rest) = if is_bad item then Some number else first_bad (number + 1) rest

-- the refusal where there are more than so many
abbrev pub refusal_beyond : What → ℕ → ℕ → Option RollRefusal
refusal_beyond what limit count = if nat_le count limit then None else Some (TooMany what limit)

-- the first of these that is one
abbrev pub first_of : {A : Type 0} → List (Option A) → Option A
first_of [] = None
first_of (None ∷ rest) = first_of rest
first_of (Some refusal ∷ rest) = Some refusal

-- what events are refused for: the earliest date that two of them share; more than 262,144 nodes; more than 16,384 payments
abbrev pub event_refusals : List Event → List (Option RollRefusal)
event_refusals events =
    option_map (λ date. SameDate date) (shared_date events) ∷ refusal_beyond Nodes 262_144 (length (event_parts events))
    ∷ refusal_beyond Pays 16_384 (payment_count (event_parts events)) ∷ []

-- what a script is refused for: its first bad schedule; more than 4,096 events; and then its events
abbrev pub roll_refusals : Script → List (Option RollRefusal)
roll_refusals script =
    option_map (λ item. BadSchedule item) (first_bad 1 script) ∷ refusal_beyond Events 4096 (length (all_events script))
    ∷ event_refusals (events_of script)

-- the first of these, if there is one
unfoldable pub roll_refusal : Script → Option RollRefusal
roll_refusal script = first_of (roll_refusals script)

-- there is a refusal, and it is this one; memory may be wanted for any script
abbrev pub IsRefusalOf : Script → RollRefusal → Type 0
IsRefusalOf script (BadSchedule item) = roll_refusal script ≡ Some (BadSchedule item)
IsRefusalOf script (SameDate date) = roll_refusal script ≡ Some (SameDate date)
IsRefusalOf script (TooMany what limit) = roll_refusal script ≡ Some (TooMany what limit)
IsRefusalOf script NoMemory = Unit {0}
