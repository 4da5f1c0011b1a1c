-- The events of a script in order of date, and the dates that two of them share.
use Rattle.std.specs.Prelude.{◌≤◌, ℤ, ◌≤ℤ◌, int_lt, Bool, false, List, [], ◌∷◌, map, filter, length, if◌then◌else◌, Option, Some, None}
use Rattle.std.specs.List.{flat_map}
use Rattle.std.specs.Ordering.{int_eq}
use Rattle.pay_dates.specs.Days.{day_number}
use Rattle.pay_dates.specs.declared.day.Day.{Day}
use Rattle.pay_dates.specs.Rolls.{rolls_of}
use Rattle.pay_dates.specs.declared.roll.Roll.{Roll}
use Rattle.pay_meaning.specs.Language.{Event, Terms, Body, Item, plain, scheduled, Script}

-- the rolls of a schedule
abbrev pub rolls_by : Terms → List Roll
rolls_by terms = rolls_of terms.first terms.last terms.every terms.unit terms.rule

-- the event of a plain item
abbrev pub plain_event : Day → Body → Event
plain_event date body = record { date = date; period = 0; days = 0; body = body }

-- the event of a roll
abbrev pub rolled_event : Body → Roll → Event
rolled_event body roll = record { date = roll.date; period = roll.period; days = roll.days; body = body }

-- the events of an item: one, or one for each roll of its schedule
abbrev pub events_in : Item → List Event
events_in (plain date body) = plain_event date body ∷ []
events_in (scheduled terms body) = map (rolled_event body) (rolls_by terms)

-- the events of a script, in the order of its items
abbrev pub all_events : Script → List Event
all_events script = flat_map events_in script

-- the number of an event's date
abbrev pub number_of : Event → ℤ
number_of event = day_number event.date

-- the events on the date of a number
abbrev pub events_at : ℤ → List Event → List Event
events_at number events = filter (λ event. int_eq (number_of event) number) events

-- an event among others, after those that are earlier
abbrev pub placed : Event → List Event → List Event
placed event [] = event ∷ []
placed event (first ∷ rest) = if int_lt (number_of first) (number_of event) then first ∷ placed event rest else event ∷ first ∷ rest

-- events in order of date
abbrev pub in_order : List Event → List Event
in_order [] = []
in_order (event ∷ rest) = placed event (in_order rest)

-- the events of a script, in order of date
abbrev pub events_of : Script → List Event
events_of script = in_order (all_events script)

-- two events have the date of this number
abbrev pub IsShared : ℤ → List Event → Type 0
IsShared number events = 2 ≤ length (events_at number events)

-- two events have this date, and no earlier date is that of two
pub record IsEarliestShared (events : List Event) (date : Day) : Type 0 where
  pub shared : IsShared (day_number date) events
  pub earliest : (number : ℤ) → IsShared number events → day_number date ≤ℤ number

-- the next of these events is on the same date
abbrev pub shares_with_next : Event → List Event → Bool
shares_with_next event [] = false
shares_with_next event (following ∷ rest) = int_eq (number_of event) (number_of following)

-- the date of the first two neighbours that have one date
abbrev pub shared_date : List Event → Option Day
shared_date [] = None
shared_date (event ∷ rest) = if shares_with_next event rest then Some event.date else shared_date rest
