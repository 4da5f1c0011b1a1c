-- Which events a program has, and what its runs give.
use Rattle.std.specs.Prelude.{◌≡◌, false, ℕ, int_le, nat_lt, Bool, true, IsTrue, List, map, Option, Some, None}
use Rattle.std.specs.List.{filter, list_all}
use Rattle.pay_dates.specs.Days.{day_number}
use Rattle.pay_dates.specs.declared.day.Day.{Day}
use Rattle.pay_meaning.specs.Language.{Event}
use Rattle.pay_meaning.specs.Meaning.{Fixings, fixing_at, Meaning, meaning, no_variables}
use Rattle.pay_facts.specs.Holding.{AreFixings}
use Rattle.pay_runs.specs.Counting.{node_count}
use Rattle.pay_runs.specs.RunLaws.{MeansSame}
use Rattle.pay_code.specs.Bounds.{legs_in}
use Rattle.pay_code.specs.Execution.{Outcome}
use Rattle.pay_code.specs.Programs.{Compiled, run}

-- a date is not after another, where there is one
abbrev pub is_until : Option Day → Day → Bool
is_until None date = true
is_until (Some last) date = int_le (day_number date) (day_number last)

-- the events that are not after a date, where there is one
abbrev pub events_until : Option Day → List Event → List Event
events_until until events = filter (λ event. is_until until event.date) events

-- the dates of events
abbrev pub dates_of : List Event → List Day
dates_of events = map (λ event. event.date) events

-- a run means the same by the numbers of variables and legs as events mean by their names
abbrev pub RunMeans : List (List ℕ) → List (List ℕ) → Outcome → Meaning → Type 0
RunMeans names legs outcome m = MeansSame names legs (record { payments = outcome.payments; end = outcome.end }) m

-- Each run of a program gives the direct meaning of these events from no variables, under fixings within their limit, of which its row has the cells at
-- their dates.
abbrev pub MeansDirectly : List (List ℕ) → List (List ℕ) → List Event → Compiled → Type 0
MeansDirectly names legs events program = (fixings : Fixings) → AreFixings fixings
    → RunMeans names legs (run program (map (fixing_at fixings) program.dates)) (meaning events no_variables fixings)

-- each run of a program evaluates as many nodes as a run of these events from no variables, under the same fixings
abbrev pub CountsNodes : List Event → Compiled → Type 0
CountsNodes events program = (fixings : Fixings)
    → (run program (map (fixing_at fixings) program.dates)).nodes ≡ node_count false events no_variables fixings

-- each payment of a program is on one of so many legs
abbrev pub HasOwnLegs : ℕ → Compiled → Type 0
HasOwnLegs legs program = IsTrue (list_all (λ leg. nat_lt leg legs) (legs_in program.code))
