-- The texts of what a script has: what the commands `check`, `events` and `explain` answer.
use Rattle.std.specs.Prelude.{ℕ, codes, List, [], ◌∷◌, ◌++◌, length}
use Rattle.std.specs.Fmt.{decimal}
use Rattle.std.specs.List.{flat_map}
use Rattle.pay_dates.specs.Days.{day_text}
use Rattle.pay_meaning.specs.Language.{Event}
use Rattle.pay_explain.specs.Explaining.{explain_text}
use Rattle.pay_facts.specs.Facts.{no_facts}
use Rattle.pay_inputs.specs.Trades.{Trade}

-- a line `events 5`
abbrev pub count_line : List ℕ → ℕ → List ℕ
count_line word count = word ++ (32 ∷ (decimal count ++ 10 ∷ []))

-- how many events, variables and legs there are, a line each
abbrev pub check_text : Trade → List ℕ
check_text trade =
    count_line (codes "events") (length trade.events)
    ++ (count_line (codes "variables") (length trade.variables) ++ count_line (codes "legs") (length trade.legs))

-- a line `2024-02-29,1,29`: the date of an event, the number of its step, and the days since the date of the step before
abbrev pub event_line : Event → List ℕ
event_line event = day_text event.date ++ (44 ∷ (decimal event.period ++ (44 ∷ (decimal event.days ++ 10 ∷ []))))

-- the events in order of date, a line each, below a line that names the columns
abbrev pub events_text : Trade → List ℕ
events_text trade = codes "date,period,days\n" ++ flat_map event_line trade.events

-- what is said of the events in order of date: for each one its line, its simplified steps, and a line for each variable with all raws that it can
-- have after the event
abbrev pub explained_text : Trade → List ℕ
explained_text trade = explain_text trade.variables trade.events no_facts
