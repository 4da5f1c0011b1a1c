-- The events that a program has: those of a trade up to a date, simplified by what is known before a run, with their choices filled in.
use Rattle.std.specs.Prelude.{ℕ, ℤ, pos, List, map, Option}
use Rattle.std.specs.List.{filter}
use Rattle.pay_dates.specs.declared.day.Day.{Day}
use Rattle.pay_domains.specs.Pieces.{point}
use Rattle.pay_facts.specs.SlotFacts.{SlotDomains}
use Rattle.pay_passes.specs.declared.trade.Trade.{Trade}
use Rattle.pay_passes.specs.Trades.{trees_of}
use Rattle.pay_simplified.specs.Pruning.{filled_event, pruned}
use Rattle.pay_tree.specs.Owned.{EventTree}
use Rattle.pay_compile.specs.Compiling.{is_until}

-- the events that are not after a date, where there is one
abbrev pub kept_until : Option Day → List EventTree → List EventTree
kept_until until events = filter (λ event. is_until until event.date) events

-- events with their choices filled in, pruned from these raws of the variables, and filled in again, since less may be assigned then
abbrev pub prepared_from : List EventTree → SlotDomains → List EventTree
prepared_from events domains = map filled_event (pruned (map filled_event events) domains)

-- each variable is 0
abbrev pub zero_domains : List (List ℕ) → SlotDomains
zero_domains names = map (λ name. point (pos 0)) names

-- the events of a trade that are not after a date, prepared from zeros
abbrev pub prepared : Option Day → Trade → List EventTree
prepared until trade = prepared_from (kept_until until (trees_of trade)) (zero_domains trade.names.items)

-- one value for each name, and each is 0
abbrev pub no_values : List (List ℕ) → List ℤ
no_values names = map (λ name. pos 0) names
