-- That a program is that of the simplified script.
use Rattle.std.specs.Prelude.{◌≡◌, List, map, Option}
use Rattle.pay_dates.specs.declared.day.Day.{Day}
use Rattle.pay_facts.specs.Facts.{no_facts}
use Rattle.pay_passes.specs.declared.trade.Trade.{Trade}
use Rattle.pay_passes.specs.Trades.{IsGood, spelled_trade}
use Rattle.pay_simplified.specs.Simplified.{simplified}
use Rattle.pay_tree.specs.Owned.{spelled_event}
use Rattle.pay_compile.specs.Compiling.{events_until}
use Rattle.pay_compile.specs.Prepared.{prepared}

-- The events that the program of a good trade has, up to a date or all of them, stand for the simplified script of the trade's own events up to that
-- date, from no variables.
abbrev pub PreparedIsSimplified : Type 0
PreparedIsSimplified = (until : Option Day) (trade : Trade) → IsGood trade
    → map (spelled_event trade.names.items trade.legs.items) (prepared until trade) ≡ simplified (events_until until (spelled_trade trade)) no_facts
