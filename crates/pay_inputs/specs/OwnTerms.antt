-- What a script has, with `period()` and `days()` as the numbers that they are in each event.
use Rattle.std.specs.Prelude.{map}
use Rattle.pay_passes.specs.Terms.{at_own_terms}
use Rattle.pay_inputs.specs.Trades.{Trade}
use Rattle.pay_inputs.specs.Inputs.{Input, not_there, bad, good}

-- the same variables and legs, and the events with these numbers
abbrev pub at_terms : Trade → Trade
at_terms trade = record { variables = trade.variables; legs = trade.legs; events = map at_own_terms trade.events }

-- the same of a script as an input
abbrev pub input_at_terms : Input Trade → Input Trade
input_at_terms not_there = not_there
input_at_terms (bad refusal) = bad refusal
input_at_terms (good trade) = good (at_terms trade)
