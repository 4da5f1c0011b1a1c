-- What a checked script has.
use Rattle.std.specs.Prelude.{ℕ, List}
use Rattle.pay_meaning.specs.Language.{Event, Script}
use Rattle.pay_meaning.specs.Events.{events_of}
use Rattle.pay_meaning.specs.Parts.{as_variable, as_leg, names_of}

-- what a script has: its variables and its legs by their first appearance in its text, and its events in order of date
pub record Trade : Type 0 where
  pub variables : List (List ℕ)
  pub legs : List (List ℕ)
  pub events : List Event

abbrev pub trade_of : Script → Trade
trade_of script = record { variables = names_of as_variable script; legs = names_of as_leg script; events = events_of script }
