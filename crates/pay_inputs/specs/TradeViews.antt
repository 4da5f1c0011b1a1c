-- A trade of the code as what a script has: its events are those that it stands for.
use Rattle.pay_passes.specs.declared.trade.Trade.{Trade}
use Rattle.pay_passes.specs.Trades.{spelled_trade}
use Rattle.pay_inputs.specs.Trades as meant

abbrev pub trade : Trade → meant.Trade
trade t = record { variables = t.names.items; legs = t.legs.items; events = spelled_trade t }
