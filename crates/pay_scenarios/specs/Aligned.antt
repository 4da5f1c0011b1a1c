-- The cells of a scenario for a program, and what its runs need.
use Rattle.std.specs.Prelude.{ℤ, List, map, Option, IfSome}
use Rattle.pay_code.specs.Programs.{Compiled}
use Rattle.pay_compile.specs.Compiling.{MeansDirectly, CountsNodes}
use Rattle.pay_facts.specs.Facts.{no_facts}
use Rattle.pay_machine.specs.Runs.{Serves, HasRoom}
use Rattle.pay_meaning.specs.Meaning.{Past}
use Rattle.pay_simplified.specs.Simplified.{simplified}
use Rattle.pay_tables.specs.Tables.{IsGoodPast}
use Rattle.pay_scenarios.specs.Columns.{fixing_from}
use Rattle.pay_passes.specs.declared.trade.Trade.{Trade}
use Rattle.pay_passes.specs.Trades.{spelled_trade}
use Rattle.pay_scenarios.specs.declared.aligned.Runs.{Runs}
use Rattle.pay_scenarios.specs.declared.columns.FixingSource.{FixingSource}

-- the cells that these sources have in a row
abbrev pub cells_from : List FixingSource → List (Option ℤ) → List (Option ℤ)
cells_from sources cells = map (λ source. fixing_from source cells) sources

-- each run of a program means what the events of a trade mean, and evaluates the nodes of their simplified script
pub record RunsMean (trade : Trade) (program : Compiled) : Type 0 where
  pub means : MeansDirectly trade.names.items trade.legs.items (spelled_trade trade) program
  pub counts : CountsNodes (simplified (spelled_trade trade) no_facts) program

-- past fixings, where there are any, are good
abbrev pub AreGoodIfGiven : Option Past → Type 0
AreGoodIfGiven past = IfSome past (λ known. IsGoodPast known.cells)

-- a machine and an outcome are prepared for a program
pub record AreFor (runs : Runs) (program : Compiled) : Type 0 where
  pub serves : Serves runs.machine program
  pub room : HasRoom runs.outcome program
