-- A program without a last date has all events of the trade.
use Rattle.std.proofs.Common.{subst, List, map}
use Rattle.pay_compile.specs.Compiling.{CountsNodes, MeansDirectly}
use Rattle.pay_facts.specs.Facts.{no_facts}
use Rattle.pay_meaning.specs.Language.{Event}
use Rattle.pay_passes.specs.Trades.{spelled_trade}
use Rattle.pay_simplified.specs.Simplified.{simplified}
use Rattle.pay_scenarios.proofs.RunLines.{all_kept}
use Rattle.pay_scenarios.proofs.aligned.AlignedProgram.new.Goals as goal

pub returns-clause-means : goal.returns-clause-means
returns-clause-means c =
    let trade = c.args.trade.now in
    let program = c.in_ok-program.program in
    record {
      means = subst (λ (events : List Event). MeansDirectly trade.names.items trade.legs.items events program) (all_kept (spelled_trade trade))
          c.in_ok-program.ensures.means;
      counts = subst (λ (events : List Event). CountsNodes (simplified events no_facts) program) (all_kept (spelled_trade trade))
          c.in_ok-program.ensures.counts;
    }
