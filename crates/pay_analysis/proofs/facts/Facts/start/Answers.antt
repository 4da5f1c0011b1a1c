use Rattle.std.proofs.Common.{sym, subst, take}
use Rattle.pay_analysis.specs.Walking.{AreDomains}
use Rattle.pay_analysis.proofs.SlotLemmas.{points_domains}
use Rattle.pay_analysis.proofs.facts.Facts.start.Goals as goal

pub returns-clause-good : goal.returns-clause-good
returns-clause-good c =
    subst AreDomains (sym c.loop-value.invariant.points) (points_domains (take c.loop-value.value-index c.args.values.now))
