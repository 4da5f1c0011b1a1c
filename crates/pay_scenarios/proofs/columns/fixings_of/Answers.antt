use Rattle.std.proofs.Common.{arith}
use Rattle.std.proofs.lemmas.Grind.{common_steps}
use Rattle.pay_scenarios.proofs.ColumnLemmas.{get-inserted}
use Rattle.std.specs.FinMap.{get-empty}
use Rattle.pay_scenarios.proofs.columns.fixings_of.Goals as goal

pub loop-index-init : goal.loop-index-init
loop-index-init c = λ number. grind (arith, common_steps, get-empty)

pub loop-index-preserved-in_ok-insert : goal.loop-index-preserved-in_ok-insert
loop-index-preserved-in_ok-insert c = λ number. grind (arith, common_steps, get-inserted, c.loop-index.invariant number)
