use Rattle.std.proofs.Common.{◌∙◌}
use Rattle.pay_dates.proofs.StepLemmas.{step_is, can_step}
use Rattle.pay_dates.proofs.roll.sum.Goals as goal

pub add-requires : goal.add-requires
add-requires c =
    rw c.date.ensures.date (can_step c.args.first c.args.unit c.args.count c.span_of.result c.requires c.span_of.ensures c.date.ensures.in_range)

pub returns-clause-number : goal.returns-clause-number
returns-clause-number c = c.add.ensures ∙ rw c.date.ensures.date (step_is c.args.first c.args.unit c.args.count c.span_of.result c.span_of.ensures)
