use Rattle.pay_dates.proofs.ScheduleLemmas.{rolls_rise, unadjusted_rise, reach_last, no_weekend, in_month}
use Rattle.pay_dates.proofs.laws.rolls_are_a_schedule.Goals as goal

pub returns-clause-rise : goal.returns-clause-rise
returns-clause-rise c = rolls_rise

pub returns-clause-unadjusted_rise : goal.returns-clause-unadjusted_rise
returns-clause-unadjusted_rise c = unadjusted_rise

pub returns-clause-reach_last : goal.returns-clause-reach_last
returns-clause-reach_last c = reach_last

pub returns-clause-no_weekend : goal.returns-clause-no_weekend
returns-clause-no_weekend c = no_weekend

pub returns-clause-in_month : goal.returns-clause-in_month
returns-clause-in_month c = in_month
