use Rattle.pay_dates.proofs.DayLemmas.{same_day, earlier_is_smaller, epoch_is_zero, next_is_one_more}
use Rattle.pay_dates.proofs.laws.day_number_orders.Goals as goal

pub returns-clause-names : goal.returns-clause-names
returns-clause-names c = same_day

pub returns-clause-orders : goal.returns-clause-orders
returns-clause-orders c = earlier_is_smaller

pub returns-clause-epoch : goal.returns-clause-epoch
returns-clause-epoch c = epoch_is_zero

pub returns-clause-next : goal.returns-clause-next
returns-clause-next c = next_is_one_more
