use Rattle.std.proofs.Common.{◌≡◌, map, length}
use Rattle.pay_meaning.specs.Events.{shared_date}
use Rattle.pay_roll.specs.Plans.{planned}
use Rattle.pay_roll.proofs.order.first_shared_date.Given as goal

-- what is left decides
abbrev pub invariant-loop-rest : goal.invariant-loop-rest
invariant-loop-rest l = shared_date (map planned l.events) ≡ shared_date (map planned l.rest)

abbrev pub decreases-loop-rest : goal.decreases-loop-rest
decreases-loop-rest l = length l.rest
