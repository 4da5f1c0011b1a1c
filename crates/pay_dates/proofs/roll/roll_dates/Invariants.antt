use Rattle.std.proofs.Common.{◌-ℤ◌, unsigned_abs}
use Rattle.pay_dates.specs.Days.{day_number}
use Rattle.pay_dates.proofs.RollLemmas.{IsAt}
use Rattle.pay_dates.proofs.roll.roll_dates.Given as goal

-- where the periods so far lead, and their rolls
abbrev pub invariant-loop-first : goal.invariant-loop-first
invariant-loop-first l = IsAt l.first l.last l.every l.unit l.rule l.period l.day l.before l.rolls.items

-- the days to the last one
abbrev pub decreases-loop-first : goal.decreases-loop-first
decreases-loop-first l = unsigned_abs (day_number l.last -ℤ day_number l.day)
