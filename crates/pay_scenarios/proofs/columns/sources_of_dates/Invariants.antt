use Rattle.std.proofs.Common.{◌≡◌, take, map}
use Rattle.pay_scenarios.specs.Columns.{source_of}
use Rattle.pay_inputs.specs.PastViews.{lent_past}
use Rattle.pay_scenarios.proofs.columns.sources_of_dates.Given as goal

-- the sources so far are those of the dates so far
abbrev pub invariant-loop-date : goal.invariant-loop-date
invariant-loop-date l = l.sources.items ≡ map (λ date. source_of (lent_past l.past) l.dates date) (take l.date-index l.own)
