use Rattle.std.proofs.Common.{◌≡◌, ℤ, drop, map}
use Rattle.std.specs.Ordering.{int_cmp}
use Rattle.std.specs.BTreeMap.{get}
use Rattle.std.specs.FinMap as fixing
use Rattle.pay_meaning.specs.Meaning.{fixings_in}
use Rattle.pay_tables.specs.Views.{past_cell}
use Rattle.pay_scenarios.proofs.columns.fixings_of.Given as goal

-- the map has the fixings of the rows from here on
abbrev pub invariant-loop-index : goal.invariant-loop-index
invariant-loop-index l = (number : ℤ) → get int_cmp l.fixings number ≡ fixing.get (fixings_in (map past_cell (drop l.index l.rows))) number
