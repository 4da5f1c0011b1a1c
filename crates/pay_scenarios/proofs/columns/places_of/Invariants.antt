use Rattle.std.proofs.Common.{◌≡◌, ℤ, drop}
use Rattle.std.specs.Ordering.{int_cmp}
use Rattle.std.specs.BTreeMap.{get}
use Rattle.pay_scenarios.specs.Columns.{place_of}
use Rattle.pay_scenarios.proofs.ColumnLemmas.{further}
use Rattle.pay_scenarios.proofs.columns.places_of.Given as goal

-- the map has the places of the dates from here on
abbrev pub invariant-loop-index : goal.invariant-loop-index
invariant-loop-index l = (number : ℤ) → get int_cmp l.places number ≡ further l.index (place_of number (drop l.index l.dates))
