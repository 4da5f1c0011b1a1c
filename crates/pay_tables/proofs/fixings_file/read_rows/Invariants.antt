use Rattle.std.proofs.Common.{◌≤◌, length}
use Rattle.std.specs.BTreeMap.{IsOrdered, btree_map_len, values}
use Rattle.std.specs.List.{All}
use Rattle.pay_dates.specs.Days.{day_cmp}
use Rattle.pay_tables.specs.Reader.{left}
use Rattle.pay_tables.specs.Tables.{IsCell}
use Rattle.pay_tables.proofs.PastLemmas.{IsUpTo}
use Rattle.pay_tables.proofs.fixings_file.read_rows.Given as goal

-- the rows so far are in the map
abbrev pub invariant-loop-fixings : goal.invariant-loop-fixings
invariant-loop-fixings l = record {
  few : btree_map_len l.fixings ≤ 100_000;
  so_far : IsUpTo (left l.initial.records) (left l.records) l.fixings.entries;
  ordered : IsOrdered day_cmp l.fixings;
  cells : All IsCell (values l.fixings);
}

-- a row is read in each turn
abbrev pub decreases-loop-fixings : goal.decreases-loop-fixings
decreases-loop-fixings l = length (left l.records)
