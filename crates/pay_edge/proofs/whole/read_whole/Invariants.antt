use Rattle.std.proofs.Common.{◌+◌, ◌-◌, ◌<◌, ◌≤◌, vec_len}
use Rattle.std.specs.Prelude.{IfSome}
use Rattle.pay_edge.specs.Edge.{OnlyRead, SameBut, IsBegun}
use Rattle.pay_edge.proofs.whole.read_whole.Given as goal

abbrev pub invariant-loop-bytes : goal.invariant-loop-bytes
invariant-loop-bytes g l = record {
  room : 0 < vec_len l.buffer;
  reads : OnlyRead g.D.Depot.files g.D.Depot.read_faults g.D.Depot.write_faults l.fn.depot l.depot;
  other_names : SameBut l.name (g.D.Depot.read_faults l.fn.depot) (g.D.Depot.read_faults l.depot);
  fetches : g.D.Depot.fetches l.depot ≤ g.D.Depot.fetches l.fn.depot + vec_len l.bytes;
  within : vec_len l.bytes ≤ l.limit;
  front : IfSome (g.D.Depot.files l.depot) (λ files. IsBegun files l.name l.bytes.items);
}

abbrev pub decreases-loop-bytes : goal.decreases-loop-bytes
decreases-loop-bytes g l = l.limit - vec_len l.bytes
