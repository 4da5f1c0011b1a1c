use Rattle.std.proofs.Common.{◌≡◌, ◌-◌, ◌≤◌, length, take}
use Rattle.std.specs.Io.KnownBytes.{Consumes}
use Rattle.pay_edge.proofs.file_depot.read_full.Given as goal

abbrev pub invariant-loop-count : goal.invariant-loop-count
invariant-loop-count g l = record {
  size : length l.into ≡ length l.fn.into;
  within : l.count ≤ length l.into;
  bytes : Consumes (g.F.Read.remaining l.fn.stream) (g.F.Read.remaining l.stream) (take l.count l.into);
}

abbrev pub decreases-loop-count : goal.decreases-loop-count
decreases-loop-count g l = length l.into - l.count
