use Rattle.std.proofs.Common.{◌≡◌, drop}
use Rattle.pay_edge.proofs.Entries.{found}
use Rattle.pay_edge.proofs.memory_depot.MemoryDepot.bytes_of.Given as goal

abbrev pub invariant-loop-entry : goal.invariant-loop-entry
invariant-loop-entry l = found l.name (drop l.entry-index l.entry-items) ≡ found l.name l.self.entries.items
