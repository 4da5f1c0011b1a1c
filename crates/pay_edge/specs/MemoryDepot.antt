-- What a depot in memory means, and what of it a call leaves.
use Rattle.std.specs.Prelude.{◌≡◌, ℕ, Bool, List, [], map}
use Rattle.std.specs.declared.option.Option.{Option}
use Rattle.std.specs.declared.option.Option.TheVariants.{Some}
use Rattle.std.specs.String.{string_bytes}
use Rattle.std.specs.FinMap.{from_entries, empty}
use Rattle.pay_edge.specs.Edge.{Files}
use Rattle.pay_edge.specs.Failures.{count_of, is_planned}
use Rattle.pay_edge.specs.declared.memory_depot.Entry.{Entry}
use Rattle.pay_edge.specs.declared.memory_depot.MemoryDepot.{MemoryDepot}

-- an entry's name and bytes
abbrev pub pair_of : Entry → List ℕ × List ℕ
pair_of entry = (string_bytes entry.name, entry.bytes.items)

-- its files: of entries with one name the first counts
abbrev pub memory_files : MemoryDepot → Files
memory_files depot = from_entries (map pair_of depot.entries.items)

-- they are told
abbrev pub memory_told : MemoryDepot → Option Files
memory_told depot = Some (memory_files depot)

-- how often a fetch of each name failed
abbrev pub memory_read_faults : MemoryDepot → List ℕ → ℕ
memory_read_faults depot = count_of depot.failed.items

-- how often a replace failed
abbrev pub memory_write_faults : MemoryDepot → ℕ
memory_write_faults depot = depot.write_faults

-- how many fetches there were
abbrev pub memory_fetches : MemoryDepot → ℕ
memory_fetches depot = depot.fetches

-- how many replaces there were
abbrev pub memory_replaces : MemoryDepot → ℕ
memory_replaces depot = depot.replaces

-- the numbers of the fetches that are to fail
abbrev pub planned_fetches : MemoryDepot → List ℕ
planned_fetches depot = depot.fetches_to_fail.items

-- the numbers of the replaces that are to fail
abbrev pub planned_replaces : MemoryDepot → List ℕ
planned_replaces depot = depot.replaces_to_fail.items

-- the next fetch is to fail
abbrev pub fails_fetch : MemoryDepot → Bool
fails_fetch depot = is_planned (planned_fetches depot) (memory_fetches depot)

-- the next replace is to fail
abbrev pub fails_replace : MemoryDepot → Bool
fails_replace depot = is_planned (planned_replaces depot) (memory_replaces depot)

-- Nothing was stored, counted or planned.
pub record IsNewDepot (depot : MemoryDepot) : Type 0 where
  pub files : memory_files depot ≡ empty
  pub read_faults : (name : List ℕ) → memory_read_faults depot name ≡ 0
  pub write_faults : memory_write_faults depot ≡ 0
  pub fetches : memory_fetches depot ≡ 0
  pub replaces : memory_replaces depot ≡ 0
  pub fetches_to_fail : planned_fetches depot ≡ []
  pub replaces_to_fail : planned_replaces depot ≡ []

-- No count of faults and no number of calls has changed.
pub record SameCounts (old new : MemoryDepot) : Type 0 where
  pub read_faults : memory_read_faults new ≡ memory_read_faults old
  pub write_faults : memory_write_faults new ≡ memory_write_faults old
  pub fetches : memory_fetches new ≡ memory_fetches old
  pub replaces : memory_replaces new ≡ memory_replaces old

-- The same calls are to fail.
pub record SamePlans (old new : MemoryDepot) : Type 0 where
  pub fetches : planned_fetches new ≡ planned_fetches old
  pub replaces : planned_replaces new ≡ planned_replaces old
