use Rattle.std.proofs.Common.{◌≡◌, ◌+◌, ◌≤◌, ◌++◌, length, take, map}
use Rattle.std.specs.Vec.{vec_len, vec_capacity}
use Rattle.pay_runs.specs.Slots.{slot_value}
use Rattle.pay_machine.proofs.saved.Saved.save.Given as goal

-- the values of the variables so far are saved, and there is room for the rest
abbrev pub invariant-loop-slot : goal.invariant-loop-slot
invariant-loop-slot l = record {
  items : l.self-inside.values.items ≡ l.fn.self.entries ++ map (slot_value l.slots) (take l.slot-index l.changes);
  count : vec_len l.self-inside.values ≡ length l.fn.self.entries + l.slot-index;
  room : l.self-inside.room ≡ l.fn.self.room;
  capacity : l.self-inside.room ≤ vec_capacity l.self-inside.values;
}
