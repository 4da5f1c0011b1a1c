use Rattle.std.proofs.Common.{◌≡◌, ◌+◌, ◌≤◌, drop}
use Rattle.pay_code.specs.Bounds.{pays_in}
use Rattle.pay_code.proofs.lowering.count_pays.Given as goal

-- the payments so far and those of what is left are all payments
abbrev pub invariant-loop-op : goal.invariant-loop-op
invariant-loop-op l = record {
  counted : pays_in l.ops.items ≡ l.pays + pays_in (drop l.op-index l.ops.items);
  within : l.pays ≤ l.op-index;
}
