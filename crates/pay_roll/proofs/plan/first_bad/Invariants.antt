use Rattle.std.proofs.Common.{◌≡◌, ◌+◌, drop, map}
use Rattle.pay_roll.specs.Rolling.{first_bad}
use Rattle.pay_tree.specs.Views.{item}
use Rattle.pay_roll.proofs.plan.first_bad.Given as goal

-- what is left decides
abbrev pub invariant-loop-item : goal.invariant-loop-item
invariant-loop-item l = record {
  counted : l.number ≡ l.item-index;
  rest : first_bad 1 (map item l.items) ≡ first_bad (l.number + 1) (map item (drop l.item-index l.items));
}
