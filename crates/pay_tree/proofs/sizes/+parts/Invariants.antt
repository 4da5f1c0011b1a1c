use Rattle.std.proofs.Common.{◌≡◌, ◌+◌, drop, length}
use Rattle.pay_meaning.specs.Parts.{body_parts}
use Rattle.pay_tree.specs.Sizes.{up_to}
use Rattle.pay_tree.specs.Views.{body}
use Rattle.pay_tree.proofs.sizes.+parts.Given as goal

-- the parts so far and those of what is left are all parts
abbrev pub invariant-body_size-loop-statement : goal.invariant-body_size-loop-statement
invariant-body_size-loop-statement l = record {
  counted : up_to 262_144 (l.size + length (body_parts (body (drop l.statement-index l.body)))) ≡ up_to 262_144 (length (body_parts (body l.body)));
  within : up_to 262_144 l.size ≡ l.size;
}
