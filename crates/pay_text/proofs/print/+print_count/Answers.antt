-- The digits of a count are those of its tenth, and the last one.
use Rattle.std.proofs.Common.{◌≡◌, ◌+◌, ◌/◌, ◌%◌, [], ◌∷◌, ◌++◌, arith, append_assoc}
use Rattle.std.specs.Fmt.{decimal}
use Rattle.std.proofs.lemmas.Fmt.{decimal_digit, decimal_step}
use Rattle.std.proofs.lemmas.Grind.{common_steps}
use Rattle.pay_text.proofs.print.+print_count.Goals as goal
use Rattle.pay_text.proofs.print.+print_count.Goals.{then-count-ge10+in_ok-print_count, else-count-ge10}

pub returns : goal.returns
returns t c = elim c.if-count-ge10.branch [
  | then-count-ge10+in_ok-print_count w ↦
      let e : decimal c.args.count ≡ decimal (c.args.count / 10) ++ ((48 + c.args.count % 10) ∷ []) =
      decimal_step c.args.count (omega arith) (omega arith) in
      grind (arith, common_steps, append_assoc)
  | else-count-ge10 w ↦
      let e : decimal c.args.count ≡ (48 + c.args.count) ∷ [] = decimal_digit c.args.count (omega arith) in
      grind (arith, common_steps, append_assoc)
]
