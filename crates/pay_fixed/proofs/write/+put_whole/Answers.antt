-- The digits of a number are those of its tenth, and the last one.
use Rattle.std.proofs.Common.{◌≡◌, ◌+◌, ◌/◌, ◌%◌, [], ◌∷◌, ◌++◌, ap, ◌∙◌, length, length-append, arith, append_assoc}
use Rattle.std.specs.Fmt.{decimal}
use Rattle.std.proofs.lemmas.Fmt.{decimal_digit, decimal_step}
use Rattle.std.proofs.lemmas.Grind.{common_steps}
use Rattle.pay_fixed.proofs.write.+put_whole.Goals as goal
use Rattle.pay_fixed.proofs.write.+put_whole.Goals.{then-number-ge10+in_ok-put_whole, else-number-ge10}

pub returns-clause-ok : goal.returns-clause-ok
returns-clause-ok t c = elim c.if-number-ge10.branch [
  | then-number-ge10+in_ok-put_whole w ↦
      let e : decimal c.args.number ≡ decimal (c.args.number / 10) ++ ((48 + c.args.number % 10) ∷ []) =
      decimal_step c.args.number (omega arith) (omega arith) in
      grind (arith, common_steps, append_assoc)
  | else-number-ge10 w ↦
      let e : decimal c.args.number ≡ (48 + c.args.number) ∷ [] = decimal_digit c.args.number (omega arith) in
      grind (arith, common_steps, append_assoc)
]

pub returns-in_err-put_whole-clause-full : goal.returns-in_err-put_whole-clause-full
returns-in_err-put_whole-clause-full t c =
    let e : decimal c.args.number ≡ decimal (c.args.number / 10) ++ ((48 + c.args.number % 10) ∷ []) =
    decimal_step c.args.number (omega arith) (omega arith) in
    let size : length (decimal c.args.number) ≡ length (decimal (c.args.number / 10)) + 1 =
    ap length e ∙ length-append (decimal (c.args.number / 10)) ((48 + c.args.number % 10) ∷ []) in
    grind (arith, common_steps)

pub returns-in_err-push-clause-full : goal.returns-in_err-push-clause-full
returns-in_err-push-clause-full t c = elim c.if-number-ge10.branch [
  | then-number-ge10+in_ok-put_whole w ↦
      let e : decimal c.args.number ≡ decimal (c.args.number / 10) ++ ((48 + c.args.number % 10) ∷ []) =
      decimal_step c.args.number (omega arith) (omega arith) in
      let size : length (decimal c.args.number) ≡ length (decimal (c.args.number / 10)) + 1 =
      ap length e ∙ length-append (decimal (c.args.number / 10)) ((48 + c.args.number % 10) ∷ []) in
      let tenth = length-append c.args.into.now.items (decimal (c.args.number / 10)) in
      grind (arith, common_steps)
  | else-number-ge10 w ↦
      let size : length (decimal c.args.number) ≡ 1 = ap length (decimal_digit c.args.number (omega arith)) in
      grind (arith, common_steps)
]
