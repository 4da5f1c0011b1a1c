-- An amount is written without quotes.
use Rattle.std.proofs.Common.{◌∙◌, ◌++◌, ap}
use Rattle.pay_fixed.specs.Decimal.{decimal_text}
use Rattle.pay_report.proofs.Plain.{amount_is_plain}
use Rattle.pay_report.proofs.lines.Lines.write_payment.Goals as goal

pub write_line-requires-clause-amount : goal.write_line-requires-clause-amount
write_line-requires-clause-amount c =
    let text = c.as_slice.ensures.value ∙ c.in_ok-write_decimal.ensures.ok ∙ ap (λ front. front ++ decimal_text c.args.amount) c.clear.ensures.items in
    rw text (amount_is_plain c.args.amount)
