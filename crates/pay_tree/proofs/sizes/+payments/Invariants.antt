use Rattle.std.proofs.Common.{◌≡◌, ◌+◌, drop}
use Rattle.pay_meaning.specs.Parts.{body_parts, payment_count}
use Rattle.pay_tree.specs.Sizes.{up_to}
use Rattle.pay_tree.specs.Views.{body}
use Rattle.pay_tree.proofs.sizes.+payments.Given as goal

-- the payments so far and those of what is left are all payments
abbrev pub invariant-body_payments-loop-statement : goal.invariant-body_payments-loop-statement
invariant-body_payments-loop-statement l = record {
  counted : up_to 16_384 (l.payments + payment_count (body_parts (body (drop l.statement-index l.body)))) ≡ up_to 16_384 (payment_count (body_parts (body l.body)));
  within : up_to 16_384 l.payments ≡ l.payments;
}
