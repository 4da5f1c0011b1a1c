-- The name of a leg is written without quotes.
use Rattle.pay_report.proofs.Plain.{name_is_plain}
use Rattle.pay_report.proofs.detail_writer.write_payments.Goals as goal

pub write_payment-requires-clause-leg : goal.write_payment-requires-clause-leg
write_payment-requires-clause-leg c = name_is_plain c.bytes-leg.result.now c.bytes-leg.ensures.name
