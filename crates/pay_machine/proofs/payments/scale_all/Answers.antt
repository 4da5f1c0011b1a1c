use Rattle.std.proofs.Common.{arith}
use Rattle.pay_machine.proofs.PaymentLemmas.{scaled_more}
use Rattle.pay_machine.proofs.payments.scale_all.Goals as goal

pub loop-payment-preserved : goal.loop-payment-preserved
loop-payment-preserved c =
    scaled_more c.args.weight c.loop-payment.payment-index c.loop-payment.payments c.args.payments.now c.payment-item.result c.scale-payment.result
    (omega arith) (omega arith) c.loop-payment.invariant.0 c.loop-payment.invariant.1 c.scale-payment.ensures
