-- The lines so far and those of the payments that are left are all lines.
use Rattle.std.proofs.Common.{◌≡◌, ◌++◌, drop, map}
use Rattle.pay_machine.specs.Outcomes.{payment}
use Rattle.pay_report.specs.Detail.{payment_lines}
use Rattle.pay_report.specs.Lines.{IsReady, written}
use Rattle.pay_report.proofs.detail_writer.write_payments.Given as goal

abbrev pub invariant-loop-payment : goal.invariant-loop-payment
invariant-loop-payment l = record {
  ready : IsReady l.lines.writer;
  rest : written l.initial.lines.writer ++ payment_lines l.label (map (payment l.legs) l.payments)
      ≡ written l.lines.writer ++ payment_lines l.label (map (payment l.legs) (drop l.payment-index l.payments));
}
