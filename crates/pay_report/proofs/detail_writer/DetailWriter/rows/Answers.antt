-- The label of a scenario is written without quotes.
use Rattle.pay_report.proofs.Plain.{label_is_plain}
use Rattle.pay_report.proofs.detail_writer.DetailWriter.rows.Goals as goal

pub write_scenario-requires-clause-label : goal.write_scenario-requires-clause-label
write_scenario-requires-clause-label c = label_is_plain c.bytes.result.now c.bytes.ensures.label
