use Rattle.pay_tables.proofs.TableFaults.{table-refusal-has-cause}
use Rattle.pay_tables.proofs.laws.table_refusal_has_cause.Goals as goal

pub returns : goal.returns
returns c = table-refusal-has-cause
