use Rattle.pay_tables.proofs.TableLaws.{table-is-spelled}
use Rattle.pay_tables.proofs.laws.table_is_spelled.Goals as goal

pub returns : goal.returns
returns c = table-is-spelled
