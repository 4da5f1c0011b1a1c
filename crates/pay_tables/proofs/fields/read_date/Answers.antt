use Rattle.std.proofs.Common.{sym}
use Rattle.pay_tables.proofs.FieldLemmas.{day_in-other}
use Rattle.pay_tables.proofs.fields.read_date.Goals as goal

pub returns-in_err-as_array : goal.returns-in_err-as_array
returns-in_err-as_array c = rw c.from_residual.ensures (sym (day_in-other c.args.field.now c.in_err-as_array.ensures.cases))
