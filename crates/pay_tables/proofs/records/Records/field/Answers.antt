use Rattle.std.proofs.Common.{refl}
use Rattle.csv.specs.Records.{fields_of}
use Rattle.pay_tables.proofs.BlankLemmas.{field-trimmed}
use Rattle.pay_tables.proofs.records.Records.field.Goals as goal

pub returns-in-Some : goal.returns-in-Some
returns-in-Some c =
    rw (← c.self.view_is, c.trimmed.ensures, field-trimmed (fields_of c.self.inside.last) c.args.at, ← c.in-Some.ensures.value) refl

pub returns-in-None : goal.returns-in-None
returns-in-None c =
    rw (← c.self.view_is, field-trimmed (fields_of c.self.inside.last) c.args.at, ← c.in-None.ensures.value) c.as_slice.ensures
