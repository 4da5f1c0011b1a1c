use Rattle.std.proofs.Common.{refl}
use Rattle.pay_tables.specs.Records.{records_in}
use Rattle.pay_tables.proofs.records.Records.new.Goals as goal

pub returns : goal.returns
unfolding records_in
returns c =
    let made = c.from_reader-reader.ensures in
    rw (made.state, made.source, c.after_mark.ensures) refl
