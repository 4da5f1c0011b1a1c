use Rattle.csv.specs.Records.{fields_of}
use Rattle.pay_tables.proofs.ReadLemmas.{Told, advances, error_changed, stays}
use Rattle.pay_tables.proofs.records.Records.advance.Goals as goal
use Rattle.pay_tables.proofs.records.Records.advance.Goals.{After-map_err}

-- the read of the file, by its clauses
told : (c : After-map_err) → Told c.self.inside.reader c.read_byte_record.new.self (fields_of c.read_byte_record.new.row) c.read_byte_record.result
told c =
    let e = c.read_byte_record.ensures in
    record { ready = e.ready; reads = e.reads; flexible = e.flexible; goes = e.goes; fails = e.fails; failed = e.failed; why = e.why }

pub invariant_of-self : goal.invariant_of-self
invariant_of-self c = stays c.self.inside.reader _ _ c.read_byte_record.result c.self.invariant (told c)

pub returns : goal.returns
returns c =
    rw (← c.self.view_is) (error_changed c.read_byte_record.result c.map_err.result _ _ c.map_err.ensures.cases
    (advances c.self.inside.reader _ (fields_of c.self.inside.last) _ c.read_byte_record.result c.self.invariant (told c)))
