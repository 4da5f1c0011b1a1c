use Rattle.std.proofs.Common.{subst, sym}
use Rattle.std.specs.declared.option.Option.TheVariants.{Some}
use Rattle.pay_edge.specs.Edge.{Files, SameOthers}
use Rattle.pay_edge.specs.MemoryDepot.{memory_files, memory_told}
use Rattle.pay_edge.proofs.Entries.{insert_others}
use Rattle.pay_edge.proofs.memory_depot.MemoryDepotDepot.replace.Goals as goal

pub returns-clause-other_files : goal.returns-clause-other_files
returns-clause-other_files c =
    subst (λ (files : Files). SameOthers c.args.name.now (memory_told c.args.self.now) (Some files)) (sym c.in_ok-add.ensures.ok)
    (insert_others (memory_files c.args.self.now) c.args.name.now c.args.bytes.now)
