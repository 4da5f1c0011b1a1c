use Rattle.std.proofs.Common.{◌≤◌, nat_eq, map, ap, sym, ◌∙◌, arith, length, drop_of_length-le}
use Rattle.std.specs.declared.option.Option.TheVariants.{Some}
use Rattle.std.specs.Cmp.Lexicographic.{pointwise, nat_list_cmp_total}
use Rattle.std.specs.FinMap.{get-from_entries}
use Rattle.pay_edge.specs.MemoryDepot.{pair_of}
use Rattle.pay_edge.proofs.Entries.{found, found-here, found-beyond}
use Rattle.pay_edge.proofs.memory_depot.MemoryDepot.bytes_of.Goals as goal

pub returns-then-eq : goal.returns-then-eq
returns-then-eq c =
    ap Some c.deref.ensures.value
    ∙ sym (found-here c.args.name.now c.deref-entry-items.result.now c.loop-entry.entry-index c.entry-item.result (omega arith) c.entry-item.is
    (ap (pointwise nat_eq c.args.name.now) (sym c.as_str.ensures.value) ∙ sym c.eq.ensures ∙ c.if-eq.true))
    ∙ c.loop-entry.invariant
    ∙ sym (get-from_entries nat_list_cmp_total (map pair_of c.args.self.now.entries.items) c.args.name.now)

pub loop-entry-preserved : goal.loop-entry-preserved
loop-entry-preserved c =
    found-beyond c.args.name.now c.deref-entry-items.result.now c.loop-entry.entry-index c.entry-item.result (omega arith) c.entry-item.is
    (ap (pointwise nat_eq c.args.name.now) (sym c.as_str.ensures.value) ∙ sym c.eq.ensures ∙ c.if-eq.false)
    ∙ c.loop-entry.invariant

pub returns : goal.returns
returns c =
    let past : length c.deref-entry-items.result.now ≤ c.loop-entry.entry-index = omega arith in
    ap (found c.args.name.now) (sym (drop_of_length-le c.deref-entry-items.result.now past))
    ∙ c.loop-entry.invariant
    ∙ sym (get-from_entries nat_list_cmp_total (map pair_of c.args.self.now.entries.items) c.args.name.now)
