use Rattle.std.proofs.Common.{◌≡◌, ◌+◌, ◌∷◌, [], arith}
use Rattle.std.proofs.lemmas.Map.Views.{All-values-insert_entry}
use Rattle.std.proofs.lemmas.Result.{err_from_is_err_and}
use Rattle.std.specs.BTreeMap.{btree_map_len}
use Rattle.pay_dates.specs.Days.{day_cmp}
use Rattle.pay_tables.specs.Reader.{current, left}
use Rattle.pay_tables.specs.Tables.{IsCell}
use Rattle.pay_tables.proofs.DayMaps.{cells-values, has_days-keys, keys-more, ordered-rising}
use Rattle.pay_tables.proofs.PastLemmas.{more_up_to, refused_up_to, accepted_up_to, in_order_up_to}
use Rattle.pay_tables.proofs.fixings_file.read_rows.Goals as goal

pub returns-in_err-date-clause-refused : goal.returns-in_err-date-clause-refused
returns-in_err-date-clause-refused c =
    let p = err_from_is_err_and c.from_residual-in_err-date.result c.from_residual-in_err-date.ensures.1 in
    let cut : left c.loop-fixings.records ≡ current c.advance.new.self ∷ left c.advance.new.self = rw c.if-branch.true at c.in_ok-advance.ensures in
    rw (p.1, p.2) (refused_up_to _ _ c.loop-fixings.invariant.so_far cut c.len.ensures.len c.in_err-date.ensures.refused)

pub loop-fixings-preserved : goal.loop-fixings-preserved
loop-fixings-preserved c =
    let cells = c.loop-fixings.fixings.entries in
    let date = c.in_ok-date.date in
    let value = c.in_ok-date.value in
    let new = c.in_ok-date.ensures.new in
    let put = c.in_ok-insert.ensures.entries in
    let cut : left c.loop-fixings.records ≡ current c.advance.new.self ∷ left c.advance.new.self = rw c.if-branch.true at c.in_ok-advance.ensures in
    let longer : btree_map_len c.insert.new.self ≡ btree_map_len c.loop-fixings.fixings + 1 =
    rw (c.in_ok-insert.ensures.old, has_days-keys cells date, new) at c.in_ok-insert.ensures.len in
    let keys = keys-more cells c.insert.new.self.entries date value c.in_ok-insert.ensures.updates.0 in
    record {
      few = omega (arith, c.in_ok-date.ensures.few, c.len.ensures.len);
      so_far = more_up_to (date, value) _ c.loop-fixings.invariant.so_far cut c.len.ensures.len c.in_ok-date.ensures.accepted
          c.in_ok-date.ensures.read new put keys longer;
      ordered = c.insert.ensures.ordered;
      cells = rw put (All-values-insert_entry day_cmp date value IsCell cells c.loop-fixings.invariant.cells c.in_ok-date.ensures.cell);
    }

pub returns-clause-accepted : goal.returns-clause-accepted
returns-clause-accepted c =
    let ends : left c.loop-fixings.records ≡ [] = rw c.if-branch.false at c.in_ok-advance.ensures in
    accepted_up_to c.loop-fixings.invariant.so_far ends

pub returns-clause-read : goal.returns-clause-read
returns-clause-read c =
    let ends : left c.loop-fixings.records ≡ [] = rw c.if-branch.false at c.in_ok-advance.ensures in
    in_order_up_to c.loop-fixings.invariant.so_far ends c.loop-fixings.invariant.ordered

pub returns-clause-good : goal.returns-clause-good
returns-clause-good c = record {
  few = c.loop-fixings.invariant.few;
  rising = ordered-rising _ c.loop-fixings.invariant.ordered;
  fixings = cells-values _ c.loop-fixings.invariant.cells;
}
