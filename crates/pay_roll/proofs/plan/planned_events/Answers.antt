use Rattle.std.proofs.Common.{◌≡◌, ◌+◌, ◌∷◌, drop, map, arith, add-one, ap}
use Rattle.std.proofs.Math.Seq.{drop-cons}
use Rattle.pay_tree.specs.Views.{item}
use Rattle.pay_roll.proofs.PlanLemmas.{rest_good, events_more}
use Rattle.pay_roll.proofs.plan.planned_events.Goals as goal

pub loop-item-preserved : goal.loop-item-preserved
loop-item-preserved c =
    let first = c.item-item.result in
    let place = c.loop-item.item-index in
    let rest = map item (drop (place + 1) c.args.items.now) in
    let cut : map item (drop place c.args.items.now) ≡ item first ∷ rest =
    rw (add-one, ap item c.item-item.is) (ap (map item) (drop-cons c.args.items.now place first c.loop-item-test.true)) in
    record {
      good = rest_good (place + 1) (item first) rest (rw cut at c.loop-item.invariant.good);
      rest = events_more (item first) rest _ _ _ (rw cut at c.loop-item.invariant.rest) c.in_ok-add_item.ensures.added;
      few = omega (arith, c.len.ensures, c.if-len.false);
    }
