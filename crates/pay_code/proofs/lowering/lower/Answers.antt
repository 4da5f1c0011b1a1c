use Rattle.std.proofs.Common.{◌≡◌, ◌++◌, length, map, sym, subst, ◌∙◌}
use Rattle.pay_code.specs.Flat.{flat_code, events_code, events_table}
use Rattle.pay_code.specs.Programs.{CanBeLowered, AreGoodOps}
use Rattle.pay_tree.specs.OwnedViews.{event_tree}
use Rattle.pay_code.proofs.GoodOps.{good_events}
use Rattle.pay_code.proofs.lowering.lower.Goals as goal

pub invariant_of-result : goal.invariant_of-result
invariant_of-result c =
    let trees = map event_tree c.args.events.now in
    let no_ops = c.new-ops.ensures.items in
    let none_changed = c.new-changed.ensures.items in
    let code : c.lower_events.new.ops.items ≡ flat_code trees =
    c.in_ok-lower_events.ensures.code ∙ (λ i. no_ops i ++ events_code (length (no_ops i)) (length (none_changed i)) trees) in
    let table : c.lower_events.new.changed.items ≡ events_table trees =
    c.in_ok-lower_events.ensures.table ∙ (λ i. none_changed i ++ events_table trees) in
    let lowered = subst (λ start. CanBeLowered trees (length start)) (sym c.in_ok-from_slice.ensures.items) c.requires in (
      c.count_pays-pays.ensures,
      c.in_ok-check_lengths.ensures.ops,
      c.in_ok-check_lengths.ensures.changed,
      subst AreGoodOps (sym code) (good_events trees 0 0 c.requires.smooth),
      record { events = trees; stands = record { lowered = lowered; code = code; table = table; dates = c.in_ok-copy_dates.ensures } },
    )
