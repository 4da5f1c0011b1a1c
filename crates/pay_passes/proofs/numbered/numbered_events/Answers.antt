use Rattle.std.proofs.Common.{◌+◌, map, drop}
use Rattle.pay_tree.specs.Views.{event}
use Rattle.pay_passes.proofs.EventForms.{events_next, first_room}
use Rattle.pay_passes.proofs.numbered.numbered_events.Goals as goal

pub event-requires : goal.event-requires
event-requires c =
    let opens = events_next c.args.events.now.items c.deref-one-items.result.now c.loop-one.one-index c.one-item.result c.deref-one-items.ensures.value c.loop-one-test.true c.one-item.is in
    record { room = first_room (event c.one-item.result) (map event (drop (c.loop-one.one-index + 1) c.args.events.now.items)) (rw opens at c.loop-one.invariant.room) }
