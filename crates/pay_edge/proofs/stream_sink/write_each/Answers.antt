use Rattle.std.proofs.Common.{◌-◌, length, drop, arith, length-take}
use Rattle.pay_edge.proofs.Streams.{took_more}
use Rattle.pay_edge.proofs.stream_sink.write_each.Goals as goal

pub loop-written-preserved : goal.loop-written-preserved
loop-written-preserved g c =
    let bytes = c.args.bytes.now in
    let done = c.loop-written.written in
    let size = length-take (length bytes - done) (drop done bytes) in
    let fits = c.in_ok-count.ensures.bound in
    record {
      within = omega arith;
      begun = took_more _ _ _ bytes done c.in_ok-count.count (omega arith) c.loop-written.invariant.begun c.in_ok-count.ensures.bytes;
    }
