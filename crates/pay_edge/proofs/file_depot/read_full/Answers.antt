use Rattle.std.proofs.Common.{rules}
use Rattle.pay_edge.proofs.Streams.{gave_more}
use Rattle.pay_edge.proofs.file_depot.read_full.Goals as goal

pub loop-count-preserved : goal.loop-count-preserved
loop-count-preserved g c =
    let kept = c.loop-count.invariant in
    record {
      size = search rules;
      within = search rules;
      bytes = gave_more _ _ _ _ _ _ _ _ kept.within c.in_ok-more.ensures.bound.0 kept.bytes c.in_ok-more.ensures.bytes.0;
    }
