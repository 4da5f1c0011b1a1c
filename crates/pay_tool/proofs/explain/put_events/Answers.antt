-- What is said of one event more.
use Rattle.std.proofs.Common.{arith}
use Rattle.pay_tool.proofs.Explained.{event_put, event_part}
use Rattle.pay_tool.proofs.explain.put_events.Goals as goal

pub returns-in_err-put_piece-clause-front : goal.returns-in_err-put_piece-clause-front
returns-in_err-put_piece-clause-front g c =
    event_part _ _ _ _ _ _ _ c.loop-at.invariant.put c.in_ok-text.ensures.onward (rw c.as_slice.ensures.value at c.put_piece.ensures.front)

pub loop-at-preserved : goal.loop-at-preserved
loop-at-preserved g c = record {
  known = c.in_ok-text.ensures.known;
  put = event_put _ _ _ _ _ _ _ c.loop-at.invariant.put c.in_ok-text.ensures.onward (rw c.as_slice.ensures.value at c.in_ok-put_piece.ensures.ok);
  never_falls = omega arith;
}
