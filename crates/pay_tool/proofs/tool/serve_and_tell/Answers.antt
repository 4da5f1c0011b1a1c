-- Where the line of an exit wants memory, nothing was put, and want of memory has its cause.
use Rattle.std.proofs.Common.{inl, inr, ap}
use Rattle.pay_tool.proofs.Ended.{memory_instead, names_early}
use Rattle.pay_tool.proofs.tool.serve_and_tell.Goals as goal

pub returns-clause-caused : goal.returns-clause-caused
returns-clause-caused g c = elim c.tell.ensures.kept [
  | inl same ↦ rw same c.serve-exit.ensures.caused
  | inr instead ↦ rw instead.0 (memory_instead _ _ _ c.serve-exit.ensures.caused instead.1
      (ap g.O.Sink.text (c.serve-exit.ensures.untouched (names_early _ instead.1))))
]
