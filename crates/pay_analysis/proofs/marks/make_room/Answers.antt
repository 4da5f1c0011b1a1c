use Rattle.std.proofs.Common.{◌+◌, ap, ◌∙◌, arith}
use Rattle.pay_analysis.specs.Marks.{marks_at}
use Rattle.pay_analysis.proofs.MarkLemmas.{grown_marks}
use Rattle.pay_analysis.proofs.marks.make_room.Goals as goal

pub returns-in_ok-resize-clause-same : goal.returns-in_ok-resize-clause-same
returns-in_ok-resize-clause-same c =
    ap marks_at c.in_ok-resize.ensures.items ∙ grown_marks c.args.marks.now.items (c.args.place + 1) _ (omega (arith, c.if-len-place.true, c.len.ensures))
