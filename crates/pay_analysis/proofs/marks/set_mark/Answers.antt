use Rattle.std.proofs.Common.{ap, ◌∙◌}
use Rattle.pay_analysis.specs.Marks.{put_mark}
use Rattle.pay_analysis.proofs.MarkLemmas.{put_at}
use Rattle.pay_analysis.proofs.marks.set_mark.Goals as goal

pub returns : goal.returns
returns c =
    put_at c.make_room.new.marks.items c.args.id c.args.mark c.in_ok-make_room.ensures.room
    ∙ ap (λ marks. put_mark marks c.args.id c.args.mark) c.in_ok-make_room.ensures.same
