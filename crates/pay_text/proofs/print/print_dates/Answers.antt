use Rattle.std.proofs.Common.{codes}
use Rattle.pay_dates.specs.Days.{day_text}
use Rattle.pay_text.proofs.PrintLemmas.{four_pieces}
use Rattle.pay_text.proofs.print.print_dates.Goals as goal

pub returns : goal.returns
returns c =
    four_pieces c.args.text.now.items (codes "schedule from @") (day_text c.args.first) (codes " to @") (day_text c.args.last) _ _ _ _
    c.in_ok-extend_from_slice.ensures.items c.in_ok-print_day.ensures c.in_ok-extend_from_slice-2.ensures.items c.in_ok-print_day-2.ensures
