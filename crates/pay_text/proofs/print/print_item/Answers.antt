use Rattle.std.proofs.Common.{◌++◌, codes, sym, ap, ◌∙◌}
use Rattle.pay_meaning.specs.Language.{Terms}
use Rattle.pay_text.specs.Text as text_of
use Rattle.pay_tree.specs.Views as view
use Rattle.pay_text.proofs.PrintLemmas.{three_pieces}
use Rattle.pay_text.proofs.print.print_item.Goals as goal

pub returns-in_ok-extend_from_slice-in-Schedule : goal.returns-in_ok-extend_from_slice-in-Schedule
returns-in_ok-extend_from_slice-in-Schedule c =
    let terms : Terms = record {
      first = c.in-Schedule.first;
      last = c.in-Schedule.last;
      every = c.in-Schedule.every;
      unit = c.in-Schedule.unit;
      rule = c.in-Schedule.rule;
    } in
    let body = text_of.body_text text_of.item_indent (view.body c.in-Schedule.body.items) in
    three_pieces c.args.text.now.items (text_of.schedule_line terms) body (codes "end\n") _ _ _
    c.in_ok-print_schedule_line-in-Schedule.ensures (rw c.deref-in-Schedule.ensures.value at c.in_ok-print_statements-in-Schedule.ensures)
    c.in_ok-extend_from_slice-in-Schedule.ensures.items
    ∙ ap (λ item. c.args.text.now.items ++ text_of.item_text (view.item item)) (sym c.in-Schedule.is)
