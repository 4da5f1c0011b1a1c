use Rattle.std.proofs.Common.{◌∙◌}
use Rattle.pay_text.proofs.PrintLemmas.{else_lines}
use Rattle.pay_text.proofs.print.+statements.Goals as goal

pub print_else-returns-in_ok-print_statements-in-len1-up : goal.print_else-returns-in_ok-print_statements-in-len1-up
print_else-returns-in_ok-print_statements-in-len1-up t c =
    else_lines _ _ _ _ _ _ c.in-len1-up.len_at_least c.in_ok-print_word_line-in-len1-up.ensures
    (c.deref.ensures.value ∙ c.in_ok-inner-in-len1-up.ensures) c.in_ok-print_statements-in-len1-up.ensures
