-- The lines of an `if` are its first line, those of its branches, and its last one.
use Rattle.std.proofs.Common.{ap, ◌∙◌}
use Rattle.pay_tree.specs.OwnedViews.{step_tree}
use Rattle.pay_tree.proofs.OwnedLemmas.{step-if}
use Rattle.pay_print.proofs.PrintLemmas.{four_appended}
use Rattle.pay_print.proofs.steps.+steps.Goals as goal

pub append_step-returns-in_ok-append_else-in-If : goal.append_step-returns-in_ok-append_else-in-If
append_step-returns-in_ok-append_else-in-If t c =
    let seen = ap step_tree c.in-If.is ∙ step-if _ _ _ _ in
    rw seen (four_appended c.print_word_line.result _ _ _ _ _ _ _ _ _
    (rw c.deref.ensures.value at c.in_ok-print_choice_line-in-If.ensures)
    (rw (c.deref-in-If.ensures.value, c.deref-in-If-2.ensures.value, c.in_ok-inner-in-If.ensures) at c.in_ok-append_steps-in-If.ensures)
    (rw c.deref-in-If-3.ensures.value at c.in_ok-append_else-in-If.ensures) c.print_word_line.ensures)
