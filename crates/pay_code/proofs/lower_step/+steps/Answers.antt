use Rattle.std.proofs.Common.{◌≡◌, ◌+◌, [], ◌∷◌, ◌++◌, length, sym, ap, ◌∙◌, append_assoc, length-append}
use Rattle.std.proofs.Math.ListN.{set}
use Rattle.std.proofs.lemmas.Result.{on_ok_weaker}
use Rattle.pay_code.specs.declared.op.Op.TheVariants as op
use Rattle.pay_code.specs.Flat.{step_code, step_table, steps_code, steps_table, test_code}
use Rattle.pay_tree.specs.OwnedViews.{step_tree, steps_tree, test_tree}
use Rattle.pay_tree.proofs.OwnedLemmas.{step-if}
use Rattle.pay_code.proofs.LoweringLemmas.{choice_written}
use Rattle.pay_code.proofs.lower_step.+steps.Goals as goal

pub lower_step-returns-in_ok-lower_steps-in-If-2-clause-code : goal.lower_step-returns-in_ok-lower_steps-in-If-2-clause-code
lower_step-returns-in_ok-lower_steps-in-If-2-clause-code t c =
    let before = c.args.ops.now.items in
    let from = length c.args.changed.now.items in
    let yes_part = steps_tree c.in-If.yes.items in
    let no_part = steps_tree c.in-If.no.items in
    let count = length c.in-If.changes.items in
    let yes_named = c.in_ok-lower_steps-in-If.ensures.table in
    let no_named = c.in_ok-lower_steps-in-If-2.ensures.table in
    let second : length c.lower_steps.new.changed.items ≡ from + length (steps_table yes_part) =
    ap length yes_named ∙ length-append c.args.changed.now.items (steps_table yes_part) in
    let first : length c.lower_steps-in-If.new.changed.items ≡ from + length (steps_table yes_part) + length (steps_table no_part) =
    ap length no_named ∙ length-append c.lower_steps.new.changed.items (steps_table no_part) ∙ ap (λ n. n + length (steps_table no_part)) second in
    let turned = c.turn_choice.new.ops.items in
    let ended = c.lower_steps-in-If.new.ops.items in
    let seen = ap step_tree c.in-If.is ∙ step-if _ _ _ _ in
    on_ok_weaker c.end_choice.result
    (λ closed. choice_written before _ _ _ _ _ _ (test_code (length before) (test_tree c.in-If.test)) (λ there. steps_code there from yes_part)
    (λ there. steps_code there (from + length (steps_table yes_part)) no_part) _ _ _ _
    c.in_ok-lower_test-in-If.ensures c.in_ok-choice-in-If.ensures.place c.in_ok-choice-in-If.ensures.added c.in_ok-lower_steps-in-If.ensures.code
    c.in_ok-turn-in-If.ensures.place c.in_ok-turn-in-If.ensures.added
    (c.in_ok-lower_steps-in-If-2.ensures.code ∙ ap (λ n. turned ++ steps_code (length turned) n no_part) second)
    (closed ∙ ap (λ n. set ended c.in_ok-turn-in-If.turn (op.Else (length ended)) ++ (op.EndIf n count ∷ [])) first)
    ∙ ap (λ step. before ++ step_code (length before) from step) (sym seen))
    c.end_choice.ensures.code

pub lower_step-returns-in_ok-lower_steps-in-If-2-clause-table : goal.lower_step-returns-in_ok-lower_steps-in-If-2-clause-table
lower_step-returns-in_ok-lower_steps-in-If-2-clause-table t c =
    let before = c.args.changed.now.items in
    let yes_table = steps_table (steps_tree c.in-If.yes.items) in
    let no_table = steps_table (steps_tree c.in-If.no.items) in
    let changes = c.in-If.changes.items in
    let seen = ap step_tree c.in-If.is ∙ step-if _ _ _ _ in
    on_ok_weaker c.end_choice.result
    (λ closed. closed ∙ ap (λ table. table ++ changes) (c.in_ok-lower_steps-in-If-2.ensures.table
    ∙ ap (λ table. table ++ no_table) c.in_ok-lower_steps-in-If.ensures.table)
    ∙ append_assoc (before ++ yes_table) no_table changes ∙ append_assoc before yes_table (no_table ++ changes)
    ∙ ap (λ step. before ++ step_table step) (sym seen))
    c.end_choice.ensures.table
