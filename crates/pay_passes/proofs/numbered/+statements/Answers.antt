use Rattle.std.proofs.Common.{rules, arith}
use Rattle.std.proofs.lemmas.Grind.{common_steps}
use Rattle.std.proofs.lemmas.List.{map-append}
use Rattle.pay_tree.proofs.TreeLemmas.{statement-choose}
use Rattle.pay_tree.specs.declared.tree.Stmt.{the_lemmas}
use Rattle.pay_passes.proofs.NumberingLemmas.{condition_grows, body_grows, body_next, body_end, before_none, one_more_before}
use Rattle.pay_passes.proofs.numbered.+statements.Goals as goal

pub statement-condition-requires : goal.statement-condition-requires
statement-condition-requires t c = record { room = grind (arith, common_steps, statement-choose, condition_grows, body_grows) }

pub statement-statements-requires : goal.statement-statements-requires
statement-statements-requires t c = (search (rules, the_lemmas), grind (arith, common_steps, statement-choose, body_grows))

pub statements-statement-requires : goal.statements-statement-requires
statements-statement-requires t c =
    let opens = body_next c.args.stmts.now.items c.deref-stmt-items.result.now c.loop-stmt.stmt-index c.stmt-item.result c.deref-stmt-items.ensures.value c.loop-stmt-test.true c.stmt-item.is in
    (search (rules, the_lemmas), grind (arith, common_steps, opens, body_grows))

pub statements-loop-stmt-preserved : goal.statements-loop-stmt-preserved
statements-loop-stmt-preserved t c =
    let opens = body_next c.args.stmts.now.items c.deref-stmt-items.result.now c.loop-stmt.stmt-index c.stmt-item.result c.deref-stmt-items.ensures.value c.loop-stmt-test.true c.stmt-item.is in
    record {
      room = grind (arith, common_steps, opens);
      steps = grind (arith, common_steps, opens, one_more_before, map-append);
      next = grind (arith, common_steps, opens);
      written = grind (arith, common_steps, opens);
    }

pub statements-returns-clause-steps : goal.statements-returns-clause-steps
statements-returns-clause-steps t c =
    let ends = body_end c.args.stmts.now.items c.deref-stmt-items.result.now c.loop-stmt.stmt-index c.deref-stmt-items.ensures.value c.loop-stmt-test.false in
    grind (arith, common_steps, ends, before_none)
