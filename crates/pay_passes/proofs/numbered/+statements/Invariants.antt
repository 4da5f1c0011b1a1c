use Rattle.std.proofs.Common.{◌≡◌, ◌≤◌, map, drop}
use Rattle.pay_tree.specs.OwnedViews.{step_tree}
use Rattle.pay_tree.specs.Views.{body}
use Rattle.pay_passes.specs.Numbering.{after_body, numbered_body, is_written}
use Rattle.pay_passes.proofs.NumberingLemmas.{before_steps}
use Rattle.pay_passes.proofs.numbered.+statements.Given as goal

-- the steps so far and those of what is left are those of all statements, and so are their places; and where what is left is written, all is
abbrev pub invariant-statements-loop-stmt : goal.invariant-statements-loop-stmt
invariant-statements-loop-stmt l = record {
  room : after_body l.next (body (drop l.stmt-index l.stmts.items)) ≤ 262_144;
  steps : numbered_body l.numbers.variables.names.now l.numbers.legs.names.now l.terms.period l.terms.days l.initial.next (body l.stmts.items)
      ≡ before_steps (map step_tree l.steps.items)
      (numbered_body l.numbers.variables.names.now l.numbers.legs.names.now l.terms.period l.terms.days l.next (body (drop l.stmt-index l.stmts.items)));
  next : after_body l.initial.next (body l.stmts.items) ≡ after_body l.next (body (drop l.stmt-index l.stmts.items));
  written : is_written (body l.stmts.items) ≡ is_written (body (drop l.stmt-index l.stmts.items));
}
