use Rattle.std.proofs.Common.{◌≡◌, map, take}
use Rattle.pay_tree.specs.Views.{statement}
use Rattle.pay_tree.proofs.copy.+statements.Given as goal

-- the copy so far is the same as the statements that it is of
abbrev pub invariant-copy_body-loop-statement : goal.invariant-copy_body-loop-statement
invariant-copy_body-loop-statement l = map statement l.copy.items ≡ map statement (take l.statement-index l.body)
