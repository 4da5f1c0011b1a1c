use Rattle.std.proofs.Common.{rules, arith}
use Rattle.std.proofs.lemmas.Grind.{common_steps}
use Rattle.pay_tree.proofs.TreeLemmas.{number-binary}
use Rattle.pay_tree.specs.declared.tree.Expr.{the_lemmas}
use Rattle.pay_passes.proofs.NumberingLemmas.{number_grows}
use Rattle.pay_passes.proofs.numbered.+number.Goals as goal

pub number-requires-in-Binary : goal.number-requires-in-Binary
number-requires-in-Binary t c = (search (rules, the_lemmas), grind (arith, common_steps, number-binary, number_grows))
