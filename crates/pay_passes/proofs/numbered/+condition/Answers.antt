use Rattle.std.proofs.Common.{rules, arith}
use Rattle.std.proofs.lemmas.Grind.{common_steps}
use Rattle.pay_tree.specs.declared.tree.Cond.{the_lemmas}
use Rattle.pay_passes.proofs.ConditionLemmas.{condition-compare, condition-not, condition-and, condition-or}
use Rattle.pay_passes.proofs.NumberingLemmas.{number_grows, condition_grows}
use Rattle.pay_passes.proofs.numbered.+condition.Goals.{in-Compare+in_ok-number-in-Compare+in_ok-left-in-Compare+in_ok-number-in-Compare-2+in_ok-right-in-Compare, in-Not+in_ok-side-in-Not+in_ok-new-in-Not, in-And+in_ok-condition-in-And+in_ok-left-in-And+in_ok-condition-in-And-2+in_ok-right-in-And, in-Or+in_ok-condition-in-Or+in_ok-left-in-Or+in_ok-condition-in-Or-2+in_ok-right-in-Or}
use Rattle.pay_passes.proofs.numbered.+condition.Goals as goal

pub number-requires : goal.number-requires
number-requires t c = record { room = grind (arith, common_steps, condition-compare, number_grows) }

pub condition-requires-in-And : goal.condition-requires-in-And
condition-requires-in-And t c = (search (rules, the_lemmas), grind (arith, common_steps, condition-and, condition_grows))

pub condition-requires-in-Or : goal.condition-requires-in-Or
condition-requires-in-Or t c = (search (rules, the_lemmas), grind (arith, common_steps, condition-or, condition_grows))

pub returns-clause-next : goal.returns-clause-next
returns-clause-next t c = elim c.match-cond.branch [
  | in-Compare+in_ok-number-in-Compare+in_ok-left-in-Compare+in_ok-number-in-Compare-2+in_ok-right-in-Compare w ↦ grind (arith, common_steps, condition-compare)
  | in-Not+in_ok-side-in-Not+in_ok-new-in-Not w ↦ grind (arith, common_steps, condition-not)
  | in-And+in_ok-condition-in-And+in_ok-left-in-And+in_ok-condition-in-And-2+in_ok-right-in-And w ↦ grind (arith, common_steps, condition-and)
  | in-Or+in_ok-condition-in-Or+in_ok-left-in-Or+in_ok-condition-in-Or-2+in_ok-right-in-Or w ↦ grind (arith, common_steps, condition-or)
]
