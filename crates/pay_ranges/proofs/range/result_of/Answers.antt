-- For domains of raws, what an operator makes is the result.
use Rattle.std.proofs.Common.{◌∙◌}
use Rattle.pay_facts.proofs.ResultLemmas.{proper, reach-is-result}
use Rattle.pay_ranges.proofs.range.result_of.Goals as goal

pub returns-clause-same : goal.returns-clause-same
returns-clause-same c =
    c.in_ok-ranged.ensures.same
    ∙ reach-is-result _ _ _ (proper c.args.left.now c.are_in_order.ensures) (proper c.args.right.now c.are_in_order-2.ensures) c.requires.left c.requires.right
