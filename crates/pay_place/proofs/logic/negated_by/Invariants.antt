use Rattle.std.proofs.Common.{◌≡◌, drop, length}
use Rattle.pay_tree.specs.Views.{condition}
use Rattle.pay_grammar.specs.Reading.{negated_by}
use Rattle.pay_place.proofs.logic.negated_by.Given as goal

-- the `not`s that are left make the rest
abbrev pub invariant-loop : goal.invariant-loop
invariant-loop l = negated_by (length l.fn.nots) (condition l.fn.condition) ≡ negated_by (length (drop l.index l.nots)) (condition l.condition)
