use Rattle.std.proofs.Common.{◌≡◌, drop, length}
use Rattle.pay_tree.specs.Views.{number}
use Rattle.pay_grammar.specs.Reading.{signed_by}
use Rattle.pay_place.proofs.number.signed_by.Given as goal

-- the signs that are left make the rest
abbrev pub invariant-loop : goal.invariant-loop
invariant-loop l = signed_by (length l.fn.signs) (number l.fn.atom) ≡ signed_by (length (drop l.index l.signs)) (number l.atom)
