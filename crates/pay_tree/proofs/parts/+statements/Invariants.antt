use Rattle.std.proofs.Common.{◌≡◌, ◌++◌, drop, map}
use Rattle.pay_meaning.specs.Parts.{body_parts}
use Rattle.pay_tree.specs.Views.{body}
use Rattle.pay_tree.specs.PartViews.{part}
use Rattle.pay_tree.proofs.parts.+statements.Given as goal

-- the parts so far and those of what is left are all parts
abbrev pub invariant-add_body-loop-statement : goal.invariant-add_body-loop-statement
invariant-add_body-loop-statement l =
    map part l.parts.items ++ body_parts (body (drop l.statement-index l.body)) ≡ map part l.initial.parts.items ++ body_parts (body l.body)
