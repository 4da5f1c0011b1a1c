-- The parts of a tree as the parts of a script.
use Rattle.pay_meaning.specs.Parts as meant
use Rattle.pay_meaning.specs.Parts.{a_number, a_condition, a_statement, as_variable, as_leg}
use Rattle.pay_tree.specs.Views.{number, condition, statement}
use Rattle.pay_tree.specs.declared.parts.Part.{Part}
use Rattle.pay_tree.specs.declared.parts.Part.TheVariants as tree
use Rattle.pay_tree.specs.declared.parts.Role.{Role}
use Rattle.pay_tree.specs.declared.parts.Role.TheVariants.{Variable, Leg}

abbrev pub part : Part → meant.Part
part (tree.Number expression) = a_number (number expression.now)
part (tree.Condition one) = a_condition (condition one.now)
part (tree.Statement one) = a_statement (statement one.now)

abbrev pub role : Role → meant.Role
role Variable = as_variable
role Leg = as_leg
