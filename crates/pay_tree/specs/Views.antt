-- The trees of a script as the plain data of the language. What the code calls `Expr`, `Cond`, `Stmt`, `Unary`, `Binary` and `Compare` is a
-- number, a condition, a statement, an operator and a comparison here; a tree's `Number` is a literal, its `Name` a variable, its `If` a choice.
use Rattle.std.specs.Prelude.{List, [], ◌∷◌, map}
use Rattle.pay_meaning.specs.Language.{Operator, add, subtract, multiply, divide, least, greatest, Number, literal, variable, spot, period, days}
use Rattle.pay_meaning.specs.Language.{negative, absolute, binary, Comparison, less, at_most, greater, at_least, equals, differs, bare, Condition}
use Rattle.pay_meaning.specs.Language.{compare, negation, conjunction, disjunction, Statement, assign, pay, choose, Body, done, next, Event, Item}
use Rattle.pay_meaning.specs.Language.{plain, scheduled, Script}
use Rattle.pay_tree.specs.declared.tree.Binary.{Binary}
use Rattle.pay_tree.specs.declared.tree.Binary.TheVariants.{Add, Sub, Mul, Div, Min, Max}
use Rattle.pay_tree.specs.declared.tree.Unary.{Unary}
use Rattle.pay_tree.specs.declared.tree.Unary.TheVariants.{Neg, Abs}
use Rattle.pay_tree.specs.declared.tree.Expr.{Expr}
use Rattle.pay_tree.specs.declared.tree.Expr.TheOpen.{Expr-F}
use Rattle.pay_tree.specs.declared.tree.Expr.TheFolds.{fold-Expr}
use Rattle.pay_tree.specs.declared.tree.Compare.{Compare}
use Rattle.pay_tree.specs.declared.tree.Compare.TheVariants.{Less, LessEq, More, MoreEq, Same, Differs}
use Rattle.pay_tree.specs.declared.tree.Cond.{Cond}
use Rattle.pay_tree.specs.declared.tree.Cond.TheOpen.{Cond-F}
use Rattle.pay_tree.specs.declared.tree.Cond.TheFolds.{fold-Cond}
use Rattle.pay_tree.specs.declared.tree.Stmt.{Stmt}
use Rattle.pay_tree.specs.declared.tree.Stmt.TheOpen.{Stmt-F}
use Rattle.pay_tree.specs.declared.tree.Stmt.TheFolds.{fold-Stmt}
use Rattle.pay_tree.specs.declared.tree.Item.{Item as ItemTree}
use Rattle.pay_tree.specs.declared.tree.Item.TheVariants as item_tree
use Rattle.pay_tree.specs.declared.tree.Script.{Script as ScriptTree}
use Rattle.pay_tree.specs.declared.tree.NamedEvent.{NamedEvent}

-- the operator that an operator of a tree is
abbrev pub operator : Binary → Operator
operator Add = add
operator Sub = subtract
operator Mul = multiply
operator Div = divide
operator Min = least
operator Max = greatest

-- the number that a number under an operator of a tree is
abbrev pub signed : Unary → Number → Number
signed Neg number = negative number
signed Abs number = absolute number

-- the number that an expression is, given those of its sides
abbrev pub number_part : Expr-F Number → Number
number_part (Expr-F.Number raw) = literal raw
number_part (Expr-F.Name name) = variable name
number_part Expr-F.Spot = spot
number_part Expr-F.Period = period
number_part Expr-F.Days = days
number_part (Expr-F.Unary op side) = signed op side.value
number_part (Expr-F.Binary op left right) = binary (operator op) left.value right.value

-- the number that an expression is
abbrev pub number : Expr → Number
number = fold-Expr Number number_part

-- the comparison that a comparison of a tree is
abbrev pub comparison : Compare → Comparison
comparison Less = less
comparison LessEq = at_most
comparison More = greater
comparison MoreEq = at_least
comparison Same = equals
comparison Differs = differs

-- the condition that a condition of a tree is, given those of its sides
abbrev pub condition_part : Cond-F Condition → Condition
condition_part (Cond-F.Compare op left right) = compare (comparison op) (number left.value) (number right.value) bare
condition_part (Cond-F.Not side) = negation side.value
condition_part (Cond-F.And left right) = conjunction left.value right.value
condition_part (Cond-F.Or left right) = disjunction left.value right.value

-- the condition that a condition of a tree is
abbrev pub condition : Cond → Condition
condition = fold-Cond Condition condition_part

-- the body of statements in their order
abbrev pub body_of : List Statement → Body
body_of [] = done
body_of (first ∷ rest) = next first (body_of rest)

-- the statement that a statement of a tree is, given those of its branches
abbrev pub statement_part : Stmt-F Statement → Statement
statement_part (Stmt-F.Assign name value) = assign name (number value)
statement_part (Stmt-F.Pay leg amount) = pay leg (number amount)
statement_part (Stmt-F.If cond yes_part no_part) = choose (condition cond) (body_of yes_part.items) (body_of no_part.items)

-- the statement that a statement of a tree is
abbrev pub statement : Stmt → Statement
statement = fold-Stmt Statement statement_part

-- the body that statements of a tree are
abbrev pub body : List Stmt → Body
body statements = body_of (map statement statements)

-- the item that an item of a tree is
abbrev pub item : ItemTree → Item
item (item_tree.Plain date statements) = plain date (body statements.items)
item (item_tree.Schedule first last every unit rule statements) =
    scheduled (record { first = first; last = last; every = every; unit = unit; rule = rule }) (body statements.items)

-- the script that a tree is
abbrev pub script : ScriptTree → Script
script tree = map item tree.items.items

-- the event that an event with names is
abbrev pub event : NamedEvent → Event
event e = record { date = e.date; period = e.period; days = e.days; body = body e.body.items }
