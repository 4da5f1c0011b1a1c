-- The canonical text of a script: a line for each date, the lines of each statement, and brackets round each operation with two sides.
-- Truth literals, conditions that are sure and groups, which no script has that is read, have a text that shows them; where groups alone stand
-- in a branch, the text of simplified steps has a rule of its own for `else`.
use Rattle.std.specs.Prelude.{ℕ, Bool, true, false, codes, List, [], ◌++◌}
use Rattle.std.specs.Fmt.{decimal}
use Rattle.std.specs.List.{flat_map}
use Rattle.pay_dates.specs.Days.{day_text}
use Rattle.pay_dates.specs.declared.day.Day.{Day}
use Rattle.pay_dates.specs.declared.roll.Rule.{Rule}
use Rattle.pay_dates.specs.declared.roll.Rule.TheVariants.{Stay, Following, Preceding, Modified}
use Rattle.pay_dates.specs.declared.roll.Unit.{Unit as StepUnit}
use Rattle.pay_fixed.specs.Decimal.{decimal_text}
use Rattle.pay_meaning.specs.Language.{Operator, add, subtract, multiply, divide, least, greatest, Number, literal, variable, spot, period, days}
use Rattle.pay_meaning.specs.Language.{negative, absolute, binary, Comparison, less, at_most, greater, at_least, equals, differs, Condition}
use Rattle.pay_meaning.specs.Language.{compare, negation, conjunction, disjunction, settled, sure, Statement, assign, pay, choose, group, Body}
use Rattle.pay_meaning.specs.Language.{done, next, Terms, Item, plain, scheduled, Script}
use Rattle.pay_meaning.specs.Words.{unit_word}

-- what stands before two numbers under an operator
abbrev pub opening : Operator → List ℕ
opening add = codes "("
opening subtract = codes "("
opening multiply = codes "("
opening divide = codes "("
opening least = codes "min("
opening greatest = codes "max("

-- what stands between them
abbrev pub between : Operator → List ℕ
between add = codes " + "
between subtract = codes " - "
between multiply = codes " * "
between divide = codes " / "
between least = codes ", "
between greatest = codes ", "

-- a number: `1.5`, `name`, `spot()`, `-A`, `abs(A)`, `(A + B)`, `min(A, B)`
abbrev pub number_text : Number → List ℕ
number_text (literal raw) = decimal_text raw
number_text (variable name) = name
number_text spot = codes "spot()"
number_text period = codes "period()"
number_text days = codes "days()"
number_text (negative side) = codes "-" ++ number_text side
number_text (absolute side) = codes "abs(" ++ (number_text side ++ codes ")")
number_text (binary op left right) = opening op ++ (number_text left ++ (between op ++ (number_text right ++ codes ")")))

-- the sign of a comparison, between its two numbers
abbrev pub comparing : Comparison → List ℕ
comparing less = codes " < "
comparing at_most = codes " <= "
comparing greater = codes " > "
comparing at_least = codes " >= "
comparing equals = codes " = "
comparing differs = codes " != "

-- a truth
abbrev pub truth_text : Bool → List ℕ
truth_text true = codes "true"
truth_text false = codes "false"

-- a condition: `A < B`, `not C`, `(C and D)`, `(C or D)`, `true`, `sure(true, C)`
abbrev pub condition_text : Condition → List ℕ
condition_text (compare op left right note) = number_text left ++ (comparing op ++ number_text right)
condition_text (negation side) = codes "not " ++ condition_text side
condition_text (conjunction left right) = codes "(" ++ (condition_text left ++ (codes " and " ++ (condition_text right ++ codes ")")))
condition_text (disjunction left right) = codes "(" ++ (condition_text left ++ (codes " or " ++ (condition_text right ++ codes ")")))
condition_text (settled answer) = truth_text answer
condition_text (sure answer side) = codes "sure(" ++ (truth_text answer ++ (codes ", " ++ (condition_text side ++ codes ")")))

-- a line after this indent: a name, this text, a number and `;`
abbrev pub line_text : List ℕ → List ℕ → List ℕ → Number → List ℕ
line_text indent name middle number = indent ++ (name ++ (middle ++ (number_text number ++ codes ";\n")))

-- a line after this indent: `if`, a condition and `then`
abbrev pub if_line : List ℕ → Condition → List ℕ
if_line indent condition = indent ++ (codes "if " ++ (condition_text condition ++ codes " then\n"))

-- a line after this indent that is a word
abbrev pub word_line : List ℕ → List ℕ → List ℕ
word_line indent word = indent ++ (word ++ codes "\n")

-- two spaces further in
abbrev pub deeper : List ℕ → List ℕ
deeper indent = indent ++ codes "  "

-- a list, or none where there are no statements
abbrev pub unless_empty : {A : Type 0} → Body → List A → List A
unless_empty done text = []
unless_empty (next statement rest) text = text

abbrev mutual
  -- `name = number;`, `leg pays number;`, or a condition with the lines of its branches; `else` stands only where its branch has statements
  pub statement_text : List ℕ → Statement → List ℕ
  statement_text indent (assign name number) = line_text indent name (codes " = ") number
  statement_text indent (pay leg number) = line_text indent leg (codes " pays ") number
  statement_text indent (choose condition yes_part no_part) =
      if_line indent condition ++ (body_text (deeper indent) yes_part
      ++ (unless_empty no_part (word_line indent (codes "else") ++ body_text (deeper indent) no_part) ++ word_line indent (codes "endif")))
  statement_text indent (group body) = body_text indent body

  -- the lines of statements in their order
  pub body_text : List ℕ → Body → List ℕ
  body_text indent done = []
  body_text indent (next statement rest) = statement_text indent statement ++ body_text indent rest

-- the indent of the statements of an item
abbrev pub item_indent : List ℕ
item_indent = codes "  "

-- a line `@2024-06-28`
abbrev pub date_line : Day → List ℕ
date_line date = codes "@" ++ (day_text date ++ codes "\n")

-- the word of a rule after a space; without a rule nothing
abbrev pub rule_text : Rule → List ℕ
rule_text Stay = []
rule_text Following = codes " following"
rule_text Preceding = codes " preceding"
rule_text Modified = codes " modified"

-- `schedule from @2024-01-31 to @2024-05-15`
abbrev pub dates_text : Day → Day → List ℕ
dates_text first last = codes "schedule from @" ++ (day_text first ++ (codes " to @" ++ day_text last))

-- ` every 1 m following`
abbrev pub step_text : ℕ → StepUnit → Rule → List ℕ
step_text every unit rule = codes " every " ++ (decimal every ++ (codes " " ++ (unit_word unit ++ rule_text rule)))

-- a line `schedule from @2024-01-31 to @2024-05-15 every 1 m following do`
abbrev pub schedule_line : Terms → List ℕ
schedule_line terms = dates_text terms.first terms.last ++ (step_text terms.every terms.unit terms.rule ++ codes " do\n")

-- the line of a date or of a schedule, the lines of the statements on it, and after a schedule the line `end`
abbrev pub item_text : Item → List ℕ
item_text (plain date body) = date_line date ++ body_text item_indent body
item_text (scheduled terms body) = schedule_line terms ++ (body_text item_indent body ++ codes "end\n")

-- the lines of the items in their order
abbrev pub script_text : Script → List ℕ
script_text script = flat_map item_text script
