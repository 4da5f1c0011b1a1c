-- The plain data of the language: numbers, conditions, statements, events and scripts, as every contract speaks of them.
--
-- Three forms are in no script that is read: a truth literal, a condition that is sure, and a group. They are what is left of conditions and
-- ifs once their truth is known before a run.
use Rattle.std.specs.Prelude.{ℕ, ℤ, Bool, List}
use Rattle.pay_fixed.specs.declared.smooth.Smooth.{Smooth}
use Rattle.pay_dates.specs.declared.day.Day.{Day}
use Rattle.pay_dates.specs.declared.roll.Rule.{Rule}
use Rattle.pay_dates.specs.declared.roll.Unit.{Unit as StepUnit}

-- an operator with two sides: a sum, a difference, a product, a quotient, the lesser or the greater of two
pub data Operator : Type 0 where
  add : Operator
  subtract : Operator
  multiply : Operator
  divide : Operator
  least : Operator
  greatest : Operator

-- a number: a literal by its raw, a variable by its name, the fixing of the event's date, the event's period or days,
-- a number with its sign changed or without it, or two numbers under an operator
pub data Number : Type 0 where
  literal : ℤ → Number
  variable : List ℕ → Number
  spot : Number
  period : Number
  days : Number
  negative : Number → Number
  absolute : Number → Number
  binary : Operator → Number → Number → Number

-- a comparison of two numbers: `<`, `<=`, `>`, `>=`, `=`, `!=`
pub data Comparison : Type 0 where
  less : Comparison
  at_most : Comparison
  greater : Comparison
  at_least : Comparison
  equals : Comparison
  differs : Comparison

-- what a comparison carries beside its numbers: nothing, or how it weighs where it is smoothed; its truth does not depend on it
pub data Note : Type 0 where
  bare : Note
  smoothed : Smooth → Note

-- a condition: two numbers compared, `not`, `and` and `or`; a truth literal; and a condition that is sure, which is asked for its fault alone
pub data Condition : Type 0 where
  compare : Comparison → Number → Number → Note → Condition
  negation : Condition → Condition
  conjunction : Condition → Condition → Condition
  disjunction : Condition → Condition → Condition
  settled : Bool → Condition
  sure : Bool → Condition → Condition

mutual
  -- a statement: a variable is given a value, a leg is paid an amount, or one of two branches is chosen by a condition; and a group, which is
  -- its statements in its place
  pub data Statement : Type 0 where
    assign : List ℕ → Number → Statement
    pay : List ℕ → Number → Statement
    choose : Condition → Body → Body → Statement
    group : Body → Statement

  -- the statements of an event or of a branch, in their order
  pub data Body : Type 0 where
    done : Body
    next : Statement → Body → Body

-- these statements, and one more after them
abbrev pub and_then : Body → Statement → Body
and_then done last = next last done
and_then (next s rest) last = next s (and_then rest last)

-- statements on one date; a rolled event also has the number of its step and the days since the date before, a plain event 0 and 0
pub record Event : Type 0 where
  pub date : Day
  pub period : ℕ
  pub days : ℕ
  pub body : Body

-- the terms of a schedule: its first and its last date, its step as a count of units, and where a date on a weekend moves
pub record Terms : Type 0 where
  pub first : Day
  pub last : Day
  pub every : ℕ
  pub unit : StepUnit
  pub rule : Rule

-- an item of a script: statements on one date, or on each date of a schedule
pub data Item : Type 0 where
  plain : Day → Body → Item
  scheduled : Terms → Body → Item

-- a script: its items in the order of the text
abbrev pub Script : Type 0
Script = List Item
