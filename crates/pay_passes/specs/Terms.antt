-- Events with their own period and days as literals.
use Rattle.std.specs.Prelude.{ℕ}
use Rattle.pay_meaning.specs.Language.{Number, literal, variable, spot, period, days, negative, absolute, binary, Condition, compare, negation}
use Rattle.pay_meaning.specs.Language.{conjunction, disjunction, settled, sure, Statement, assign, pay, choose, group, Body, done, next, Event}
use Rattle.pay_meaning.specs.Meaning.{whole}

-- a number in which `period()` and `days()` are these
abbrev pub number_at : ℕ → ℕ → Number → Number
number_at p d (literal raw) = literal raw
number_at p d (variable name) = variable name
number_at p d spot = spot
number_at p d period = literal (whole p)
number_at p d days = literal (whole d)
number_at p d (negative side) = negative (number_at p d side)
number_at p d (absolute side) = absolute (number_at p d side)
number_at p d (binary op left right) = binary op (number_at p d left) (number_at p d right)

-- the same of the numbers of a condition
abbrev pub condition_at : ℕ → ℕ → Condition → Condition
condition_at p d (compare op left right note) = compare op (number_at p d left) (number_at p d right) note
condition_at p d (negation side) = negation (condition_at p d side)
condition_at p d (conjunction left right) = conjunction (condition_at p d left) (condition_at p d right)
condition_at p d (disjunction left right) = disjunction (condition_at p d left) (condition_at p d right)
condition_at p d (settled answer) = settled answer
condition_at p d (sure answer side) = sure answer (condition_at p d side)

abbrev mutual
  -- the same of the numbers of a statement
  pub statement_at : ℕ → ℕ → Statement → Statement
  statement_at p d (assign name number) = assign name (number_at p d number)
  statement_at p d (pay leg number) = pay leg (number_at p d number)
  statement_at p d (choose condition yes_part no_part) = choose (condition_at p d condition) (body_at p d yes_part) (body_at p d no_part)
  statement_at p d (group body) = group (body_at p d body)

  -- the same of each statement of a body
  pub body_at : ℕ → ℕ → Body → Body
  body_at p d done = done
  body_at p d (next statement rest) = next (statement_at p d statement) (body_at p d rest)

-- an event in whose statements `period()` and `days()` are its own
abbrev pub at_own_terms : Event → Event
at_own_terms event = record { date = event.date; period = event.period; days = event.days; body = body_at event.period event.days event.body }
