-- The simplified script: events without the parts of which the domains of the variables show the outcome before any run. The parts of a whole are
-- simplified before the whole.
use Rattle.std.specs.Prelude.{ℤ, Bool, true, false, not, List, [], ◌∷◌, Option, Some, None}
use Rattle.pay_meaning.specs.Language.{Number, literal, variable, spot, period, days, negative, absolute, binary}
use Rattle.pay_meaning.specs.Language.{Condition, compare, negation, conjunction, disjunction, settled, sure}
use Rattle.pay_meaning.specs.Language.{Statement, assign, pay, choose, group, Body, done, next, Event}
use Rattle.pay_facts.specs.Facts.{Domains}
use Rattle.pay_facts.specs.Ranges.{Range, range}
use Rattle.pay_facts.specs.Decisions.{Decision, decide}
use Rattle.pay_facts.specs.After.{after_one, after_event}
use Rattle.pay_analysis.specs.Marks.{is_flagged, point_unless}

-- the one raw that a number can have, where it can't fault
abbrev pub point_in : Range → Option ℤ
point_in r = point_unless (is_flagged r.flags) r.domain

-- a number that can have one raw alone is that literal
abbrev pub at_point : Option ℤ → Number → Number
at_point None number = number
at_point (Some raw) number = literal raw

-- a number of an event, where the variables can have these raws and the fixing is perhaps known to be there
abbrev pub simple_number : Number → Domains → Bool → Event → Number
simple_number (literal raw) domains known event = at_point (point_in (range (literal raw) domains known event)) (literal raw)
simple_number (variable name) domains known event = at_point (point_in (range (variable name) domains known event)) (variable name)
simple_number spot domains known event = at_point (point_in (range spot domains known event)) spot
simple_number period domains known event = at_point (point_in (range period domains known event)) period
simple_number days domains known event = at_point (point_in (range days domains known event)) days
simple_number (negative side) domains known event =
    at_point (point_in (range (negative side) domains known event)) (negative (simple_number side domains known event))
simple_number (absolute side) domains known event =
    at_point (point_in (range (absolute side) domains known event)) (absolute (simple_number side domains known event))
simple_number (binary op left right) domains known event =
    at_point (point_in (range (binary op left right) domains known event))
    (binary op (simple_number left domains known event) (simple_number right domains (range left domains known event).known event))

-- the truth literal that a condition is
abbrev pub literal_of : Condition → Option Bool
literal_of (compare op left right note) = None
literal_of (negation side) = None
literal_of (conjunction left right) = None
literal_of (disjunction left right) = None
literal_of (settled answer) = Some answer
literal_of (sure answer side) = None

-- the answer that a condition is sure of
abbrev pub sure_of : Condition → Option Bool
sure_of (compare op left right note) = None
sure_of (negation side) = None
sure_of (conjunction left right) = None
sure_of (disjunction left right) = None
sure_of (settled answer) = None
sure_of (sure answer side) = Some answer

-- a condition that is sure of this answer, in place of any other
abbrev pub with_sure : Bool → Condition → Condition
with_sure answer (compare op left right note) = sure answer (compare op left right note)
with_sure answer (negation side) = sure answer (negation side)
with_sure answer (conjunction left right) = sure answer (conjunction left right)
with_sure answer (disjunction left right) = sure answer (disjunction left right)
with_sure answer (settled other) = sure answer (settled other)
with_sure answer (sure other side) = sure answer side

-- a condition that is decided is its truth literal, or sure of its truth where it can fault
abbrev pub as_answered : Option Bool → Bool → Condition → Condition
as_answered None flagged condition = condition
as_answered (Some answer) false condition = settled answer
as_answered (Some answer) true condition = with_sure answer condition

abbrev pub as_decided : Decision → Condition → Condition
as_decided d condition = as_answered d.answer (is_flagged d.flags) condition

-- `not` of a side, by the literal that the side is and by the answer that it is sure of
abbrev pub not_form : Option Bool → Option Bool → Condition → Condition
not_form (Some answer) told side = settled (not answer)
not_form None (Some answer) side = with_sure (not answer) side
not_form None None side = negation side

-- the left side, where the literal that the right one is adds nothing to it, and else the whole: of `and` this is true, of `or` false
abbrev pub unless_true : {A : Type 0} → Option Bool → A → A → A
unless_true None left whole = whole
unless_true (Some true) left whole = left
unless_true (Some false) left whole = whole

abbrev pub unless_false : {A : Type 0} → Option Bool → A → A → A
unless_false None left whole = whole
unless_false (Some true) left whole = whole
unless_false (Some false) left whole = left

-- what is left of `and`: by the literal that its left side is, by the answer that this is sure of, and by the literal that its right side is
abbrev pub and_form : {A : Type 0} → Option Bool → Option Bool → Option Bool → A → A → A → A
and_form (Some true) told other left right whole = right
and_form (Some false) told other left right whole = left
and_form None (Some false) other left right whole = left
and_form None (Some true) other left right whole = unless_true other left whole
and_form None None other left right whole = unless_true other left whole

-- what is left of `or`
abbrev pub or_form : {A : Type 0} → Option Bool → Option Bool → Option Bool → A → A → A → A
or_form (Some false) told other left right whole = right
or_form (Some true) told other left right whole = left
or_form None (Some true) other left right whole = left
or_form None (Some false) other left right whole = unless_false other left whole
or_form None None other left right whole = unless_false other left whole

-- `not`, `and` and `or` of simplified sides
abbrev pub simple_not : Condition → Condition
simple_not side = not_form (literal_of side) (sure_of side) side

abbrev pub simple_and : Condition → Condition → Condition
simple_and left right = and_form (literal_of left) (sure_of left) (literal_of right) left right (conjunction left right)

abbrev pub simple_or : Condition → Condition → Condition
simple_or left right = or_form (literal_of left) (sure_of left) (literal_of right) left right (disjunction left right)

-- a condition of an event; a comparison that stays carries what it carried
abbrev pub simple_condition : Condition → Domains → Bool → Event → Condition
simple_condition (compare op left right note) domains known event =
    as_decided (decide (compare op left right note) domains known event)
    (compare op (simple_number left domains known event) (simple_number right domains (range left domains known event).known event) note)
simple_condition (negation side) domains known event =
    as_decided (decide (negation side) domains known event) (simple_not (simple_condition side domains known event))
simple_condition (conjunction left right) domains known event =
    as_decided (decide (conjunction left right) domains known event)
    (simple_and (simple_condition left domains known event) (simple_condition right domains (decide left domains known event).known event))
simple_condition (disjunction left right) domains known event =
    as_decided (decide (disjunction left right) domains known event)
    (simple_or (simple_condition left domains known event) (simple_condition right domains (decide left domains known event).known event))
simple_condition (settled answer) domains known event = settled answer
simple_condition (sure answer side) domains known event =
    as_decided (decide (sure answer side) domains known event) (simple_condition side domains known event)

-- an `if` of simplified parts, by the literal that its condition is and by the answer that this is sure of: the group of a branch; the condition, for
-- its fault, with one branch; or all of it
abbrev pub choose_form : Option Bool → Option Bool → Condition → Body → Body → Statement
choose_form (Some true) told condition yes_part no_part = group yes_part
choose_form (Some false) told condition yes_part no_part = group no_part
choose_form None (Some true) condition yes_part no_part = choose condition yes_part done
choose_form None (Some false) condition yes_part no_part = choose condition done no_part
choose_form None None condition yes_part no_part = choose condition yes_part no_part

abbrev pub simple_choose : Condition → Body → Body → Statement
simple_choose condition yes_part no_part = choose_form (literal_of condition) (sure_of condition) condition yes_part no_part

abbrev mutual
  -- a statement of an event
  pub simple_statement : Statement → Domains → Bool → Event → Statement
  simple_statement (assign name number) domains known event = assign name (simple_number number domains known event)
  simple_statement (pay leg number) domains known event = pay leg (simple_number number domains known event)
  simple_statement (choose condition yes_part no_part) domains known event =
      simple_choose (simple_condition condition domains known event)
      (simple_body yes_part domains (decide condition domains known event).known event)
      (simple_body no_part domains (decide condition domains known event).known event)
  simple_statement (group body) domains known event = group (simple_body body domains known event)

  -- statements of an event in their order, each from the facts after those before it
  pub simple_body : Body → Domains → Bool → Event → Body
  simple_body done domains known event = done
  simple_body (next statement rest) domains known event =
      next (simple_statement statement domains known event)
      (simple_body rest (after_one statement domains known event).domains (after_one statement domains known event).known event)

-- an event; at its start the fixing is not known to be there
abbrev pub simple_event : Event → Domains → Event
simple_event event domains =
    record { date = event.date; period = event.period; days = event.days; body = simple_body event.body domains false event }

-- events in their order, each from the raws that the variables can have after those before it
abbrev pub simplified : List Event → Domains → List Event
simplified [] domains = []
simplified (event ∷ rest) domains = simple_event event domains ∷ simplified rest (after_event event domains)
