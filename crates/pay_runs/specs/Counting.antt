-- How many numbers, conditions and statements a run evaluates. A part counts where it completes and where it faults; where one of its sides faults it
-- does not. An assignment and a payment count after their number, an `if` after its condition. A condition that is sure and a group are no parts.
use Rattle.std.specs.Prelude.{ℕ, ◌+◌, List, [], ◌∷◌, Result, Ok, Err, nat_eq, if◌then◌else◌}
use Rattle.pay_fixed.specs.Weights.{whole as full}
use Rattle.pay_meaning.specs.declared.fault.FaultKind.{FaultKind}
use Rattle.pay_meaning.specs.Language.{Number, literal, variable, spot, period, days, negative, absolute, binary, Condition, compare, negation}
use Rattle.pay_meaning.specs.Language.{conjunction, disjunction, settled, sure, Statement, assign, pay, choose, group, Body, done, next, Event}
use Rattle.pay_meaning.specs.Meaning.{Variables, Moment, moment_of, Effect, Fixings, value}
use Rattle.pay_runs.specs.Weighing.{IsFuzzy, weight, weighed, weighed_statement}

-- so many more, unless there was a fault
abbrev pub unless_fault : {A : Type 0} → Result A FaultKind → ℕ → ℕ
unless_fault (Err fault) more = 0
unless_fault (Ok answer) more = more

-- the parts of a number that are evaluated
abbrev pub number_nodes : Number → Variables → Moment → ℕ
number_nodes (literal raw) variables at = 1
number_nodes (variable name) variables at = 1
number_nodes spot variables at = 1
number_nodes period variables at = 1
number_nodes days variables at = 1
number_nodes (negative side) variables at = number_nodes side variables at + unless_fault (value side variables at) 1
number_nodes (absolute side) variables at = number_nodes side variables at + unless_fault (value side variables at) 1
number_nodes (binary op left right) variables at =
    number_nodes left variables at
    + unless_fault (value left variables at) (number_nodes right variables at + unless_fault (value right variables at) 1)

-- the right side of `and`, and `and` itself: the right side is skipped where the left one weighs nothing
abbrev pub nodes_after_and : Result ℕ FaultKind → ℕ → ℕ
nodes_after_and (Err fault) right = 0
nodes_after_and (Ok a) right = if nat_eq a 0 then 1 else right

-- the right side of `or`, and `or` itself: the right side is skipped where the left one has the whole weight
abbrev pub nodes_after_or : Result ℕ FaultKind → ℕ → ℕ
nodes_after_or (Err fault) right = 0
nodes_after_or (Ok a) right = if nat_eq a full then 1 else right

-- the parts of a condition that are evaluated
abbrev pub condition_nodes : IsFuzzy → Condition → Variables → Moment → ℕ
condition_nodes fuzzy (compare op left right note) variables at =
    number_nodes left variables at
    + unless_fault (value left variables at) (number_nodes right variables at + unless_fault (value right variables at) 1)
condition_nodes fuzzy (negation side) variables at = condition_nodes fuzzy side variables at + unless_fault (weight fuzzy side variables at) 1
condition_nodes fuzzy (conjunction left right) variables at =
    condition_nodes fuzzy left variables at
    + nodes_after_and (weight fuzzy left variables at) (condition_nodes fuzzy right variables at + unless_fault (weight fuzzy right variables at) 1)
condition_nodes fuzzy (disjunction left right) variables at =
    condition_nodes fuzzy left variables at
    + nodes_after_or (weight fuzzy left variables at) (condition_nodes fuzzy right variables at + unless_fault (weight fuzzy right variables at) 1)
condition_nodes fuzzy (settled answer) variables at = 1
condition_nodes fuzzy (sure answer side) variables at = condition_nodes fuzzy side variables at

-- the parts of the branches that run, where a condition has this weight: one, or the true branch and, unless it faults, the other one
abbrev pub branch_nodes : {A : Type 0} → ℕ → Result A FaultKind → ℕ → ℕ → ℕ
branch_nodes w yes_result yes_nodes no_nodes =
    if nat_eq w 0 then no_nodes else (if nat_eq w full then yes_nodes else yes_nodes + unless_fault yes_result no_nodes)

-- an `if` and its branches, after its condition
abbrev pub choice_nodes : {A : Type 0} → Result ℕ FaultKind → Result A FaultKind → ℕ → ℕ → ℕ
choice_nodes (Err fault) yes_result yes_nodes no_nodes = 0
choice_nodes (Ok w) yes_result yes_nodes no_nodes = 1 + branch_nodes w yes_result yes_nodes no_nodes

-- what follows an effect is evaluated from its variables, unless it faulted
abbrev pub nodes_from : Result Effect FaultKind → (Variables → ℕ) → ℕ
nodes_from (Err fault) rest = 0
nodes_from (Ok effect) rest = rest effect.variables

abbrev mutual
  -- the parts of a statement that are evaluated
  pub statement_nodes : IsFuzzy → Statement → Variables → Moment → ℕ
  statement_nodes fuzzy (assign name number) variables at = number_nodes number variables at + unless_fault (value number variables at) 1
  statement_nodes fuzzy (pay leg number) variables at = number_nodes number variables at + unless_fault (value number variables at) 1
  statement_nodes fuzzy (choose condition yes_part no_part) variables at =
      condition_nodes fuzzy condition variables at
      + choice_nodes (weight fuzzy condition variables at) (weighed fuzzy yes_part variables at) (body_nodes fuzzy yes_part variables at)
      (body_nodes fuzzy no_part variables at)
  statement_nodes fuzzy (group body) variables at = body_nodes fuzzy body variables at

  -- the parts of statements that are evaluated
  pub body_nodes : IsFuzzy → Body → Variables → Moment → ℕ
  body_nodes fuzzy done variables at = 0
  body_nodes fuzzy (next statement rest) variables at =
      statement_nodes fuzzy statement variables at
      + nodes_from (weighed_statement fuzzy statement variables at) (λ after. body_nodes fuzzy rest after at)

-- the parts of events that are evaluated in a run from these variables under these fixings
abbrev pub node_count : IsFuzzy → List Event → Variables → Fixings → ℕ
node_count fuzzy [] variables fixings = 0
node_count fuzzy (event ∷ rest) variables fixings =
    body_nodes fuzzy event.body variables (moment_of event fixings)
    + nodes_from (weighed fuzzy event.body variables (moment_of event fixings)) (λ after. node_count fuzzy rest after fixings)
