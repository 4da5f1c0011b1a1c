-- The facts after statements, and before each event of a script.
use Rattle.std.specs.Prelude.{ℕ, Bool, true, false, ◌&&◌, List, [], ◌∷◌, Option, Some, None}
use Rattle.pay_meaning.specs.Language.{Statement, assign, pay, choose, group, Body, done, next, Event}
use Rattle.pay_facts.specs.Facts.{Domains, Facts, put, joined}
use Rattle.pay_facts.specs.Ranges.{Range, range}
use Rattle.pay_facts.specs.Decisions.{decide}

-- a variable has the raws of a number now
abbrev pub after_assignment : Domains → List ℕ → Range → Facts
after_assignment domains name number = record { domains = put domains name number.domain; known = number.known }

-- the facts of two branches together: each variable has the raws of either, and the fixing is known to be there where both know it
abbrev pub both_facts : Facts → Facts → Facts
both_facts a b = record { domains = joined a.domains b.domains; known = a.known && b.known }

-- the facts after the branch that a condition decides; or after both
abbrev pub after_branches : Option Bool → Facts → Facts → Facts
after_branches (Some true) yes_part no_part = yes_part
after_branches (Some false) yes_part no_part = no_part
after_branches None yes_part no_part = both_facts yes_part no_part

abbrev mutual
  -- the facts after a statement of an event; those of an `if` begin after its condition
  pub after_one : Statement → Domains → Bool → Event → Facts
  after_one (assign name number) domains known event = after_assignment domains name (range number domains known event)
  after_one (pay leg number) domains known event = record { domains = domains; known = (range number domains known event).known }
  after_one (choose condition yes_part no_part) domains known event =
      after_branches (decide condition domains known event).answer
      (after yes_part domains (decide condition domains known event).known event) (after no_part domains (decide condition domains known event).known event)
  after_one (group body) domains known event = after body domains known event

  -- the facts after statements in order
  pub after : Body → Domains → Bool → Event → Facts
  after done domains known event = record { domains = domains; known = known }
  after (next statement rest) domains known event =
      after rest (after_one statement domains known event).domains (after_one statement domains known event).known event

-- the raws that the variables can have after an event; at its start the fixing is not known to be there
abbrev pub after_event : Event → Domains → Domains
after_event event domains = (after event.body domains false event).domains

-- the raws that the variables can have after events in their order
abbrev pub after_events : List Event → Domains → Domains
after_events [] domains = domains
after_events (event ∷ rest) domains = after_events rest (after_event event domains)
