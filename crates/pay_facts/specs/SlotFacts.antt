-- The same with the variables by number: ranges, decisions and facts of owned trees over a list of domains, one for each variable.
use Rattle.std.specs.Prelude.{ℕ, pos, Bool, true, false, ◌&&◌, List, [], ◌∷◌, set, get_or, Option, Some, None}
use Rattle.pay_domains.specs.declared.piece.Piece.{Piece}
use Rattle.pay_domains.specs.Pieces.{point}
use Rattle.pay_domains.specs.Operators.{no_flags, negated, magnitudes, united}
use Rattle.pay_tree.specs.declared.tree.Unary.{Unary}
use Rattle.pay_tree.specs.declared.tree.Unary.TheVariants.{Neg, Abs}
use Rattle.pay_tree.specs.Views.{operator, comparison}
use Rattle.pay_tree.specs.Owned.{NumberTree, literal_at, slot_at, spot_at, unary_at, binary_at, TestTree, truth_at, compare_at, not_at, and_at, or_at}
use Rattle.pay_tree.specs.Owned.{StepTree, assigning, paying, choosing, grouping, StepsTree, no_steps, step_then, EventTree}
use Rattle.pay_facts.specs.Ranges.{Range, exactly, fixing_range, range_of_one, range_of_both}
use Rattle.pay_facts.specs.Decisions.{Decision, comparison_decision, turned_decision, and_decision, or_decision, told_decision}

-- the raws that each variable can have, by its number
abbrev pub SlotDomains : Type 0
SlotDomains = List (List Piece)

-- the raws of a variable; past the end it is 0
abbrev pub slot_domain : SlotDomains → ℕ → List Piece
slot_domain domains slot = get_or domains slot (point (pos 0))

-- the raws with another sign, or without one
abbrev pub signed_domain : Unary → List Piece → List Piece
signed_domain Neg pieces = negated pieces
signed_domain Abs pieces = magnitudes pieces

-- the range of a number
abbrev pub range_by_slots : NumberTree → SlotDomains → Bool → Range
range_by_slots (literal_at id raw) domains known = exactly raw known
range_by_slots (slot_at id slot) domains known = record { domain = slot_domain domains slot; flags = no_flags; known = known }
range_by_slots (spot_at id) domains known = fixing_range known
range_by_slots (unary_at id op side) domains known = range_of_one (signed_domain op) (range_by_slots side domains known)
range_by_slots (binary_at id op left right) domains known =
    range_of_both (operator op) (range_by_slots left domains known) (range_by_slots right domains (range_by_slots left domains known).known)

-- the decision of a test that is sure of its answer, if it is
abbrev pub surely_decision : Option Bool → Decision → Decision
surely_decision None decision = decision
surely_decision (Some answer) decision = told_decision answer decision

-- the decision of a test
abbrev pub decide_by_slots : TestTree → SlotDomains → Bool → Decision
decide_by_slots (truth_at id told answer) domains known = surely_decision told (record { answer = Some answer; flags = no_flags; known = known })
decide_by_slots (compare_at id told op left right smooth) domains known =
    surely_decision told (comparison_decision (comparison op) (range_by_slots left domains known)
    (range_by_slots right domains (range_by_slots left domains known).known))
decide_by_slots (not_at id told side) domains known = surely_decision told (turned_decision (decide_by_slots side domains known))
decide_by_slots (and_at id told left right) domains known =
    surely_decision told (and_decision (decide_by_slots left domains known) (decide_by_slots right domains (decide_by_slots left domains known).known))
decide_by_slots (or_at id told left right) domains known =
    surely_decision told (or_decision (decide_by_slots left domains known) (decide_by_slots right domains (decide_by_slots left domains known).known))

-- the raws that each variable can have, and whether the fixing is known to be there
pub record SlotFacts : Type 0 where
  pub domains : SlotDomains
  pub known : Bool

-- each variable has the raws of either
abbrev pub joined_slots : SlotDomains → SlotDomains → SlotDomains
joined_slots [] others = []
joined_slots (a ∷ rest) [] = []
joined_slots (a ∷ rest) (b ∷ others) = united a b ∷ joined_slots rest others

-- the facts of two branches together
abbrev pub both_slot_facts : SlotFacts → SlotFacts → SlotFacts
both_slot_facts a b = record { domains = joined_slots a.domains b.domains; known = a.known && b.known }

-- the facts after the branch that a test decides; or after both
abbrev pub after_slot_branches : Option Bool → SlotFacts → SlotFacts → SlotFacts
after_slot_branches (Some true) yes_part no_part = yes_part
after_slot_branches (Some false) yes_part no_part = no_part
after_slot_branches None yes_part no_part = both_slot_facts yes_part no_part

abbrev mutual
  -- the facts after a step
  pub after_step : StepTree → SlotDomains → Bool → SlotFacts
  after_step (assigning slot value) domains known =
      record { domains = set domains slot (range_by_slots value domains known).domain; known = (range_by_slots value domains known).known }
  after_step (paying leg amount) domains known = record { domains = domains; known = (range_by_slots amount domains known).known }
  after_step (choosing test yes_part no_part changes) domains known =
      after_slot_branches (decide_by_slots test domains known).answer
      (after_steps yes_part domains (decide_by_slots test domains known).known) (after_steps no_part domains (decide_by_slots test domains known).known)
  after_step (grouping steps) domains known = after_steps steps domains known

  -- the facts after steps in order
  pub after_steps : StepsTree → SlotDomains → Bool → SlotFacts
  after_steps no_steps domains known = record { domains = domains; known = known }
  after_steps (step_then step rest) domains known =
      after_steps rest (after_step step domains known).domains (after_step step domains known).known

-- the raws that the variables can have after events in their order; at the start of each the fixing is not known to be there
abbrev pub after_slot_events : List EventTree → SlotDomains → SlotDomains
after_slot_events [] domains = domains
after_slot_events (event ∷ rest) domains = after_slot_events rest (after_steps event.steps domains false).domains
