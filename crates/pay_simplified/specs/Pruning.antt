-- Owned trees that are pruned by marks: each part becomes what its mark and the forms of its sides make of it.
use Rattle.std.specs.Prelude.{ℕ, ℤ, Bool, true, false, not, List, [], ◌∷◌, Option, Some, None}
use Rattle.pay_tree.specs.Owned.{NumberTree, literal_at, TestTree, truth_at, compare_at, not_at, and_at, or_at}
use Rattle.pay_tree.specs.Owned.{StepTree, assigning, paying, choosing, grouping, StepsTree, no_steps, EventTree}
use Rattle.pay_visit.specs.Rewriting.{Change, rewritten_steps}
use Rattle.pay_passes.specs.Changes.{filled_steps}
use Rattle.pay_passes.specs.Folding.{place_of, folded_steps}
use Rattle.pay_facts.specs.Reached.{steps_parts}
use Rattle.pay_facts.specs.SlotFacts.{SlotDomains, after_steps}
use Rattle.pay_analysis.specs.Marks.{marked, no_marks}
use Rattle.pay_analysis.specs.declared.marks.Mark.{Mark}
use Rattle.pay_analysis.specs.declared.marks.Mark.TheVariants.{Unreached, Number, Test}
use Rattle.pay_simplified.specs.Simplified.{and_form, or_form}

-- a number becomes the literal of this raw in its place, if there is one
abbrev pub number_at_point : Option ℤ → NumberTree → NumberTree
number_at_point None number = number
number_at_point (Some raw) number = literal_at (place_of number) raw

-- a number with this mark
abbrev pub pruned_number : Mark → NumberTree → NumberTree
pruned_number Unreached number = number
pruned_number (Number point) number = number_at_point point number
pruned_number (Test answer flagged) number = number

-- the place of a test
abbrev pub test_place : TestTree → ℕ
test_place (truth_at id told answer) = id
test_place (compare_at id told op left right smooth) = id
test_place (not_at id told side) = id
test_place (and_at id told left right) = id
test_place (or_at id told left right) = id

-- the answer that a test is sure of
abbrev pub sure_in : TestTree → Option Bool
sure_in (truth_at id told answer) = told
sure_in (compare_at id told op left right smooth) = told
sure_in (not_at id told side) = told
sure_in (and_at id told left right) = told
sure_in (or_at id told left right) = told

-- an answer, unless there is another that is sure
abbrev pub unless_told : Option Bool → Bool → Option Bool
unless_told None answer = Some answer
unless_told (Some sure) answer = None

-- the truth literal that a test is
abbrev pub literal_in : TestTree → Option Bool
literal_in (truth_at id told answer) = unless_told told answer
literal_in (compare_at id told op left right smooth) = None
literal_in (not_at id told side) = None
literal_in (and_at id told left right) = None
literal_in (or_at id told left right) = None

-- a test that is sure of this answer, in place of any other
abbrev pub told_test : Bool → TestTree → TestTree
told_test sure (truth_at id told answer) = truth_at id (Some sure) answer
told_test sure (compare_at id told op left right smooth) = compare_at id (Some sure) op left right smooth
told_test sure (not_at id told side) = not_at id (Some sure) side
told_test sure (and_at id told left right) = and_at id (Some sure) left right
told_test sure (or_at id told left right) = or_at id (Some sure) left right

-- `not` of a side, by the literal that the side is and by the answer that it is sure of
abbrev pub not_test : Option Bool → Option Bool → TestTree → TestTree → TestTree
not_test (Some answer) told side whole = truth_at (test_place side) None (not answer)
not_test None (Some answer) side whole = told_test (not answer) side
not_test None None side whole = whole

-- a test by the forms of its sides
abbrev pub tidy_test : TestTree → TestTree
tidy_test (truth_at id told answer) = truth_at id told answer
tidy_test (compare_at id told op left right smooth) = compare_at id told op left right smooth
tidy_test (not_at id told side) = not_test (literal_in side) (sure_in side) side (not_at id told side)
tidy_test (and_at id told left right) =
    and_form (literal_in left) (sure_in left) (literal_in right) left right (and_at id told left right)
tidy_test (or_at id told left right) =
    or_form (literal_in left) (sure_in left) (literal_in right) left right (or_at id told left right)

-- a test with this truth, if it is decided: a truth literal in its place, or sure of it where it can fault
abbrev pub test_answered : Option Bool → Bool → TestTree → TestTree
test_answered None flagged test = test
test_answered (Some answer) false test = truth_at (test_place test) None answer
test_answered (Some answer) true test = told_test answer test

-- a test with this mark
abbrev pub marked_test : Mark → TestTree → TestTree
marked_test Unreached test = test
marked_test (Number point) test = test
marked_test (Test answer flagged) test = test_answered answer flagged test

-- a choice by the literal that its test is and by the answer that this is sure of
abbrev pub choice_form : Option Bool → Option Bool → TestTree → StepsTree → StepsTree → List ℕ → StepTree
choice_form (Some true) told test yes_part no_part changes = grouping yes_part
choice_form (Some false) told test yes_part no_part changes = grouping no_part
choice_form None (Some true) test yes_part no_part changes = choosing test yes_part no_steps changes
choice_form None (Some false) test yes_part no_part changes = choosing test no_steps no_part changes
choice_form None None test yes_part no_part changes = choosing test yes_part no_part changes

-- a step by the form of its test
abbrev pub pruned_step : StepTree → StepTree
pruned_step (assigning slot value) = assigning slot value
pruned_step (paying leg amount) = paying leg amount
pruned_step (choosing test yes_part no_part changes) = choice_form (literal_in test) (sure_in test) test yes_part no_part changes
pruned_step (grouping steps) = grouping steps

-- what becomes of a number, of a test and of a step with these marks, once their own parts are pruned
abbrev pub pruning : (ℕ → Mark) → Change
pruning marks = record {
  number = λ number. pruned_number (marks (place_of number)) number;
  test = λ test. marked_test (marks (test_place test)) (tidy_test test);
  step = pruned_step;
}

-- the marks of steps after a walk over them, from these raws of the variables
abbrev pub marks_of : StepsTree → SlotDomains → Bool → ℕ → Mark
marks_of steps domains known = marked no_marks (steps_parts steps domains known)

-- steps pruned by their own marks
abbrev pub pruned_steps : StepsTree → SlotDomains → Bool → StepsTree
pruned_steps steps domains known = rewritten_steps (pruning (marks_of steps domains known)) steps

-- an event with other steps
abbrev pub with_steps : EventTree → StepsTree → EventTree
with_steps event steps = record { date = event.date; period = event.period; days = event.days; steps = steps }

-- an event whose constants are folded, and one whose choices have the variables that their branches assign
abbrev pub folded_event : EventTree → EventTree
folded_event event = with_steps event (folded_steps event.steps)

abbrev pub filled_event : EventTree → EventTree
filled_event event = with_steps event (filled_steps event.steps)

-- an event pruned from these raws of the variables; at its start the fixing is not known to be there
abbrev pub pruned_event : EventTree → SlotDomains → EventTree
pruned_event event domains = with_steps event (pruned_steps event.steps domains false)

-- events in their order, each pruned from the raws of the variables after those before it
abbrev pub pruned : List EventTree → SlotDomains → List EventTree
pruned [] domains = []
pruned (event ∷ rest) domains = pruned_event event domains ∷ pruned rest (after_steps event.steps domains false).domains
