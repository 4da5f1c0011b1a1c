-- Trees that are pruned or folded keep, of the trees that they were, what is kept wherever a part takes the place of its whole.
use Rattle.std.proofs.Common.{ℕ, ℤ, Bool, true, false, not, List, Option, Some, None, refl, option_map}
use Rattle.std.specs.Prelude.{unwrap_or}
use Rattle.pay_tree.specs.Owned.{NumberTree, literal_at, TestTree, truth_at, compare_at, not_at, and_at, or_at}
use Rattle.pay_tree.specs.Owned.{StepTree, assigning, paying, choosing, grouping, StepsTree, no_steps}
use Rattle.pay_visit.specs.Rewriting.{rewritten_steps}
use Rattle.pay_visit.specs.Keeping.{Keeps, Finished, one_step, IsOrder, IsUnderForms, IsPromise}
use Rattle.pay_visit.proofs.KeepingLemmas.{steps_kept}
use Rattle.pay_passes.specs.Folding.{folding, place_of, constant_of, settled_of, truth_in_place, folded_steps}
use Rattle.pay_analysis.specs.declared.marks.Mark.{Mark}
use Rattle.pay_analysis.specs.declared.marks.Mark.TheVariants.{Unreached, Number, Test}
use Rattle.pay_simplified.specs.Simplified.{and_form, or_form}
use Rattle.pay_simplified.specs.Pruning.{number_at_point, pruned_number, test_place, sure_in, literal_in, told_test, not_test, tidy_test, test_answered}
use Rattle.pay_simplified.specs.Pruning.{marked_test, choice_form, pruned_step, pruning}

-- a tree keeps another where it is a literal in its place, told an answer, a side or a branch of it
pub record IsUnderPlaces (keeps : Keeps) : Type 0 where
  pub literal : (a : NumberTree) (raw : ℤ) → keeps.numbers (literal_at (place_of a) raw) a
  pub settled : (a : TestTree) (told : Option Bool) (answer : Bool) → keeps.tests (truth_at (test_place a) told answer) a
  pub told : (answer : Bool) (a : TestTree) → keeps.tests (told_test answer a) a
  pub side : (id : ℕ) (told : Option Bool) (a : TestTree) → keeps.tests a (not_at id told a)
  pub and_left : (id : ℕ) (told : Option Bool) (a b : TestTree) → keeps.tests a (and_at id told a b)
  pub and_right : (id : ℕ) (told : Option Bool) (a b : TestTree) → keeps.tests b (and_at id told a b)
  pub or_left : (id : ℕ) (told : Option Bool) (a b : TestTree) → keeps.tests a (or_at id told a b)
  pub or_right : (id : ℕ) (told : Option Bool) (a b : TestTree) → keeps.tests b (or_at id told a b)
  pub yes_group : (t : TestTree) (a b : StepsTree) (changes : List ℕ) → keeps.steps (one_step (grouping a)) (one_step (choosing t a b changes))
  pub no_group : (t : TestTree) (a b : StepsTree) (changes : List ℕ) → keeps.steps (one_step (grouping b)) (one_step (choosing t a b changes))
  pub yes_alone : (t : TestTree) (a b : StepsTree) (changes : List ℕ)
      → keeps.steps (one_step (choosing t a no_steps changes)) (one_step (choosing t a b changes))
  pub no_alone : (t : TestTree) (a b : StepsTree) (changes : List ℕ)
      → keeps.steps (one_step (choosing t no_steps b changes)) (one_step (choosing t a b changes))

-- such a relation, which goes on and holds under each form
pub record Shrinks (keeps : Keeps) : Type 0 where
  pub order : IsOrder keeps
  pub forms : IsUnderForms keeps
  pub places : IsUnderPlaces keeps

-- nothing more is asked of a tree
abbrev Anything : Finished
Anything = record { number = λ a. Unit {0}; test = λ a. Unit {0}; step = λ a. Unit {0} }

module _ {keeps : Keeps} (shrinks : Shrinks keeps) where
  number-at : (point : Option ℤ) (a : NumberTree) → keeps.numbers (number_at_point point a) a
  number-at None a = shrinks.order.number_itself a
  number-at (Some raw) a = shrinks.places.literal a raw

  number-kept : (mark : Mark) (a : NumberTree) → keeps.numbers (pruned_number mark a) a
  number-kept Unreached a = shrinks.order.number_itself a
  number-kept (Number point) a = number-at point a
  number-kept (Test answer flagged) a = shrinks.order.number_itself a

  not-kept : (literal told own : Option Bool) (id : ℕ) (a : TestTree) → keeps.tests (not_test literal told a (not_at id own a)) (not_at id own a)
  not-kept (Some answer) told own id a =
      shrinks.order.test_onward _ _ _ (shrinks.places.settled a None (not answer)) (shrinks.places.side id own a)
  not-kept None (Some answer) own id a = shrinks.order.test_onward _ _ _ (shrinks.places.told (not answer) a) (shrinks.places.side id own a)
  not-kept None None own id a = shrinks.order.test_itself (not_at id own a)

  and-kept : (literal told other : Option Bool) (a b whole : TestTree) → keeps.tests a whole → keeps.tests b whole
      → keeps.tests (and_form literal told other a b whole) whole
  and-kept (Some true) told other a b whole h k = k
  and-kept (Some false) told other a b whole h k = h
  and-kept None (Some false) other a b whole h k = h
  and-kept None (Some true) None a b whole h k = shrinks.order.test_itself whole
  and-kept None (Some true) (Some true) a b whole h k = h
  and-kept None (Some true) (Some false) a b whole h k = shrinks.order.test_itself whole
  and-kept None None None a b whole h k = shrinks.order.test_itself whole
  and-kept None None (Some true) a b whole h k = h
  and-kept None None (Some false) a b whole h k = shrinks.order.test_itself whole

  or-kept : (literal told other : Option Bool) (a b whole : TestTree) → keeps.tests a whole → keeps.tests b whole
      → keeps.tests (or_form literal told other a b whole) whole
  or-kept (Some false) told other a b whole h k = k
  or-kept (Some true) told other a b whole h k = h
  or-kept None (Some true) other a b whole h k = h
  or-kept None (Some false) None a b whole h k = shrinks.order.test_itself whole
  or-kept None (Some false) (Some true) a b whole h k = shrinks.order.test_itself whole
  or-kept None (Some false) (Some false) a b whole h k = h
  or-kept None None None a b whole h k = shrinks.order.test_itself whole
  or-kept None None (Some true) a b whole h k = shrinks.order.test_itself whole
  or-kept None None (Some false) a b whole h k = h

  tidy-kept : (a : TestTree) → keeps.tests (tidy_test a) a
  tidy-kept (truth_at id told answer) = shrinks.order.test_itself (truth_at id told answer)
  tidy-kept (compare_at id told op left right smooth) = shrinks.order.test_itself (compare_at id told op left right smooth)
  tidy-kept (not_at id told a) = not-kept (literal_in a) (sure_in a) told id a
  tidy-kept (and_at id told a b) =
      and-kept (literal_in a) (sure_in a) (literal_in b) a b (and_at id told a b) (shrinks.places.and_left id told a b) (shrinks.places.and_right id told a b)
  tidy-kept (or_at id told a b) =
      or-kept (literal_in a) (sure_in a) (literal_in b) a b (or_at id told a b) (shrinks.places.or_left id told a b) (shrinks.places.or_right id told a b)

  answered-kept : (answer : Option Bool) (flagged : Bool) (a : TestTree) → keeps.tests (test_answered answer flagged a) a
  answered-kept None flagged a = shrinks.order.test_itself a
  answered-kept (Some answer) false a = shrinks.places.settled a None answer
  answered-kept (Some answer) true a = shrinks.places.told answer a

  test-marked : (mark : Mark) (a : TestTree) → keeps.tests (marked_test mark a) a
  test-marked Unreached a = shrinks.order.test_itself a
  test-marked (Number point) a = shrinks.order.test_itself a
  test-marked (Test answer flagged) a = answered-kept answer flagged a

  choice-kept : (literal told : Option Bool) (t : TestTree) (a b : StepsTree) (changes : List ℕ)
      → keeps.steps (one_step (choice_form literal told t a b changes)) (one_step (choosing t a b changes))
  choice-kept (Some true) told t a b changes = shrinks.places.yes_group t a b changes
  choice-kept (Some false) told t a b changes = shrinks.places.no_group t a b changes
  choice-kept None (Some true) t a b changes = shrinks.places.yes_alone t a b changes
  choice-kept None (Some false) t a b changes = shrinks.places.no_alone t a b changes
  choice-kept None None t a b changes = shrinks.order.steps_itself (one_step (choosing t a b changes))

  step-kept : (a : StepTree) → keeps.steps (one_step (pruned_step a)) (one_step a)
  step-kept (assigning slot value) = shrinks.order.steps_itself (one_step (assigning slot value))
  step-kept (paying leg amount) = shrinks.order.steps_itself (one_step (paying leg amount))
  step-kept (choosing t a b changes) = choice-kept (literal_in t) (sure_in t) t a b changes
  step-kept (grouping steps) = shrinks.order.steps_itself (one_step (grouping steps))

  pruning-promise : (marks : ℕ → Mark) → IsPromise (pruning marks) keeps Anything
  pruning-promise marks = record {
    order = shrinks.order;
    forms = shrinks.forms;
    kept = record {
      number = λ a. number-kept (marks (place_of a)) a;
      test = λ a. shrinks.order.test_onward _ _ _ (test-marked (marks (test_place a)) (tidy_test a)) (tidy-kept a);
      step = step-kept;
    };
    finishes = record { number = λ a h. tt; test = λ a h. tt; step = λ a h. tt };
  }

  -- pruned steps, whatever the marks are
  pub pruned_keeps : (marks : ℕ → Mark) (steps : StepsTree) → keeps.steps (rewritten_steps (pruning marks) steps) steps
  pruned_keeps marks steps = steps_kept (pruning-promise marks) {new = rewritten_steps (pruning marks) steps} {old = steps} refl

  constant-kept : (constant : Option ℤ) (a : NumberTree) → keeps.numbers (unwrap_or (option_map (literal_at (place_of a)) constant) a) a
  constant-kept None a = shrinks.order.number_itself a
  constant-kept (Some raw) a = shrinks.places.literal a raw

  placed-kept : (a : TestTree) (answer : Bool) → keeps.tests (truth_in_place a answer) a
  placed-kept (truth_at id told other) answer = shrinks.places.settled (truth_at id told other) told answer
  placed-kept (compare_at id told op left right smooth) answer = shrinks.places.settled (compare_at id told op left right smooth) told answer
  placed-kept (not_at id told side) answer = shrinks.places.settled (not_at id told side) told answer
  placed-kept (and_at id told left right) answer = shrinks.places.settled (and_at id told left right) told answer
  placed-kept (or_at id told left right) answer = shrinks.places.settled (or_at id told left right) told answer

  truth-kept : (answer : Option Bool) (a : TestTree) → keeps.tests (unwrap_or (option_map (truth_in_place a) answer) a) a
  truth-kept None a = shrinks.order.test_itself a
  truth-kept (Some answer) a = placed-kept a answer

  folding-promise : IsPromise folding keeps Anything
  folding-promise = record {
    order = shrinks.order;
    forms = shrinks.forms;
    kept = record {
      number = λ a. constant-kept (constant_of a) a;
      test = λ a. truth-kept (settled_of a) a;
      step = λ a. shrinks.order.steps_itself (one_step a);
    };
    finishes = record { number = λ a h. tt; test = λ a h. tt; step = λ a h. tt };
  }

  -- folded steps
  pub folded_keeps : (steps : StepsTree) → keeps.steps (folded_steps steps) steps
  folded_keeps steps = steps_kept folding-promise {new = folded_steps steps} {old = steps} refl
