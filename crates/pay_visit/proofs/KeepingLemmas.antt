-- A rewritten tree keeps the tree that it was, and is finished.
use Rattle.std.proofs.Common.{◌≡◌}
use Rattle.pay_tree.specs.Owned.{NumberTree, literal_at, slot_at, spot_at, unary_at, binary_at, TestTree, truth_at, compare_at, not_at, and_at}
use Rattle.pay_tree.specs.Owned.{or_at, StepTree, assigning, paying, choosing, grouping, StepsTree, no_steps, step_then}
use Rattle.pay_visit.specs.Keeping.{Keeps, Finished, IsPromise, AreFinished, one_step}
use Rattle.pay_visit.specs.Rewriting.{Change, rewritten_number, rewritten_test, rewritten_step, rewritten_steps}

kept_number : (change : Change) (keeps : Keeps) (finished : Finished) → IsPromise change keeps finished → (a : NumberTree)
    → keeps.numbers (rewritten_number change a) a
kept_number change keeps finished promise (literal_at id raw) = promise.kept.number (literal_at id raw)
kept_number change keeps finished promise (slot_at id slot) = promise.kept.number (slot_at id slot)
kept_number change keeps finished promise (spot_at id) = promise.kept.number (spot_at id)
kept_number change keeps finished promise (unary_at id op side) =
    promise.order.number_onward _ _ _ (promise.kept.number (unary_at id op (rewritten_number change side)))
    (promise.forms.unary id op _ _ (kept_number change keeps finished promise side))
kept_number change keeps finished promise (binary_at id op left right) =
    promise.order.number_onward _ _ _ (promise.kept.number (binary_at id op (rewritten_number change left) (rewritten_number change right)))
    (promise.forms.binary id op _ _ _ _ (kept_number change keeps finished promise left) (kept_number change keeps finished promise right))

kept_test : (change : Change) (keeps : Keeps) (finished : Finished) → IsPromise change keeps finished → (a : TestTree)
    → keeps.tests (rewritten_test change a) a
kept_test change keeps finished promise (truth_at id told answer) = promise.kept.test (truth_at id told answer)
kept_test change keeps finished promise (compare_at id told op left right smooth) =
    promise.order.test_onward _ _ _ (promise.kept.test (compare_at id told op (rewritten_number change left) (rewritten_number change right) smooth))
    (promise.forms.compare id told op smooth _ _ _ _ (kept_number change keeps finished promise left) (kept_number change keeps finished promise right))
kept_test change keeps finished promise (not_at id told side) =
    promise.order.test_onward _ _ _ (promise.kept.test (not_at id told (rewritten_test change side)))
    (promise.forms.negation id told _ _ (kept_test change keeps finished promise side))
kept_test change keeps finished promise (and_at id told left right) =
    promise.order.test_onward _ _ _ (promise.kept.test (and_at id told (rewritten_test change left) (rewritten_test change right)))
    (promise.forms.conjunction id told _ _ _ _ (kept_test change keeps finished promise left) (kept_test change keeps finished promise right))
kept_test change keeps finished promise (or_at id told left right) =
    promise.order.test_onward _ _ _ (promise.kept.test (or_at id told (rewritten_test change left) (rewritten_test change right)))
    (promise.forms.disjunction id told _ _ _ _ (kept_test change keeps finished promise left) (kept_test change keeps finished promise right))

mutual
  kept_step : (change : Change) (keeps : Keeps) (finished : Finished) → IsPromise change keeps finished → (a : StepTree)
      → keeps.steps (one_step (rewritten_step change a)) (one_step a)
  kept_step change keeps finished promise (assigning slot value) =
      promise.order.steps_onward _ _ _ (promise.kept.step (assigning slot (rewritten_number change value)))
      (promise.forms.assign slot _ _ (kept_number change keeps finished promise value))
  kept_step change keeps finished promise (paying leg amount) =
      promise.order.steps_onward _ _ _ (promise.kept.step (paying leg (rewritten_number change amount)))
      (promise.forms.pay leg _ _ (kept_number change keeps finished promise amount))
  kept_step change keeps finished promise (choosing test yes_part no_part changes) =
      promise.order.steps_onward _ _ _
      (promise.kept.step (choosing (rewritten_test change test) (rewritten_steps change yes_part) (rewritten_steps change no_part) changes))
      (promise.forms.choose changes _ _ _ _ _ _ (kept_test change keeps finished promise test) (kept_steps change keeps finished promise yes_part)
      (kept_steps change keeps finished promise no_part))
  kept_step change keeps finished promise (grouping steps) =
      promise.order.steps_onward _ _ _ (promise.kept.step (grouping (rewritten_steps change steps)))
      (promise.forms.group _ _ (kept_steps change keeps finished promise steps))

  kept_steps : (change : Change) (keeps : Keeps) (finished : Finished) → IsPromise change keeps finished → (a : StepsTree)
      → keeps.steps (rewritten_steps change a) a
  kept_steps change keeps finished promise no_steps = promise.order.steps_itself no_steps
  kept_steps change keeps finished promise (step_then step rest) =
      promise.forms.onward _ _ _ _ (kept_step change keeps finished promise step) (kept_steps change keeps finished promise rest)

finished_number : (change : Change) (keeps : Keeps) (finished : Finished) → IsPromise change keeps finished → (a : NumberTree)
    → finished.number (rewritten_number change a)
finished_number change keeps finished promise (literal_at id raw) = promise.finishes.number (literal_at id raw) tt
finished_number change keeps finished promise (slot_at id slot) = promise.finishes.number (slot_at id slot) tt
finished_number change keeps finished promise (spot_at id) = promise.finishes.number (spot_at id) tt
finished_number change keeps finished promise (unary_at id op side) =
    promise.finishes.number (unary_at id op (rewritten_number change side)) (finished_number change keeps finished promise side)
finished_number change keeps finished promise (binary_at id op left right) =
    promise.finishes.number (binary_at id op (rewritten_number change left) (rewritten_number change right))
    (finished_number change keeps finished promise left, finished_number change keeps finished promise right)

finished_test : (change : Change) (keeps : Keeps) (finished : Finished) → IsPromise change keeps finished → (a : TestTree)
    → finished.test (rewritten_test change a)
finished_test change keeps finished promise (truth_at id told answer) = promise.finishes.test (truth_at id told answer) tt
finished_test change keeps finished promise (compare_at id told op left right smooth) =
    promise.finishes.test (compare_at id told op (rewritten_number change left) (rewritten_number change right) smooth)
    (finished_number change keeps finished promise left, finished_number change keeps finished promise right)
finished_test change keeps finished promise (not_at id told side) =
    promise.finishes.test (not_at id told (rewritten_test change side)) (finished_test change keeps finished promise side)
finished_test change keeps finished promise (and_at id told left right) =
    promise.finishes.test (and_at id told (rewritten_test change left) (rewritten_test change right))
    (finished_test change keeps finished promise left, finished_test change keeps finished promise right)
finished_test change keeps finished promise (or_at id told left right) =
    promise.finishes.test (or_at id told (rewritten_test change left) (rewritten_test change right))
    (finished_test change keeps finished promise left, finished_test change keeps finished promise right)

mutual
  finished_step : (change : Change) (keeps : Keeps) (finished : Finished) → IsPromise change keeps finished → (a : StepTree)
      → finished.step (rewritten_step change a)
  finished_step change keeps finished promise (assigning slot value) =
      promise.finishes.step (assigning slot (rewritten_number change value)) (finished_number change keeps finished promise value)
  finished_step change keeps finished promise (paying leg amount) =
      promise.finishes.step (paying leg (rewritten_number change amount)) (finished_number change keeps finished promise amount)
  finished_step change keeps finished promise (choosing test yes_part no_part changes) =
      promise.finishes.step (choosing (rewritten_test change test) (rewritten_steps change yes_part) (rewritten_steps change no_part) changes) (
        finished_test change keeps finished promise test,
        finished_steps change keeps finished promise yes_part,
        finished_steps change keeps finished promise no_part,
      )
  finished_step change keeps finished promise (grouping steps) =
      promise.finishes.step (grouping (rewritten_steps change steps)) (finished_steps change keeps finished promise steps)

  finished_steps : (change : Change) (keeps : Keeps) (finished : Finished) → IsPromise change keeps finished → (a : StepsTree)
      → AreFinished finished (rewritten_steps change a)
  finished_steps change keeps finished promise no_steps = tt
  finished_steps change keeps finished promise (step_then step rest) =
      (finished_step change keeps finished promise step, finished_steps change keeps finished promise rest)

pub number_kept : {change : Change} {keeps : Keeps} {finished : Finished} → IsPromise change keeps finished → {new old : NumberTree}
    → new ≡ rewritten_number change old → keeps.numbers new old
number_kept {change} {keeps} {finished} promise {new} {old} is = rw is (kept_number change keeps finished promise old)

pub test_kept : {change : Change} {keeps : Keeps} {finished : Finished} → IsPromise change keeps finished → {new old : TestTree}
    → new ≡ rewritten_test change old → keeps.tests new old
test_kept {change} {keeps} {finished} promise {new} {old} is = rw is (kept_test change keeps finished promise old)

pub steps_kept : {change : Change} {keeps : Keeps} {finished : Finished} → IsPromise change keeps finished → {new old : StepsTree}
    → new ≡ rewritten_steps change old → keeps.steps new old
steps_kept {change} {keeps} {finished} promise {new} {old} is = rw is (kept_steps change keeps finished promise old)

pub number_finished : {change : Change} {keeps : Keeps} {finished : Finished} → IsPromise change keeps finished → {new : NumberTree} (old : NumberTree)
    → new ≡ rewritten_number change old → finished.number new
number_finished {change} {keeps} {finished} promise {new} old is = rw is (finished_number change keeps finished promise old)

pub test_finished : {change : Change} {keeps : Keeps} {finished : Finished} → IsPromise change keeps finished → {new : TestTree} (old : TestTree)
    → new ≡ rewritten_test change old → finished.test new
test_finished {change} {keeps} {finished} promise {new} old is = rw is (finished_test change keeps finished promise old)

pub steps_finished : {change : Change} {keeps : Keeps} {finished : Finished} → IsPromise change keeps finished → {new : StepsTree} (old : StepsTree)
    → new ≡ rewritten_steps change old → AreFinished finished new
steps_finished {change} {keeps} {finished} promise {new} old is = rw is (finished_steps change keeps finished promise old)
