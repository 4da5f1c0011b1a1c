-- Steps whose parts are plain: no comparison in them is smoothed.
use Rattle.std.proofs.Common.{ℕ, false, is_none, List, [], ◌∷◌, ◌++◌, map, Option, Some, None, IsTrue, refl, sym, ◌∙◌}
use Rattle.std.proofs.lemmas.Bool.{and_parts, both_ways}
use Rattle.std.proofs.lemmas.List.Folds.{list_all-append}
use Rattle.std.specs.List.{list_all}
use Rattle.pay_fixed.specs.declared.smooth.Smooth.{Smooth}
use Rattle.pay_tree.specs.Owned.{TestTree, truth_at, compare_at, not_at, and_at, or_at}
use Rattle.pay_tree.specs.Owned.{StepTree, assigning, paying, choosing, grouping, StepsTree, no_steps, step_then, EventTree}
use Rattle.pay_visit.specs.Showing.{TreePart, a_test_at, a_step_of, parts_of_number, parts_of_test, parts_of_step, parts_of_steps}
use Rattle.pay_passes.specs.Trades.{is_plain, parts_of_events}
use Rattle.pay_code.specs.Programs.{IsGoodIfAny, IsSmoothTest, IsSmoothStep, AreSmoothSteps, AreSmooth}
use Rattle.pay_simplified.specs.Pruning.{filled_event}
use Rattle.pay_simplified.proofs.FillingLemmas.{filled_smooth}

-- parts are plain
abbrev pub ArePlain : ℕ → ℕ → List TreePart → Type 0
ArePlain variables legs parts = IsTrue (list_all (is_plain variables legs) parts)

-- two lists of parts are plain where their parts together are
pub plain_both : (variables legs : ℕ) (front back : List TreePart) → ArePlain variables legs (front ++ back)
    → ArePlain variables legs front × ArePlain variables legs back
plain_both variables legs front back h =
    and_parts (list_all (is_plain variables legs) front) (list_all (is_plain variables legs) back)
    (sym (list_all-append (is_plain variables legs) front back) ∙ h)

-- the first part is plain, and the rest
pub plain_first : (variables legs : ℕ) (part : TreePart) (rest : List TreePart) → ArePlain variables legs (part ∷ rest)
    → IsTrue (is_plain variables legs part) × ArePlain variables legs rest
plain_first variables legs part rest h = and_parts (is_plain variables legs part) (list_all (is_plain variables legs) rest) h

module _ (variables legs : ℕ) where
  no_smoothing : (smooth : Option Smooth) → IsTrue (is_none smooth) → IsGoodIfAny smooth
  no_smoothing None h = tt
  no_smoothing (Some smooth) h = absurd (both_ways false refl h)

  test_is_smooth : (test : TestTree) → ArePlain variables legs (parts_of_test test) → IsSmoothTest test
  test_is_smooth (truth_at id told answer) plain = tt
  test_is_smooth (compare_at id told op left right smooth) plain =
      no_smoothing smooth (and_parts (is_none told) (is_none smooth)
      (plain_first variables legs (a_test_at (compare_at id told op left right smooth)) (parts_of_number left ++ parts_of_number right) plain).0).1
  test_is_smooth (not_at id told side) plain = test_is_smooth side (plain_first variables legs (a_test_at (not_at id told side)) (parts_of_test side) plain).1
  test_is_smooth (and_at id told left right) plain =
      let sides = plain_both variables legs (parts_of_test left) (parts_of_test right)
      (plain_first variables legs (a_test_at (and_at id told left right)) (parts_of_test left ++ parts_of_test right) plain).1 in
      (test_is_smooth left sides.0, test_is_smooth right sides.1)
  test_is_smooth (or_at id told left right) plain =
      let sides = plain_both variables legs (parts_of_test left) (parts_of_test right)
      (plain_first variables legs (a_test_at (or_at id told left right)) (parts_of_test left ++ parts_of_test right) plain).1 in
      (test_is_smooth left sides.0, test_is_smooth right sides.1)

  mutual
    step_is_smooth : (step : StepTree) → ArePlain variables legs (parts_of_step step) → IsSmoothStep step
    step_is_smooth (assigning slot value) plain = tt
    step_is_smooth (paying leg amount) plain = tt
    step_is_smooth (choosing test yes_part no_part changes) plain =
        let parts = plain_both variables legs (parts_of_test test) (parts_of_steps yes_part ++ parts_of_steps no_part)
        (plain_first variables legs (a_step_of (choosing test yes_part no_part changes))
        (parts_of_test test ++ (parts_of_steps yes_part ++ parts_of_steps no_part)) plain).1 in
        let branches = plain_both variables legs (parts_of_steps yes_part) (parts_of_steps no_part) parts.1 in
        (test_is_smooth test parts.0, (steps_are_smooth yes_part branches.0, steps_are_smooth no_part branches.1))
    step_is_smooth (grouping steps) plain = steps_are_smooth steps (plain_first variables legs (a_step_of (grouping steps)) (parts_of_steps steps) plain).1

    -- the smoothings of steps
    steps_are_smooth : (steps : StepsTree) → ArePlain variables legs (parts_of_steps steps) → AreSmoothSteps steps
    steps_are_smooth no_steps plain = tt
    steps_are_smooth (step_then step rest) plain =
        let parts = plain_both variables legs (parts_of_step step) (parts_of_steps rest) plain in
        (step_is_smooth step parts.0, steps_are_smooth rest parts.1)

  -- the smoothings of events, once their choices are filled in
  pub events_are_smooth : (events : List EventTree) → ArePlain variables legs (parts_of_events events) → AreSmooth (map filled_event events)
  events_are_smooth [] plain = tt
  events_are_smooth (event ∷ rest) plain =
      let parts = plain_both variables legs (parts_of_steps event.steps) (parts_of_events rest) plain in
      (filled_smooth event.steps (steps_are_smooth event.steps parts.0), events_are_smooth rest parts.1)
