-- The smoothings of flat code are those of its events: good ones.
use Rattle.std.proofs.Common.{ℕ, Bool, List, [], ◌∷◌, ◌++◌, Option, Some, None}
use Rattle.pay_tree.specs.Owned.{NumberTree, literal_at, slot_at, spot_at, unary_at, binary_at, TestTree, truth_at, compare_at, not_at, and_at, or_at}
use Rattle.pay_tree.specs.Owned.{StepTree, assigning, paying, choosing, grouping, StepsTree, no_steps, step_then, EventTree}
use Rattle.pay_code.specs.declared.op.Op.{Op}
use Rattle.pay_code.specs.declared.op.Op.TheVariants as op
use Rattle.pay_code.specs.Flat.{number_code, surely_code, test_code, step_code, steps_code, event_code, events_code}
use Rattle.pay_code.specs.Programs.{IsGoodOp, AreGoodOps, IsSmoothTest, IsSmoothStep, AreSmoothSteps, AreSmooth}

-- good code after good code
good_append : (first second : List Op) → AreGoodOps first → AreGoodOps second → AreGoodOps (first ++ second)
good_append [] second h k = k
good_append (o ∷ first) second h k = (h.0, good_append first second h.1 k)

-- an operation with no smoothing between good pieces
good_between : (first : List Op) (o : Op) (second : List Op) → AreGoodOps first → IsGoodOp o → AreGoodOps second → AreGoodOps (first ++ (o ∷ second))
good_between first o second h good k = good_append first (o ∷ second) h (good, k)

good_number : (number : NumberTree) → AreGoodOps (number_code number)
good_number (literal_at id raw) = (tt, tt)
good_number (slot_at id slot) = (tt, tt)
good_number (spot_at id) = (tt, tt)
good_number (unary_at id operator side) = good_between (number_code side) (op.Unary operator) [] (good_number side) tt tt
good_number (binary_at id operator left right) =
    good_append (number_code left) (number_code right ++ (op.Binary operator ∷ [])) (good_number left)
    (good_between (number_code right) (op.Binary operator) [] (good_number right) tt tt)

good_surely : (told : Option Bool) (code : List Op) → AreGoodOps code → AreGoodOps (surely_code told code)
good_surely None code h = h
good_surely (Some answer) code h = good_between code (op.Sure answer) [] h tt tt

-- two sides with an operation between them and one after them
good_sides : (left : List Op) (skip : Op) (right : List Op) (join : Op) → AreGoodOps left → IsGoodOp skip → AreGoodOps right → IsGoodOp join
    → AreGoodOps (left ++ (skip ∷ (right ++ (join ∷ []))))
good_sides left skip right join h skips k joins =
    good_between left skip (right ++ (join ∷ [])) h skips (good_between right join [] k joins tt)

good_test : (test : TestTree) (at : ℕ) → IsSmoothTest test → AreGoodOps (test_code at test)
good_test (truth_at id told answer) at h = good_surely told (op.Truth answer ∷ []) (tt, tt)
good_test (compare_at id told comparison left right smooth) at h =
    good_surely told (number_code left ++ (number_code right ++ (op.Compare comparison smooth ∷ [])))
    (good_append (number_code left) (number_code right ++ (op.Compare comparison smooth ∷ [])) (good_number left)
    (good_between (number_code right) (op.Compare comparison smooth) [] (good_number right) h tt))
good_test (not_at id told side) at h =
    good_surely told (test_code at side ++ (op.Not ∷ [])) (good_between (test_code at side) op.Not [] (good_test side at h) tt tt)
good_test (and_at id told left right) at h =
    good_surely told _ (good_sides (test_code at left) (op.AndSkip _) (test_code _ right) op.AndJoin (good_test left at h.0) tt (good_test right _ h.1) tt)
good_test (or_at id told left right) at h =
    good_surely told _ (good_sides (test_code at left) (op.OrSkip _) (test_code _ right) op.OrJoin (good_test left at h.0) tt (good_test right _ h.1) tt)

mutual
  good_step : (step : StepTree) (at from : ℕ) → IsSmoothStep step → AreGoodOps (step_code at from step)
  good_step (assigning slot value) at from h = good_between (number_code value) (op.Assign slot) [] (good_number value) tt tt
  good_step (paying leg amount) at from h = good_between (number_code amount) (op.Pay leg) [] (good_number amount) tt tt
  good_step (choosing test yes_part no_part changes) at from h =
      good_between (test_code at test) (op.If _) _ (good_test test at h.0) tt
      (good_sides (steps_code _ from yes_part) (op.Else _) (steps_code _ _ no_part) (op.EndIf _ _) (good_steps yes_part _ from h.1.0) tt
      (good_steps no_part _ _ h.1.1) tt)
  good_step (grouping steps) at from h = good_steps steps at from h

  good_steps : (steps : StepsTree) (at from : ℕ) → AreSmoothSteps steps → AreGoodOps (steps_code at from steps)
  good_steps no_steps at from h = tt
  good_steps (step_then step rest) at from h =
      good_append (step_code at from step) _ (good_step step at from h.0) (good_steps rest _ _ h.1)

-- the code of events with good smoothings is good
pub good_events : (events : List EventTree) (at from : ℕ) → AreSmooth events → AreGoodOps (events_code at from events)
good_events [] at from h = tt
good_events (event ∷ rest) at from h =
    good_append (event_code at from event) _ (good_between (steps_code at from event.steps) op.EndEvent [] (good_steps event.steps at from h.0) tt tt)
    (good_events rest _ _ h.1)
