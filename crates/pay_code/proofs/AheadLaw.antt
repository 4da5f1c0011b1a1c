-- All targets of flat code lie ahead.
use Rattle.std.proofs.Common.{◌≡◌, ℕ, ◌+◌, ◌≤◌, Bool, List, [], ◌∷◌, ◌++◌, length, Option, Some, None, refl, subst, arith}
use Rattle.pay_tree.specs.Owned.{NumberTree, literal_at, slot_at, spot_at, unary_at, binary_at, TestTree, truth_at, compare_at, not_at, and_at, or_at}
use Rattle.pay_tree.specs.Owned.{StepTree, assigning, paying, choosing, grouping, StepsTree, no_steps, step_then, EventTree}
use Rattle.pay_code.specs.declared.op.Op.{Op}
use Rattle.pay_code.specs.declared.op.Op.TheVariants as op
use Rattle.pay_code.specs.Flat.{number_code, and_code_to, or_code_to, after_sides, surely_code, test_code, step_table, steps_table, choice_code_of}
use Rattle.pay_code.specs.Flat.{step_code, steps_code, event_code, events_code, flat_code}
use Rattle.pay_code.specs.Bounds.{TargetsLieAhead}
use Rattle.pay_code.proofs.RunLemmas.{length_two}
use Rattle.pay_code.proofs.TestLaw.{length_jump}
use Rattle.pay_code.proofs.ChoiceLaw.{length_choice}

-- two pieces, the second where the first ends
then_ahead : (last at there : ℕ) (a b : List Op) → there ≡ at + length a → TargetsLieAhead last at a → TargetsLieAhead last there b
    → TargetsLieAhead last at (a ++ b)
then_ahead last at there [] b e h k = subst (λ n. TargetsLieAhead last n b) (let same : there ≡ at = omega arith in same) k
then_ahead last at there (first ∷ a) b e h k = (h.0, then_ahead last (at + 1) there a b (omega arith) h.1 k)

number_ahead : (last at : ℕ) (number : NumberTree) → TargetsLieAhead last at (number_code number)
number_ahead last at (literal_at id raw) = (tt, tt)
number_ahead last at (slot_at id slot) = (tt, tt)
number_ahead last at (spot_at id) = (tt, tt)
number_ahead last at (unary_at id kind side) =
    then_ahead last at (at + length (number_code side)) (number_code side) (op.Unary kind ∷ []) refl (number_ahead last at side) (tt, tt)
number_ahead last at (binary_at id kind left right) =
    let there : ℕ = at + length (number_code left) in
    then_ahead last at there (number_code left) (number_code right ++ (op.Binary kind ∷ [])) refl (number_ahead last at left)
    (then_ahead last there (there + length (number_code right)) (number_code right) (op.Binary kind ∷ []) refl (number_ahead last there right) (tt, tt))

surely_ahead : (last at : ℕ) (told : Option Bool) (code : List Op) → TargetsLieAhead last at code → TargetsLieAhead last at (surely_code told code)
surely_ahead last at None code h = h
surely_ahead last at (Some answer) code h = then_ahead last at (at + length code) code (op.Sure answer ∷ []) refl h (tt, tt)

-- a test is no longer where it is sure
surely_longer : (told : Option Bool) (code : List Op) → length code ≤ length (surely_code told code)
surely_longer None code = omega arith
surely_longer (Some answer) code = omega (arith, length_two code (op.Sure answer ∷ []))

and_ahead : (last at to : ℕ) (left right : List Op) → to ≡ after_sides at left right → at + length (and_code_to to left right) ≤ last
    → TargetsLieAhead last at left → TargetsLieAhead last (at + length left + 1) right → TargetsLieAhead last at (and_code_to to left right)
and_ahead last at to left right target within h k =
    let long = length_jump left (op.AndSkip to) right op.AndJoin in
    then_ahead last at (at + length left) left (op.AndSkip to ∷ (right ++ (op.AndJoin ∷ []))) refl h
    ((omega arith, omega arith), then_ahead last (at + length left + 1) (at + length left + 1 + length right) right (op.AndJoin ∷ []) refl k (tt, tt))

or_ahead : (last at to : ℕ) (left right : List Op) → to ≡ after_sides at left right → at + length (or_code_to to left right) ≤ last
    → TargetsLieAhead last at left → TargetsLieAhead last (at + length left + 1) right → TargetsLieAhead last at (or_code_to to left right)
or_ahead last at to left right target within h k =
    let long = length_jump left (op.OrSkip to) right op.OrJoin in
    then_ahead last at (at + length left) left (op.OrSkip to ∷ (right ++ (op.OrJoin ∷ []))) refl h
    ((omega arith, omega arith), then_ahead last (at + length left + 1) (at + length left + 1 + length right) right (op.OrJoin ∷ []) refl k (tt, tt))

test_ahead : (last at : ℕ) (test : TestTree) → at + length (test_code at test) ≤ last → TargetsLieAhead last at (test_code at test)
test_ahead last at (truth_at id told answer) within = surely_ahead last at told (op.Truth answer ∷ []) (tt, tt)
test_ahead last at (compare_at id told kind left right smooth) within =
    let there : ℕ = at + length (number_code left) in
    surely_ahead last at told (number_code left ++ (number_code right ++ (op.Compare kind smooth ∷ [])))
    (then_ahead last at there (number_code left) (number_code right ++ (op.Compare kind smooth ∷ [])) refl (number_ahead last at left)
    (then_ahead last there (there + length (number_code right)) (number_code right) (op.Compare kind smooth ∷ []) refl
    (number_ahead last there right) (tt, tt)))
test_ahead last at (not_at id told side) within =
    let code : List Op = test_code at side in
    let whole = surely_longer told (code ++ (op.Not ∷ [])) in
    let long = length_two code (op.Not ∷ []) in
    surely_ahead last at told (code ++ (op.Not ∷ []))
    (then_ahead last at (at + length code) code (op.Not ∷ []) refl (test_ahead last at side (omega arith)) (tt, tt))
test_ahead last at (and_at id told left right) within =
    let first : List Op = test_code at left in
    let second : List Op = test_code (at + length first + 1) right in
    let to : ℕ = after_sides at first second in
    let whole = surely_longer told (and_code_to to first second) in
    let long = length_jump first (op.AndSkip to) second op.AndJoin in
    surely_ahead last at told (and_code_to to first second)
    (and_ahead last at to first second refl (omega arith) (test_ahead last at left (omega arith))
    (test_ahead last (at + length first + 1) right (omega arith)))
test_ahead last at (or_at id told left right) within =
    let first : List Op = test_code at left in
    let second : List Op = test_code (at + length first + 1) right in
    let to : ℕ = after_sides at first second in
    let whole = surely_longer told (or_code_to to first second) in
    let long = length_jump first (op.OrSkip to) second op.OrJoin in
    surely_ahead last at told (or_code_to to first second)
    (or_ahead last at to first second refl (omega arith) (test_ahead last at left (omega arith))
    (test_ahead last (at + length first + 1) right (omega arith)))

choice_ahead : (last at other target first count : ℕ) (test yes_part no_part : List Op) → other ≡ at + length test + 1 + length yes_part + 1
    → target ≡ other + length no_part → at + length (choice_code_of other target first count test yes_part no_part) ≤ last
    → TargetsLieAhead last at test → TargetsLieAhead last (at + length test + 1) yes_part → TargetsLieAhead last other no_part
    → TargetsLieAhead last at (choice_code_of other target first count test yes_part no_part)
choice_ahead last at other target first count test yes_part no_part turn_at end_at within test_lies yes_lies no_lies =
    let long = length_choice other target first count test yes_part no_part in
    let start : ℕ = at + length test + 1 in
    let turn : ℕ = start + length yes_part in
    then_ahead last at (at + length test) test (op.If other ∷ (yes_part ++ (op.Else target ∷ (no_part ++ (op.EndIf first count ∷ []))))) refl test_lies (
      (omega arith, omega arith),
      then_ahead last start turn yes_part (op.Else target ∷ (no_part ++ (op.EndIf first count ∷ []))) refl yes_lies (
        (omega arith, omega arith),
        then_ahead last (turn + 1) target no_part (op.EndIf first count ∷ []) (omega arith)
            (subst (λ n. TargetsLieAhead last n no_part) (let same : other ≡ turn + 1 = omega arith in same) no_lies) (tt, tt),
      ),
    )

mutual
  step_ahead : (last at from : ℕ) (step : StepTree) → at + length (step_code at from step) ≤ last → TargetsLieAhead last at (step_code at from step)
  step_ahead last at from (assigning slot value) within =
      then_ahead last at (at + length (number_code value)) (number_code value) (op.Assign slot ∷ []) refl (number_ahead last at value) (tt, tt)
  step_ahead last at from (paying leg amount) within =
      then_ahead last at (at + length (number_code amount)) (number_code amount) (op.Pay leg ∷ []) refl (number_ahead last at amount) (tt, tt)
  step_ahead last at from (choosing test yes_part no_part changes) within =
      let first : List Op = test_code at test in
      let start : ℕ = at + length first + 1 in
      let yes_code : List Op = steps_code start from yes_part in
      let second : ℕ = from + length (steps_table yes_part) in
      let other : ℕ = start + length yes_code + 1 in
      let no_code : List Op = steps_code other second no_part in
      let long = length_choice other (other + length no_code) (second + length (steps_table no_part)) (length changes) first yes_code no_code in
      choice_ahead last at other (other + length no_code) (second + length (steps_table no_part)) (length changes) first yes_code no_code refl refl
      within (test_ahead last at test (omega arith)) (steps_ahead last start from yes_part (omega arith))
      (steps_ahead last other second no_part (omega arith))
  step_ahead last at from (grouping steps) within = steps_ahead last at from steps within

  steps_ahead : (last at from : ℕ) (steps : StepsTree) → at + length (steps_code at from steps) ≤ last
      → TargetsLieAhead last at (steps_code at from steps)
  steps_ahead last at from no_steps within = tt
  steps_ahead last at from (step_then step rest) within =
      let first : List Op = step_code at from step in
      let second : List Op = steps_code (at + length first) (from + length (step_table step)) rest in
      let long = length_two first second in
      then_ahead last at (at + length first) first second refl (step_ahead last at from step (omega arith))
      (steps_ahead last (at + length first) (from + length (step_table step)) rest (omega arith))

events_ahead : (last at from : ℕ) (events : List EventTree) → at + length (events_code at from events) ≤ last
    → TargetsLieAhead last at (events_code at from events)
events_ahead last at from [] within = tt
events_ahead last at from (event ∷ rest) within =
    let steps : List Op = steps_code at from event.steps in
    let first : List Op = event_code at from event in
    let second : List Op = events_code (at + length first) (from + length (steps_table event.steps)) rest in
    let long = length_two first second in
    let event_long = length_two steps (op.EndEvent ∷ []) in
    then_ahead last at (at + length first) first second refl
    (then_ahead last at (at + length steps) steps (op.EndEvent ∷ []) refl (steps_ahead last at from event.steps (omega arith)) (tt, tt))
    (events_ahead last (at + length first) (from + length (steps_table event.steps)) rest (omega arith))

pub targets_ahead : (events : List EventTree) → TargetsLieAhead (length (flat_code events)) 0 (flat_code events)
targets_ahead events = events_ahead (length (flat_code events)) 0 0 events (omega arith)
