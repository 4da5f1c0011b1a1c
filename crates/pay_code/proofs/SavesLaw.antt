-- Flat code saves twice as many values as its table has, where each choice is split.
use Rattle.std.proofs.Common.{◌≡◌, ℕ, ◌+◌, ◌-◌, ◌*◌, Bool, List, [], ◌∷◌, ◌++◌, length, take, drop, Option, Some, None, refl, ap, ◌∙◌, arith}
use Rattle.std.proofs.lemmas.List.{append-nil, length-append}
use Rattle.pay_tree.specs.Owned.{NumberTree, literal_at, slot_at, spot_at, unary_at, binary_at, TestTree, truth_at, compare_at, not_at, and_at, or_at}
use Rattle.pay_tree.specs.Owned.{StepTree, assigning, paying, choosing, grouping, StepsTree, no_steps, step_then, EventTree}
use Rattle.pay_code.specs.declared.op.Op.{Op}
use Rattle.pay_code.specs.declared.op.Op.TheVariants as op
use Rattle.pay_code.specs.Flat.{number_code, and_code_to, or_code_to, after_sides, surely_code, test_code, step_table, steps_table, choice_code_of}
use Rattle.pay_code.specs.Flat.{step_code, steps_code, event_code, events_code, events_table, flat_code}
use Rattle.pay_code.specs.Execution.{changes_of, changes_from_if, op_ahead}
use Rattle.pay_code.specs.Bounds.{saved_in}
use Rattle.pay_code.proofs.RunLemmas.{before_two}
use Rattle.pay_code.proofs.PieceLemmas.{ahead}
use Rattle.pay_code.proofs.TableLemmas.{StandsAt, first_part, second_part, all_of_it, named_part}
use Rattle.pay_code.proofs.ChoiceLaw.{before_choice, length_choice, found_ahead}

-- code at a place saves so many values, whatever comes after it
abbrev Saves : List ℕ → ℕ → List Op → ℕ → Type 0
Saves t at code n = (rest : List Op) (there : ℕ) → there ≡ at + length code → saved_in t at (code ++ rest) ≡ n + saved_in t there rest

then_saves : (t : List ℕ) (at : ℕ) (a b : List Op) (n m : ℕ) → Saves t at a n → Saves t (at + length a) b m → Saves t at (a ++ b) (n + m)
then_saves t at a b n m first second = λ rest there e.
    let one = first (b ++ rest) (at + length a) refl in
    let two = second rest there (omega (arith, length-append a b)) in
    let whole = ap (saved_in t at) (before_two a b rest) in
    omega arith

-- an operation that saves nothing
one_saves : (t : List ℕ) (at : ℕ) (o : Op) → ((rest : List Op) → saved_in t at (o ∷ rest) ≡ saved_in t (at + 1) rest) → Saves t at (o ∷ []) 0
one_saves t at o nothing = λ rest there e.
    let place : at + 1 ≡ there = omega arith in
    let count : saved_in t (at + 1) rest ≡ saved_in t there rest = ap (λ n. saved_in t n rest) place in
    let here = nothing rest in
    omega arith

number_saves : (t : List ℕ) (at : ℕ) (number : NumberTree) → Saves t at (number_code number) 0
number_saves t at (literal_at id raw) = one_saves t at (op.Number raw) (λ rest. omega arith)
number_saves t at (slot_at id slot) = one_saves t at (op.Slot slot) (λ rest. omega arith)
number_saves t at (spot_at id) = one_saves t at op.Spot (λ rest. omega arith)
number_saves t at (unary_at id kind side) =
    then_saves t at (number_code side) (op.Unary kind ∷ []) 0 0 (number_saves t at side)
    (one_saves t (at + length (number_code side)) (op.Unary kind) (λ rest. omega arith))
number_saves t at (binary_at id kind left right) =
    let there : ℕ = at + length (number_code left) in
    then_saves t at (number_code left) (number_code right ++ (op.Binary kind ∷ [])) 0 0 (number_saves t at left)
    (then_saves t there (number_code right) (op.Binary kind ∷ []) 0 0 (number_saves t there right)
    (one_saves t (there + length (number_code right)) (op.Binary kind) (λ rest. omega arith)))

surely_saves : (t : List ℕ) (at : ℕ) (told : Option Bool) (code : List Op) → Saves t at code 0 → Saves t at (surely_code told code) 0
surely_saves t at None code h = h
surely_saves t at (Some answer) code h =
    then_saves t at code (op.Sure answer ∷ []) 0 0 h (one_saves t (at + length code) (op.Sure answer) (λ rest. omega arith))

jump_saves : (t : List ℕ) (at : ℕ) (left : List Op) (skip : Op) (right : List Op) (join : Op)
    → ((place : ℕ) (rest : List Op) → saved_in t place (skip ∷ rest) ≡ saved_in t (place + 1) rest)
    → ((place : ℕ) (rest : List Op) → saved_in t place (join ∷ rest) ≡ saved_in t (place + 1) rest)
    → Saves t at left 0 → Saves t (at + length left + 1) right 0 → Saves t at (left ++ (skip ∷ (right ++ (join ∷ [])))) 0
jump_saves t at left skip right join skips joins first second =
    then_saves t at left (skip ∷ (right ++ (join ∷ []))) 0 0 first
    (then_saves t (at + length left) (skip ∷ []) (right ++ (join ∷ [])) 0 0 (one_saves t (at + length left) skip (skips (at + length left)))
    (then_saves t (at + length left + 1) right (join ∷ []) 0 0 second
    (one_saves t (at + length left + 1 + length right) join (joins (at + length left + 1 + length right)))))

test_saves : (t : List ℕ) (at : ℕ) (test : TestTree) → Saves t at (test_code at test) 0
test_saves t at (truth_at id told answer) =
    surely_saves t at told (op.Truth answer ∷ []) (one_saves t at (op.Truth answer) (λ rest. omega arith))
test_saves t at (compare_at id told kind left right smooth) =
    let there : ℕ = at + length (number_code left) in
    surely_saves t at told (number_code left ++ (number_code right ++ (op.Compare kind smooth ∷ [])))
    (then_saves t at (number_code left) (number_code right ++ (op.Compare kind smooth ∷ [])) 0 0 (number_saves t at left)
    (then_saves t there (number_code right) (op.Compare kind smooth ∷ []) 0 0 (number_saves t there right)
    (one_saves t (there + length (number_code right)) (op.Compare kind smooth) (λ rest. omega arith))))
test_saves t at (not_at id told side) =
    surely_saves t at told (test_code at side ++ (op.Not ∷ []))
    (then_saves t at (test_code at side) (op.Not ∷ []) 0 0 (test_saves t at side)
    (one_saves t (at + length (test_code at side)) op.Not (λ rest. omega arith)))
test_saves t at (and_at id told left right) =
    let first : List Op = test_code at left in
    let second : List Op = test_code (at + length first + 1) right in
    surely_saves t at told (and_code_to (after_sides at first second) first second)
    (jump_saves t at first (op.AndSkip (after_sides at first second)) second op.AndJoin (λ place rest. omega arith) (λ place rest. omega arith)
    (test_saves t at left) (test_saves t (at + length first + 1) right))
test_saves t at (or_at id told left right) =
    let first : List Op = test_code at left in
    let second : List Op = test_code (at + length first + 1) right in
    surely_saves t at told (or_code_to (after_sides at first second) first second)
    (jump_saves t at first (op.OrSkip (after_sides at first second)) second op.OrJoin (λ place rest. omega arith) (λ place rest. omega arith)
    (test_saves t at left) (test_saves t (at + length first + 1) right))

-- a choice saves its changes at its `If` and at its `Else`
choice_saves : (t : List ℕ) (at other target first count : ℕ) (test yes_part no_part : List Op) (changes : List ℕ) (n m : ℕ)
    → other ≡ at + length test + 1 + length yes_part + 1 → target ≡ other + length no_part → take count (drop first t) ≡ changes
    → Saves t at test 0 → Saves t (at + length test + 1) yes_part n → Saves t other no_part m
    → Saves t at (choice_code_of other target first count test yes_part no_part) (length changes + n + (length changes + m))
choice_saves t at other target first count test yes_part no_part changes n m turn_at end_at named test_counts yes_counts no_counts = λ rest there e.
    let place : ℕ = at + length test in
    let turn : ℕ = place + 1 + length yes_part in
    let last : List Op = op.EndIf first count ∷ rest in
    let middle : List Op = no_part ++ last in
    let tail : List Op = yes_part ++ (op.Else target ∷ middle) in
    let whole = ap (saved_in t at) (before_choice other target first count test yes_part no_part rest) in
    let one = test_counts (op.If other ∷ tail) place refl in
    let at_if : length (changes_from_if t place tail other) ≡ length changes =
    ap length (found_ahead t place other target first count yes_part no_part rest turn_at end_at ∙ named) in
    let two = yes_counts (op.Else target ∷ middle) turn refl in
    let at_else : length (changes_of t (op_ahead middle (target - (turn + 1)))) ≡ length changes =
    ap length (ap (changes_of t) (ahead no_part (op.EndIf first count) rest (target - (turn + 1)) (omega arith)) ∙ named) in
    let turned : saved_in t (turn + 1) middle ≡ saved_in t other middle =
    ap (λ n. saved_in t n middle) (let same : turn + 1 ≡ other = omega arith in same) in
    let three = no_counts last target end_at in
    let ended : saved_in t (target + 1) rest ≡ saved_in t there rest =
    ap (λ n. saved_in t n rest)
    (let same : target + 1 ≡ there = omega (arith, length_choice other target first count test yes_part no_part) in same) in
    omega arith

mutual
  step_saves : (t : List ℕ) (at from : ℕ) (step : StepTree) → StandsAt t from (step_table step)
      → Saves t at (step_code at from step) (2 * length (step_table step))
  step_saves t at from (assigning slot value) stands =
      then_saves t at (number_code value) (op.Assign slot ∷ []) 0 0 (number_saves t at value)
      (one_saves t (at + length (number_code value)) (op.Assign slot) (λ rest. omega arith))
  step_saves t at from (paying leg amount) stands =
      then_saves t at (number_code amount) (op.Pay leg ∷ []) 0 0 (number_saves t at amount)
      (one_saves t (at + length (number_code amount)) (op.Pay leg) (λ rest. omega arith))
  step_saves t at from (choosing test yes_part no_part changes) stands =
      let first : List Op = test_code at test in
      let start : ℕ = at + length first + 1 in
      let yes_code : List Op = steps_code start from yes_part in
      let second : ℕ = from + length (steps_table yes_part) in
      let other : ℕ = start + length yes_code + 1 in
      let no_code : List Op = steps_code other second no_part in
      let after = second_part t from (steps_table yes_part) (steps_table no_part ++ changes) stands in
      let own = second_part t second (steps_table no_part) changes after in
      let made = choice_saves t at other (other + length no_code) (second + length (steps_table no_part)) (length changes) first yes_code no_code changes
      (2 * length (steps_table yes_part)) (2 * length (steps_table no_part)) refl refl
      (named_part t (second + length (steps_table no_part)) changes own) (test_saves t at test)
      (steps_save t start from yes_part (first_part t from (steps_table yes_part) (steps_table no_part ++ changes) stands))
      (steps_save t other second no_part (first_part t second (steps_table no_part) changes after)) in
      let long = length-append (steps_table yes_part) (steps_table no_part ++ changes) in
      let rest_long = length-append (steps_table no_part) changes in
      λ rest there e. let counted = made rest there e in omega arith
  step_saves t at from (grouping steps) stands = steps_save t at from steps stands

  steps_save : (t : List ℕ) (at from : ℕ) (steps : StepsTree) → StandsAt t from (steps_table steps)
      → Saves t at (steps_code at from steps) (2 * length (steps_table steps))
  steps_save t at from no_steps stands = λ rest there e.
      let count : saved_in t at rest ≡ saved_in t there rest = ap (λ n. saved_in t n rest) (let same : at ≡ there = omega arith in same) in
      omega arith
  steps_save t at from (step_then step rest) stands =
      let first : List Op = step_code at from step in
      let there : ℕ = from + length (step_table step) in
      let made = then_saves t at first (steps_code (at + length first) there rest) (2 * length (step_table step)) (2 * length (steps_table rest))
      (step_saves t at from step (first_part t from (step_table step) (steps_table rest) stands))
      (steps_save t (at + length first) there rest (second_part t from (step_table step) (steps_table rest) stands)) in
      let long = length-append (step_table step) (steps_table rest) in
      λ more place e. let counted = made more place e in omega arith

events_save : (t : List ℕ) (at from : ℕ) (events : List EventTree) → StandsAt t from (events_table events)
    → Saves t at (events_code at from events) (2 * length (events_table events))
events_save t at from [] stands = λ rest there e.
    let count : saved_in t at rest ≡ saved_in t there rest = ap (λ n. saved_in t n rest) (let same : at ≡ there = omega arith in same) in
    omega arith
events_save t at from (event ∷ rest) stands =
    let steps : List Op = steps_code at from event.steps in
    let first : List Op = event_code at from event in
    let there : ℕ = from + length (steps_table event.steps) in
    let made = then_saves t at first (events_code (at + length first) there rest) (2 * length (steps_table event.steps) + 0)
    (2 * length (events_table rest))
    (then_saves t at steps (op.EndEvent ∷ []) (2 * length (steps_table event.steps)) 0
    (steps_save t at from event.steps (first_part t from (steps_table event.steps) (events_table rest) stands))
    (one_saves t (at + length steps) op.EndEvent (λ rest. omega arith)))
    (events_save t (at + length first) there rest (second_part t from (steps_table event.steps) (events_table rest) stands)) in
    let long = length-append (steps_table event.steps) (events_table rest) in
    λ more place e. let counted = made more place e in omega arith

pub code_saves : (events : List EventTree) → saved_in (events_table events) 0 (flat_code events) ≡ 2 * length (events_table events)
code_saves events =
    let code : List Op = flat_code events in
    let made = events_save (events_table events) 0 0 events (all_of_it (events_table events)) [] (length code) (omega arith) in
    let whole = ap (saved_in (events_table events) 0) (append-nil code) in
    omega arith
