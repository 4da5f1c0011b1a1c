-- How many parts are evaluated, by number and by name.
use Rattle.std.proofs.Common.{◌≡◌, ℕ, ◌+◌, Bool, true, false, List, length, IsTrue, Option, Some, None, Result, Ok, Err, if◌then◌else◌, nat_eq, refl, ap, ◌∙◌}
use Rattle.std.proofs.lemmas.Bool.{and_parts}
use Rattle.pay_fixed.specs.Weights.{whole as full}
use Rattle.pay_meaning.specs.declared.fault.FaultKind.{FaultKind}
use Rattle.pay_meaning.specs.Language.{Condition}
use Rattle.pay_meaning.specs.Meaning.{Variables, Moment, Effect}
use Rattle.pay_tree.specs.declared.tree.Unary.TheVariants.{Neg, Abs}
use Rattle.pay_tree.specs.Owned.{NumberTree, literal_at, slot_at, spot_at, unary_at, binary_at, TestTree, truth_at, compare_at, not_at, and_at}
use Rattle.pay_tree.specs.Owned.{or_at, StepTree, assigning, paying, choosing, grouping, StepsTree, no_steps, step_then, spelled_number, spelled_test}
use Rattle.pay_tree.specs.Owned.{spelled_step, spelled_steps, surely}
use Rattle.pay_runs.specs.Weighing.{IsFuzzy, weighed_statement, weighed}
use Rattle.pay_runs.specs.Counting.{unless_fault, number_nodes, nodes_after_and, nodes_after_or, condition_nodes, choice_nodes, nodes_from}
use Rattle.pay_runs.specs.Counting.{statement_nodes, body_nodes}
use Rattle.pay_runs.specs.Slots.{Slots, SlotEffect, weight_by_slots, step_by_slots}
use Rattle.pay_runs.specs.Slots.{number_within, test_within, step_within, steps_within}
use Rattle.pay_runs.specs.SlotCounts.{number_slot_nodes, test_slot_nodes, slot_nodes_from, step_slot_nodes, steps_slot_nodes}
use Rattle.pay_runs.specs.RunLaws.{AreApart, StandFor}
use Rattle.pay_runs.proofs.SlotValues.{value_same, weight_same}
use Rattle.pay_runs.proofs.SlotEffects.{DoSame, numbered, step_same, steps_same}

-- of a number
number_counts : (names : List (List ℕ)) (slots : Slots) (variables : Variables) (at : Moment) → StandFor names slots variables
    → (number : NumberTree) → IsTrue (number_within (length names) number)
    → number_slot_nodes number slots at.fixing ≡ number_nodes (spelled_number names number) variables at
number_counts names slots variables at stand (literal_at id raw) within = refl
number_counts names slots variables at stand (slot_at id slot) within = refl
number_counts names slots variables at stand (spot_at id) within = refl
number_counts names slots variables at stand (unary_at id Neg side) within =
    λ i. number_counts names slots variables at stand side within i + unless_fault (value_same names slots variables at stand side within i) 1
number_counts names slots variables at stand (unary_at id Abs side) within =
    λ i. number_counts names slots variables at stand side within i + unless_fault (value_same names slots variables at stand side within i) 1
number_counts names slots variables at stand (binary_at id op left right) within =
    let parts = and_parts (number_within (length names) left) (number_within (length names) right) within in
    λ i. number_counts names slots variables at stand left parts.0 i
    + unless_fault (value_same names slots variables at stand left parts.0 i)
    (number_counts names slots variables at stand right parts.1 i + unless_fault (value_same names slots variables at stand right parts.1 i) 1)

-- to be sure is no part
surely_counts : (told : Option Bool) (fuzzy : IsFuzzy) (c : Condition) (variables : Variables) (at : Moment)
    → condition_nodes fuzzy c variables at ≡ condition_nodes fuzzy (surely told c) variables at
surely_counts None fuzzy c variables at = refl
surely_counts (Some answer) fuzzy c variables at = refl

-- of a test
test_counts : (fuzzy : IsFuzzy) (names : List (List ℕ)) (slots : Slots) (variables : Variables) (at : Moment) → StandFor names slots variables
    → (test : TestTree) → IsTrue (test_within (length names) test)
    → test_slot_nodes fuzzy test slots at.fixing ≡ condition_nodes fuzzy (spelled_test names test) variables at
test_counts fuzzy names slots variables at stand (truth_at id told answer) within = surely_counts told fuzzy _ variables at
test_counts fuzzy names slots variables at stand (compare_at id told op left right smooth) within =
    let parts = and_parts (number_within (length names) left) (number_within (length names) right) within in
    (λ i. number_counts names slots variables at stand left parts.0 i
    + unless_fault (value_same names slots variables at stand left parts.0 i)
    (number_counts names slots variables at stand right parts.1 i + unless_fault (value_same names slots variables at stand right parts.1 i) 1))
    ∙ surely_counts told fuzzy _ variables at
test_counts fuzzy names slots variables at stand (not_at id told side) within =
    (λ i. test_counts fuzzy names slots variables at stand side within i
    + unless_fault (weight_same fuzzy names slots variables at stand side within i) 1)
    ∙ surely_counts told fuzzy _ variables at
test_counts fuzzy names slots variables at stand (and_at id told left right) within =
    let parts = and_parts (test_within (length names) left) (test_within (length names) right) within in
    (λ i. test_counts fuzzy names slots variables at stand left parts.0 i
    + nodes_after_and (weight_same fuzzy names slots variables at stand left parts.0 i)
    (test_counts fuzzy names slots variables at stand right parts.1 i
    + unless_fault (weight_same fuzzy names slots variables at stand right parts.1 i) 1))
    ∙ surely_counts told fuzzy _ variables at
test_counts fuzzy names slots variables at stand (or_at id told left right) within =
    let parts = and_parts (test_within (length names) left) (test_within (length names) right) within in
    (λ i. test_counts fuzzy names slots variables at stand left parts.0 i
    + nodes_after_or (weight_same fuzzy names slots variables at stand left parts.0 i)
    (test_counts fuzzy names slots variables at stand right parts.1 i
    + unless_fault (weight_same fuzzy names slots variables at stand right parts.1 i) 1))
    ∙ surely_counts told fuzzy _ variables at

-- both fault, or none does
unless_same : (names legs : List (List ℕ)) (e : Result SlotEffect FaultKind) (f : Result Effect FaultKind) (more : ℕ) → DoSame names legs e f
    → unless_fault e more ≡ unless_fault f more
unless_same names legs (Err fault) (Err kind) more h = refl
unless_same names legs (Err fault) (Ok right) more h = absurd h
unless_same names legs (Ok left) (Err kind) more h = absurd h
unless_same names legs (Ok left) (Ok right) more h = refl

branch_counts : (names legs : List (List ℕ)) (nothing all : Bool) (e : Result SlotEffect FaultKind) (f : Result Effect FaultKind) (m n : ℕ)
    → DoSame names legs e f
    → (if nothing then n else (if all then m else m + unless_fault e n)) ≡ (if nothing then n else (if all then m else m + unless_fault f n))
branch_counts names legs true all e f m n h = refl
branch_counts names legs false true e f m n h = refl
branch_counts names legs false false e f m n h = ap (λ more. m + more) (unless_same names legs e f n h)

choice_counts : (names legs : List (List ℕ)) (x : Result ℕ FaultKind) (e : Result SlotEffect FaultKind) (f : Result Effect FaultKind) (m n : ℕ)
    → DoSame names legs e f → choice_nodes x e m n ≡ choice_nodes x f m n
choice_counts names legs (Err fault) e f m n h = refl
choice_counts names legs (Ok w) e f m n h = ap (λ more. 1 + more) (branch_counts names legs (nat_eq w 0) (nat_eq w full) e f m n h)

pub onward_counts : (names legs : List (List ℕ)) (e : Result SlotEffect FaultKind) (f : Result Effect FaultKind) (g : Slots → ℕ) (h : Variables → ℕ)
    → DoSame names legs e f → ((slots : Slots) (variables : Variables) → StandFor names slots variables → g slots ≡ h variables)
    → slot_nodes_from e g ≡ nodes_from f h
onward_counts names legs (Err fault) (Err kind) g h first rest = refl
onward_counts names legs (Err fault) (Ok right) g h first rest = absurd first
onward_counts names legs (Ok left) (Err kind) g h first rest = absurd first
onward_counts names legs (Ok left) (Ok right) g h first rest = rest left.slots right.variables first.1

mutual
  -- of a step
  step_counts : (fuzzy : IsFuzzy) (names legs : List (List ℕ)) (at : Moment) → AreApart names → (step : StepTree)
      → IsTrue (step_within (length names) step) → (slots : Slots) (variables : Variables) → StandFor names slots variables
      → step_slot_nodes fuzzy step slots (numbered at) ≡ statement_nodes fuzzy (spelled_step names legs step) variables at
  step_counts fuzzy names legs at apart (assigning slot number) within slots variables stand =
      let parts = and_parts _ (number_within (length names) number) within in
      λ i. number_counts names slots variables at stand number parts.1 i + unless_fault (value_same names slots variables at stand number parts.1 i) 1
  step_counts fuzzy names legs at apart (paying leg amount) within slots variables stand =
      λ i. number_counts names slots variables at stand amount within i + unless_fault (value_same names slots variables at stand amount within i) 1
  step_counts fuzzy names legs at apart (choosing test yes_part no_part changes) within slots variables stand =
      let parts = and_parts (test_within (length names) test) _ within in
      let branches = and_parts (steps_within (length names) yes_part) (steps_within (length names) no_part) parts.1 in
      ap (λ more. test_slot_nodes fuzzy test slots at.fixing + more)
      (choice_counts names legs (weight_by_slots fuzzy test slots at.fixing) _ _ _ _
      (steps_same fuzzy names legs at apart yes_part branches.0 slots variables stand))
      ∙ (λ i. test_counts fuzzy names slots variables at stand test parts.0 i
      + choice_nodes (weight_same fuzzy names slots variables at stand test parts.0 i) (weighed fuzzy (spelled_steps names legs yes_part) variables at)
      (steps_counts fuzzy names legs at apart yes_part branches.0 slots variables stand i)
      (steps_counts fuzzy names legs at apart no_part branches.1 slots variables stand i))
  step_counts fuzzy names legs at apart (grouping steps) within slots variables stand =
      steps_counts fuzzy names legs at apart steps within slots variables stand

  -- of steps
  pub steps_counts : (fuzzy : IsFuzzy) (names legs : List (List ℕ)) (at : Moment) → AreApart names → (steps : StepsTree)
      → IsTrue (steps_within (length names) steps) → (slots : Slots) (variables : Variables) → StandFor names slots variables
      → steps_slot_nodes fuzzy steps slots (numbered at) ≡ body_nodes fuzzy (spelled_steps names legs steps) variables at
  steps_counts fuzzy names legs at apart no_steps within slots variables stand = refl
  steps_counts fuzzy names legs at apart (step_then step rest) within slots variables stand =
      let parts = and_parts (step_within (length names) step) (steps_within (length names) rest) within in
      λ i. step_counts fuzzy names legs at apart step parts.0 slots variables stand i
      + onward_counts names legs (step_by_slots fuzzy step slots (numbered at))
      (weighed_statement fuzzy (spelled_step names legs step) variables at)
      (λ after. steps_slot_nodes fuzzy rest after (numbered at)) (λ after. body_nodes fuzzy (spelled_steps names legs rest) after at)
      (step_same fuzzy names legs at apart step parts.0 slots variables stand)
      (steps_counts fuzzy names legs at apart rest parts.1) i
