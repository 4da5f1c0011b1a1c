-- The legs that steps pay are those of their parts, and those of plain parts are the trade's own.
use Rattle.std.proofs.Common.{◌≡◌, ℕ, nat_lt, true, List, [], ◌∷◌, ◌++◌, map, length, filter, suc, IsTrue, refl, sym, ap, ◌∙◌, append_assoc, arith}
use Rattle.std.proofs.lemmas.List.Folds.{list_all-append}
use Rattle.std.specs.List.{list_all}
use Rattle.pay_tree.specs.Owned.{NumberTree, literal_at, slot_at, spot_at, unary_at, binary_at, TestTree, truth_at, compare_at, not_at, and_at, or_at}
use Rattle.pay_tree.specs.Owned.{StepTree, assigning, paying, choosing, grouping, StepsTree, no_steps, step_then, EventTree}
use Rattle.pay_visit.specs.Showing.{TreePart, a_step_of, parts_of_number, parts_of_test, parts_of_step, parts_of_steps}
use Rattle.pay_passes.specs.Trades.{is_plain, is_paying, parts_of_events}
use Rattle.pay_simplified.specs.Pruning.{filled_event}
use Rattle.pay_simplified.proofs.BoundLemmas.{and_both, total, paid_by, paid_in}
use Rattle.pay_simplified.proofs.FillingLemmas.{filled_paid}
use Rattle.pay_simplified.proofs.PaidLemmas.{events_paid, each_one}
use Rattle.pay_compile.proofs.PlainLemmas.{ArePlain, plain_first}

-- the leg that a part itself pays, if it does
abbrev leg_of_part : TreePart → List ℕ
leg_of_part (a_step_of (paying leg amount)) = leg ∷ []
leg_of_part part = []

-- the legs that parts pay, in their order and as often as they do
abbrev pub legs_of_parts : List TreePart → List ℕ
legs_of_parts [] = []
legs_of_parts (part ∷ rest) = leg_of_part part ++ legs_of_parts rest

pub legs_both : (front back : List TreePart) → legs_of_parts (front ++ back) ≡ legs_of_parts front ++ legs_of_parts back
legs_both [] back = refl
legs_both (part ∷ rest) back =
    ap (λ legs. leg_of_part part ++ legs) (legs_both rest back) ∙ sym (append_assoc (leg_of_part part) (legs_of_parts rest) (legs_of_parts back))

no_legs : (front back : List TreePart) → legs_of_parts front ≡ [] → legs_of_parts back ≡ [] → legs_of_parts (front ++ back) ≡ []
no_legs front back h k = legs_both front back ∙ ap (λ legs. legs ++ legs_of_parts back) h ∙ k

number_pays : (number : NumberTree) → legs_of_parts (parts_of_number number) ≡ []
number_pays (literal_at id raw) = refl
number_pays (slot_at id slot) = refl
number_pays (spot_at id) = refl
number_pays (unary_at id op side) = number_pays side
number_pays (binary_at id op left right) = no_legs (parts_of_number left) (parts_of_number right) (number_pays left) (number_pays right)

test_pays : (test : TestTree) → legs_of_parts (parts_of_test test) ≡ []
test_pays (truth_at id told answer) = refl
test_pays (compare_at id told op left right smooth) = no_legs (parts_of_number left) (parts_of_number right) (number_pays left) (number_pays right)
test_pays (not_at id told side) = test_pays side
test_pays (and_at id told left right) = no_legs (parts_of_test left) (parts_of_test right) (test_pays left) (test_pays right)
test_pays (or_at id told left right) = no_legs (parts_of_test left) (parts_of_test right) (test_pays left) (test_pays right)

mutual
  step_pays : (step : StepTree) → paid_by step ≡ legs_of_parts (parts_of_step step)
  step_pays (assigning slot value) = sym (number_pays value)
  step_pays (paying leg amount) = sym (ap (λ legs. leg ∷ legs) (number_pays amount))
  step_pays (choosing test yes_part no_part changes) =
      (λ i. steps_pay yes_part i ++ steps_pay no_part i)
      ∙ sym (legs_both (parts_of_test test) (parts_of_steps yes_part ++ parts_of_steps no_part)
      ∙ ap (λ legs. legs ++ legs_of_parts (parts_of_steps yes_part ++ parts_of_steps no_part)) (test_pays test)
      ∙ legs_both (parts_of_steps yes_part) (parts_of_steps no_part))
  step_pays (grouping steps) = steps_pay steps

  -- the legs of steps
  steps_pay : (steps : StepsTree) → paid_in steps ≡ legs_of_parts (parts_of_steps steps)
  steps_pay no_steps = refl
  steps_pay (step_then step rest) = (λ i. step_pays step i ++ steps_pay rest i) ∙ sym (legs_both (parts_of_step step) (parts_of_steps rest))

-- the legs of events, once their choices are filled in
pub events_pay : (events : List EventTree) → events_paid (map filled_event events) ≡ legs_of_parts (parts_of_events events)
events_pay [] = refl
events_pay (event ∷ rest) =
    (λ i. (filled_paid event.steps ∙ steps_pay event.steps) i ++ events_pay rest i) ∙ sym (legs_both (parts_of_steps event.steps) (parts_of_events rest))

-- the leg of a plain part is one of so many
leg_is_own : (variables legs : ℕ) (part : TreePart) → IsTrue (is_plain variables legs part) → IsTrue (list_all (λ leg. nat_lt leg legs) (leg_of_part part))
leg_is_own variables legs (a_step_of (paying leg amount)) plain = and_both (nat_lt leg legs) true plain refl
leg_is_own variables legs part plain = refl

-- so are the legs of plain parts
pub legs_are_own : (variables legs : ℕ) (parts : List TreePart) → ArePlain variables legs parts
    → IsTrue (list_all (λ leg. nat_lt leg legs) (legs_of_parts parts))
legs_are_own variables legs [] plain = refl
legs_are_own variables legs (part ∷ rest) plain =
    let both = plain_first variables legs part rest plain in
    list_all-append (λ leg. nat_lt leg legs) (leg_of_part part) (legs_of_parts rest)
    ∙ and_both (list_all (λ leg. nat_lt leg legs) (leg_of_part part)) (list_all (λ leg. nat_lt leg legs) (legs_of_parts rest))
    (leg_is_own variables legs part both.0) (legs_are_own variables legs rest both.1)

-- each payment is counted once
pub each_is_one : (legs : List ℕ) → total each_one legs ≡ length legs
each_is_one [] = refl
each_is_one (leg ∷ rest) = omega (arith, each_is_one rest)

pub paying_are_legs : (parts : List TreePart) → length (filter is_paying parts) ≡ length (legs_of_parts parts)
paying_are_legs [] = refl
paying_are_legs (a_step_of (paying leg amount) ∷ rest) = ap suc (paying_are_legs rest)
paying_are_legs (part ∷ rest) = paying_are_legs rest
