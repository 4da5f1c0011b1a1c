-- The legs that code names are those that its steps pay.
use Rattle.std.proofs.Common.{◌≡◌, ℕ, ◌+◌, nat_lt, Bool, true, false, List, [], ◌∷◌, ◌++◌, length, Option, Some, None, IsTrue, refl, sym, ap, ◌∙◌}
use Rattle.std.proofs.Common.{append_assoc, append-nil, arith, if◌then◌else◌, inl, inr}
use Rattle.std.proofs.lemmas.Bool.{cases_Bool, and_parts}
use Rattle.std.specs.List.{list_all}
use Rattle.pay_tree.specs.Owned.{NumberTree, literal_at, slot_at, spot_at, unary_at, binary_at, TestTree, truth_at, compare_at, not_at, and_at, or_at}
use Rattle.pay_tree.specs.Owned.{StepTree, assigning, paying, choosing, grouping, StepsTree, no_steps, step_then, EventTree}
use Rattle.pay_code.specs.declared.op.Op.{Op}
use Rattle.pay_code.specs.declared.op.Op.TheVariants as op
use Rattle.pay_code.specs.Flat.{number_code, two_parts, after_sides, and_code, or_code, surely_code, test_code, step_table, steps_table}
use Rattle.pay_code.specs.Flat.{choice_code_of, choice_code, step_code, steps_code, event_code, events_code}
use Rattle.pay_code.specs.Bounds.{legs_of, legs_in, pays_of, pays_in}
use Rattle.pay_simplified.proofs.BoundLemmas.{and_both, total, total_both, paid_by, paid_in}

-- the legs of two pieces of code
legs_both : (front back : List Op) → legs_in (front ++ back) ≡ legs_in front ++ legs_in back
legs_both [] back = refl
legs_both (first ∷ rest) back = ap (λ legs. legs_of first ++ legs) (legs_both rest back) ∙ sym (append_assoc (legs_of first) (legs_in rest) (legs_in back))

no_legs : (front back : List Op) → legs_in front ≡ [] → legs_in back ≡ [] → legs_in (front ++ back) ≡ []
no_legs front back h k = legs_both front back ∙ ap (λ legs. legs ++ legs_in back) h ∙ k

-- after code that pays nothing
legs_after : (front back : List Op) → legs_in front ≡ [] → legs_in (front ++ back) ≡ legs_in back
legs_after front back h = legs_both front back ∙ ap (λ legs. legs ++ legs_in back) h

-- a number pays nothing
number_pays : (number : NumberTree) → legs_in (number_code number) ≡ []
number_pays (literal_at id raw) = refl
number_pays (slot_at id slot) = refl
number_pays (spot_at id) = refl
number_pays (unary_at id kind side) = no_legs (number_code side) (op.Unary kind ∷ []) (number_pays side) refl
number_pays (binary_at id kind left right) =
    no_legs (number_code left) (number_code right ++ (op.Binary kind ∷ [])) (number_pays left)
    (no_legs (number_code right) (op.Binary kind ∷ []) (number_pays right) refl)

surely_pays : (told : Option Bool) (code : List Op) → legs_in code ≡ [] → legs_in (surely_code told code) ≡ []
surely_pays None code h = h
surely_pays (Some answer) code h = no_legs code (op.Sure answer ∷ []) h refl

and_pays : (at : ℕ) (left : List Op) (right : ℕ → List Op) → legs_in left ≡ [] → ((there : ℕ) → legs_in (right there) ≡ [])
    → legs_in (and_code at left right) ≡ []
and_pays at left right h k =
    let second : List Op = right (at + length left + 1) in
    no_legs left (op.AndSkip (after_sides at left second) ∷ (second ++ (op.AndJoin ∷ []))) h
    (no_legs second (op.AndJoin ∷ []) (k (at + length left + 1)) refl)

or_pays : (at : ℕ) (left : List Op) (right : ℕ → List Op) → legs_in left ≡ [] → ((there : ℕ) → legs_in (right there) ≡ [])
    → legs_in (or_code at left right) ≡ []
or_pays at left right h k =
    let second : List Op = right (at + length left + 1) in
    no_legs left (op.OrSkip (after_sides at left second) ∷ (second ++ (op.OrJoin ∷ []))) h
    (no_legs second (op.OrJoin ∷ []) (k (at + length left + 1)) refl)

-- a test pays nothing
test_pays : (test : TestTree) (at : ℕ) → legs_in (test_code at test) ≡ []
test_pays (truth_at id told answer) at = surely_pays told (op.Truth answer ∷ []) refl
test_pays (compare_at id told kind left right smooth) at =
    surely_pays told (number_code left ++ (number_code right ++ (op.Compare kind smooth ∷ [])))
    (no_legs (number_code left) (number_code right ++ (op.Compare kind smooth ∷ [])) (number_pays left)
    (no_legs (number_code right) (op.Compare kind smooth ∷ []) (number_pays right) refl))
test_pays (not_at id told side) at =
    surely_pays told (test_code at side ++ (op.Not ∷ [])) (no_legs (test_code at side) (op.Not ∷ []) (test_pays side at) refl)
test_pays (and_at id told left right) at =
    surely_pays told (and_code at (test_code at left) (λ there. test_code there right))
    (and_pays at (test_code at left) (λ there. test_code there right) (test_pays left at) (λ there. test_pays right there))
test_pays (or_at id told left right) at =
    surely_pays told (or_code at (test_code at left) (λ there. test_code there right))
    (or_pays at (test_code at left) (λ there. test_code there right) (test_pays left at) (λ there. test_pays right there))

-- the legs of two pieces, the second where the first ends
pieces_pay : (at : ℕ) (front : List Op) (back : ℕ → List Op) (first second : List ℕ) → legs_in front ≡ first
    → ((there : ℕ) → legs_in (back there) ≡ second) → legs_in (two_parts at front back) ≡ first ++ second
pieces_pay at front back first second h k =
    legs_both front (back (at + length front)) ∙ (λ i. h i ++ k (at + length front) i)

-- the legs of a choice are those of its branches
choice_of_pays : (other after first count : ℕ) (test yes_part no_part : List Op) → legs_in test ≡ []
    → legs_in (choice_code_of other after first count test yes_part no_part) ≡ legs_in yes_part ++ legs_in no_part
choice_of_pays other after first count test yes_part no_part h =
    legs_after test (op.If other ∷ (yes_part ++ (op.Else after ∷ (no_part ++ (op.EndIf first count ∷ []))))) h
    ∙ legs_both yes_part (op.Else after ∷ (no_part ++ (op.EndIf first count ∷ [])))
    ∙ ap (λ legs. legs_in yes_part ++ legs) (legs_both no_part (op.EndIf first count ∷ []) ∙ append-nil (legs_in no_part))

choice_pays : (at first count : ℕ) (test : List Op) (yes_part no_part : ℕ → List Op) (yes_legs other_legs : List ℕ) → legs_in test ≡ []
    → ((there : ℕ) → legs_in (yes_part there) ≡ yes_legs) → ((there : ℕ) → legs_in (no_part there) ≡ other_legs)
    → legs_in (choice_code at first count test yes_part no_part) ≡ yes_legs ++ other_legs
choice_pays at first count test yes_part no_part yes_legs other_legs h k l =
    let start : ℕ = at + length test + 1 in
    let other : ℕ = start + length (yes_part start) + 1 in
    choice_of_pays other (other + length (no_part other)) first count test (yes_part start) (no_part other) h ∙ (λ i. k start i ++ l other i)

mutual
  step_pays : (step : StepTree) (at from : ℕ) → legs_in (step_code at from step) ≡ paid_by step
  step_pays (assigning slot value) at from = legs_after (number_code value) (op.Assign slot ∷ []) (number_pays value)
  step_pays (paying leg amount) at from = legs_after (number_code amount) (op.Pay leg ∷ []) (number_pays amount)
  step_pays (choosing test yes_part no_part changes) at from =
      let second : ℕ = from + length (steps_table yes_part) in
      choice_pays at (second + length (steps_table no_part)) (length changes) (test_code at test) (λ there. steps_code there from yes_part)
      (λ there. steps_code there second no_part) (paid_in yes_part) (paid_in no_part) (test_pays test at) (λ there. steps_pay yes_part there from)
      (λ there. steps_pay no_part there second)
  step_pays (grouping steps) at from = steps_pay steps at from

  -- the code of steps pays the legs that the steps pay
  pub steps_pay : (steps : StepsTree) (at from : ℕ) → legs_in (steps_code at from steps) ≡ paid_in steps
  steps_pay no_steps at from = refl
  steps_pay (step_then step rest) at from =
      let second : ℕ = from + length (step_table step) in
      pieces_pay at (step_code at from step) (λ there. steps_code there second rest) (paid_by step) (paid_in rest) (step_pays step at from)
      (λ there. steps_pay rest there second)

-- the legs that events pay
abbrev pub events_paid : List EventTree → List ℕ
events_paid [] = []
events_paid (event ∷ rest) = paid_in event.steps ++ events_paid rest

event_pays : (event : EventTree) (at from : ℕ) → legs_in (event_code at from event) ≡ paid_in event.steps
event_pays event at from =
    legs_both (steps_code at from event.steps) (op.EndEvent ∷ [])
    ∙ append-nil (legs_in (steps_code at from event.steps)) ∙ steps_pay event.steps at from

-- the code of events pays the legs that the events pay
pub events_pay : (events : List EventTree) (at from : ℕ) → legs_in (events_code at from events) ≡ events_paid events
events_pay [] at from = refl
events_pay (event ∷ rest) at from =
    let second : ℕ = from + length (steps_table event.steps) in
    pieces_pay at (event_code at from event) (λ there. events_code there second rest) (paid_in event.steps) (events_paid rest) (event_pays event at from)
    (λ there. events_pay rest there second)

-- a payment for each leg
abbrev pub each_one : ℕ → ℕ
each_one leg = 1

one_pay : (first : Op) → pays_of first ≡ total each_one (legs_of first)
one_pay (op.Pay leg) = refl
one_pay first = refl

pub pays_are_legs : (code : List Op) → pays_in code ≡ total each_one (legs_in code)
pays_are_legs [] = refl
pays_are_legs (first ∷ rest) = omega (arith, one_pay first, pays_are_legs rest, total_both each_one (legs_of first) (legs_in rest))

-- how often legs are none of so many
pub outside : ℕ → ℕ → ℕ
outside legs leg = if nat_lt leg legs then 0 else 1

inside_is : (legs leg : ℕ) → nat_lt leg legs ≡ true → outside legs leg ≡ 0
unfolding outside
inside_is legs leg hit = ap (λ b. if b then 0 else 1) hit

outside_is : (legs leg : ℕ) → nat_lt leg legs ≡ false → outside legs leg ≡ 1
unfolding outside
outside_is legs leg miss = ap (λ b. if b then 0 else 1) miss

pub own_total : (legs : ℕ) (paid : List ℕ) → IsTrue (list_all (λ leg. nat_lt leg legs) paid) → total (outside legs) paid ≡ 0
own_total legs [] h = refl
own_total legs (leg ∷ rest) h =
    let parts = and_parts (nat_lt leg legs) (list_all (λ one. nat_lt one legs) rest) h in
    let here = inside_is legs leg parts.0 in
    let more = own_total legs rest parts.1 in
    omega (arith, here, more)

pub total_own : (legs : ℕ) (paid : List ℕ) → total (outside legs) paid ≡ 0 → IsTrue (list_all (λ leg. nat_lt leg legs) paid)
total_own legs [] h = refl
total_own legs (leg ∷ rest) h = elim (cases_Bool (nat_lt leg legs)) [
  | inl hit ↦ and_both (nat_lt leg legs) (list_all (λ one. nat_lt one legs) rest) hit (total_own legs rest (omega (arith, h)))
  | inr miss ↦ let here = outside_is legs leg miss in absurd (omega (arith, here, h))
]
