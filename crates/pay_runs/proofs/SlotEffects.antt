-- The effects of steps and the meaning of events, by number and by name.
use Rattle.std.proofs.Common.{◌≡◌, ℕ, ◌-◌, ◌<◌, ℤ, Bool, true, false, List, [], ◌∷◌, ◌++◌, map, length, IsTrue, Result, Ok, Err, if◌then◌else◌}
use Rattle.std.proofs.Common.{nat_eq, refl, ap, ◌∙◌}
use Rattle.std.proofs.Common.{subst}
use Rattle.std.proofs.lemmas.Bool.{and_parts, ltb-true}
use Rattle.std.proofs.lemmas.List.{map-append}
use Rattle.pay_dates.specs.declared.day.Day.{Day}
use Rattle.pay_fixed.specs.Weights.{whole as full}
use Rattle.pay_meaning.specs.declared.fault.FaultKind.{FaultKind}
use Rattle.pay_meaning.specs.Meaning.{Variables, Moment, Payment, Effect, assigned, paid, after_payments, followed_by}
use Rattle.pay_tree.specs.Owned.{StepTree, assigning, paying, choosing, grouping, StepsTree, no_steps, step_then}
use Rattle.pay_tree.specs.Owned.{spelled_step, spelled_steps, name_at}
use Rattle.pay_runs.specs.Weighing.{IsFuzzy, scaled_payment, blended_effect, split, weighed_statement, weighed}
use Rattle.pay_runs.specs.Slots.{Slots, SlotPayment, SlotEffect, SlotMoment, slot_assigned, slot_paid, after_slot_payments, slots_onward}
use Rattle.pay_runs.specs.Slots.{scaled_slot_payment, blended_slot_effect, slot_split, step_by_slots, steps_by_slots, value_by_slots, weight_by_slots}
use Rattle.pay_runs.specs.Slots.{number_within, test_within, step_within, steps_within}
use Rattle.pay_runs.specs.RunLaws.{AreApart, StandFor, named_payment}
use Rattle.pay_runs.proofs.StandLemmas.{stand_assigned, stand_blended}
use Rattle.pay_runs.proofs.SlotValues.{value_same, weight_same}

-- the same fault, or the same payments and values that stand for the variables
abbrev pub DoSame : List (List ℕ) → List (List ℕ) → Result SlotEffect FaultKind → Result Effect FaultKind → Type 0
DoSame names legs (Err fault) (Err kind) = fault ≡ kind
DoSame names legs (Ok e) (Ok f) = (map (named_payment legs) e.payments ≡ f.payments) × StandFor names e.slots f.variables
DoSame names legs (Err fault) (Ok f) = ⊥
DoSame names legs (Ok e) (Err kind) = ⊥

assigned_same : (names legs : List (List ℕ)) (slots : Slots) (variables : Variables) (slot : ℕ) (x : Result ℤ FaultKind) → AreApart names
    → slot < length names → StandFor names slots variables → DoSame names legs (slot_assigned slots slot x) (assigned variables (name_at names slot) x)
assigned_same names legs slots variables slot (Err fault) apart within stand = refl
assigned_same names legs slots variables slot (Ok raw) apart within stand = (refl, stand_assigned names slots variables slot raw apart within stand)

paid_same : (names legs : List (List ℕ)) (slots : Slots) (variables : Variables) (date : Day) (leg : ℕ) (x : Result ℤ FaultKind)
    → StandFor names slots variables → DoSame names legs (slot_paid slots date leg x) (paid variables date (name_at legs leg) x)
paid_same names legs slots variables date leg (Err fault) stand = refl
paid_same names legs slots variables date leg (Ok raw) stand = (refl, stand)

-- payments one after another
pub joined_same : (legs : List (List ℕ)) (p q : List SlotPayment) (r s : List Payment) → map (named_payment legs) p ≡ r
    → map (named_payment legs) q ≡ s → map (named_payment legs) (p ++ q) ≡ r ++ s
joined_same legs p q r s first second = map-append (named_payment legs) p q ∙ (λ i. first i ++ second i)

scaled_same : (legs : List (List ℕ)) (w : ℕ) (p : List SlotPayment)
    → map (named_payment legs) (map (scaled_slot_payment w) p) ≡ map (scaled_payment w) (map (named_payment legs) p)
scaled_same legs w [] = refl
scaled_same legs w (payment ∷ rest) =
    ap (λ xs. scaled_payment w (named_payment legs payment) ∷ xs) (scaled_same legs w rest)

after_same : (names legs : List (List ℕ)) (p : List SlotPayment) (q : List Payment) (e : Result SlotEffect FaultKind) (f : Result Effect FaultKind)
    → map (named_payment legs) p ≡ q → DoSame names legs e f → DoSame names legs (after_slot_payments p e) (after_payments q f)
after_same names legs p q (Err fault) (Err kind) same h = h
after_same names legs p q (Err fault) (Ok right) same h = h
after_same names legs p q (Ok left) (Err kind) same h = h
after_same names legs p q (Ok left) (Ok right) same h = (joined_same legs p left.payments q right.payments same h.0, h.1)

onward_same : (names legs : List (List ℕ)) (e : Result SlotEffect FaultKind) (f : Result Effect FaultKind)
    (g : Slots → Result SlotEffect FaultKind) (h : Variables → Result Effect FaultKind) → DoSame names legs e f
    → ((slots : Slots) (variables : Variables) → StandFor names slots variables → DoSame names legs (g slots) (h variables))
    → DoSame names legs (slots_onward e g) (followed_by f h)
onward_same names legs (Err fault) (Err kind) g h first rest = first
onward_same names legs (Err fault) (Ok right) g h first rest = absurd first
onward_same names legs (Ok left) (Err kind) g h first rest = absurd first
onward_same names legs (Ok left) (Ok right) g h first rest =
    after_same names legs left.payments right.payments (g left.slots) (h right.variables) first.0 (rest left.slots right.variables first.1)

blended_same : (names legs : List (List ℕ)) (w : ℕ) (e f : Result SlotEffect FaultKind) (g h : Result Effect FaultKind) → DoSame names legs e g
    → DoSame names legs f h → DoSame names legs (blended_slot_effect w e f) (blended_effect w g h)
blended_same names legs w (Err fault) f (Err kind) h first second = first
blended_same names legs w (Err fault) f (Ok other) h first second = absurd first
blended_same names legs w (Ok left) f (Err kind) h first second = absurd first
blended_same names legs w (Ok left) (Err fault) (Ok other) (Err kind) first second = second
blended_same names legs w (Ok left) (Err fault) (Ok other) (Ok last) first second = second
blended_same names legs w (Ok left) (Ok right) (Ok other) (Err kind) first second = absurd second
blended_same names legs w (Ok left) (Ok right) (Ok other) (Ok last) first second = (
  joined_same legs _ _ _ _ (scaled_same legs w left.payments ∙ ap (map (scaled_payment w)) first.0)
      (scaled_same legs (full - w) right.payments ∙ ap (map (scaled_payment (full - w))) second.0),
  stand_blended names w left.slots right.slots other.variables last.variables first.1 second.1,
)

-- by what is asked of a weight: whether it is nothing, and whether it is the whole
branch_same : (names legs : List (List ℕ)) (nothing all : Bool) (w : ℕ) (e f : Result SlotEffect FaultKind) (g h : Result Effect FaultKind)
    → DoSame names legs e g → DoSame names legs f h
    → DoSame names legs (if nothing then f else (if all then e else blended_slot_effect w e f))
    (if nothing then h else (if all then g else blended_effect w g h))
branch_same names legs true all w e f g h first second = second
branch_same names legs false true w e f g h first second = first
branch_same names legs false false w e f g h first second = blended_same names legs w e f g h first second

split_same : (names legs : List (List ℕ)) (x : Result ℕ FaultKind) (e f : Result SlotEffect FaultKind) (g h : Result Effect FaultKind)
    → DoSame names legs e g → DoSame names legs f h → DoSame names legs (slot_split x e f) (split x g h)
split_same names legs (Err fault) e f g h first second = refl
split_same names legs (Ok w) e f g h first second = branch_same names legs (nat_eq w 0) (nat_eq w full) w e f g h first second

-- what the steps of an event read, by number
abbrev pub numbered : Moment → SlotMoment
numbered at = record { date = at.date; fixing = at.fixing }

mutual
  pub step_same : (fuzzy : IsFuzzy) (names legs : List (List ℕ)) (at : Moment) → AreApart names → (step : StepTree)
      → IsTrue (step_within (length names) step) → (slots : Slots) (variables : Variables) → StandFor names slots variables
      → DoSame names legs (step_by_slots fuzzy step slots (numbered at)) (weighed_statement fuzzy (spelled_step names legs step) variables at)
  step_same fuzzy names legs at apart (assigning slot number) within slots variables stand =
      let parts = and_parts _ (number_within (length names) number) within in
      subst (λ x. DoSame names legs (slot_assigned slots slot (value_by_slots number slots at.fixing)) (assigned variables (name_at names slot) x))
      (value_same names slots variables at stand number parts.1)
      (assigned_same names legs slots variables slot (value_by_slots number slots at.fixing) apart (ltb-true slot (length names) parts.0) stand)
  step_same fuzzy names legs at apart (paying leg amount) within slots variables stand =
      subst (λ x. DoSame names legs (slot_paid slots at.date leg (value_by_slots amount slots at.fixing)) (paid variables at.date (name_at legs leg) x))
      (value_same names slots variables at stand amount within)
      (paid_same names legs slots variables at.date leg (value_by_slots amount slots at.fixing) stand)
  step_same fuzzy names legs at apart (choosing test yes_part no_part changes) within slots variables stand =
      let parts = and_parts (test_within (length names) test) _ within in
      let branches = and_parts (steps_within (length names) yes_part) (steps_within (length names) no_part) parts.1 in
      subst (λ x. DoSame names legs (step_by_slots fuzzy (choosing test yes_part no_part changes) slots (numbered at))
      (split x (weighed fuzzy (spelled_steps names legs yes_part) variables at) (weighed fuzzy (spelled_steps names legs no_part) variables at)))
      (weight_same fuzzy names slots variables at stand test parts.0)
      (split_same names legs (weight_by_slots fuzzy test slots at.fixing) _ _ _ _
      (steps_same fuzzy names legs at apart yes_part branches.0 slots variables stand)
      (steps_same fuzzy names legs at apart no_part branches.1 slots variables stand))
  step_same fuzzy names legs at apart (grouping steps) within slots variables stand =
      steps_same fuzzy names legs at apart steps within slots variables stand

  -- steps do by number what they do by name
  pub steps_same : (fuzzy : IsFuzzy) (names legs : List (List ℕ)) (at : Moment) → AreApart names → (steps : StepsTree)
      → IsTrue (steps_within (length names) steps) → (slots : Slots) (variables : Variables) → StandFor names slots variables
      → DoSame names legs (steps_by_slots fuzzy steps slots (numbered at)) (weighed fuzzy (spelled_steps names legs steps) variables at)
  steps_same fuzzy names legs at apart no_steps within slots variables stand = (refl, stand)
  steps_same fuzzy names legs at apart (step_then step rest) within slots variables stand =
      let parts = and_parts (step_within (length names) step) (steps_within (length names) rest) within in
      onward_same names legs (step_by_slots fuzzy step slots (numbered at)) (weighed_statement fuzzy (spelled_step names legs step) variables at)
      (λ after. steps_by_slots fuzzy rest after (numbered at)) (λ after. weighed fuzzy (spelled_steps names legs rest) after at)
      (step_same fuzzy names legs at apart step parts.0 slots variables stand)
      (steps_same fuzzy names legs at apart rest parts.1)
