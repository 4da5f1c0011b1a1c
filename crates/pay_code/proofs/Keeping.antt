-- Steps leave the variables that they don't assign as they were.
use Rattle.std.proofs.Common.{◌≡◌, ℕ, ◌≤◌, ℤ, pos, Bool, true, false, List, [], ◌∷◌, ◌++◌, length, Result, Ok, Err, nat_eq, if◌then◌else◌}
use Rattle.std.proofs.Common.{refl, sym, ◌∙◌}
use Rattle.std.proofs.lemmas.Bool.{or_parts, eqb-false}
use Rattle.std.proofs.lemmas.List.{length-set, get_or-set_other}
use Rattle.pay_dates.specs.declared.day.Day.{Day}
use Rattle.pay_meaning.specs.declared.fault.FaultKind.{FaultKind}
use Rattle.pay_tree.specs.Owned.{StepTree, assigning, paying, choosing, grouping, StepsTree, no_steps, step_then}
use Rattle.pay_fixed.specs.Weights.{whole as full, blended}
use Rattle.pay_runs.specs.Weighing.{IsFuzzy}
use Rattle.pay_runs.specs.Slots.{Slots, slot_value, SlotEffect, SlotMoment, slot_assigned, slot_paid, after_slot_payments, slots_onward, blended_slots}
use Rattle.pay_runs.specs.Slots.{SlotPayment, blended_slot_effect, slot_split, value_by_slots, weight_by_slots, step_by_slots, steps_by_slots}
use Rattle.pay_tree.specs.Assigned.{assigned_by, assigned_in}
use Rattle.pay_code.specs.Filled.{is_among}
use Rattle.pay_code.proofs.BlendLemmas.{blended_equal}
use Rattle.pay_code.proofs.WeightLemmas.{IsWithin, weight_within}
use Rattle.pay_code.proofs.SlotLemmas.{Agree, blended_length, blended_value}

-- the values of an effect, if there is one, differ at most at these variables
abbrev pub Keeps : List ℕ → Slots → Result SlotEffect FaultKind → Type 0
Keeps changes slots (Err fault) = Unit {0}
Keeps changes slots (Ok effect) = Agree changes effect.slots slots

-- more variables
pub wider : (few many : List ℕ) (a b : Slots) → ((slot : ℕ) → is_among slot many ≡ false → is_among slot few ≡ false) → Agree few a b → Agree many a b
wider few many a b h k = record { as_many = k.as_many; elsewhere = λ slot miss. k.elsewhere slot (h slot miss) }

pub among_both : (slot : ℕ) (a b : List ℕ) → is_among slot (a ++ b) ≡ false → (is_among slot a ≡ false) × (is_among slot b ≡ false)
among_both slot [] b h = (refl, h)
among_both slot (first ∷ rest) b h =
    let parts = or_parts (nat_eq slot first) (is_among slot (rest ++ b)) h in
    let both = among_both slot rest b parts.1 in
    (rw parts.0 both.0, both.1)

assigned_keeps : (slots : Slots) (slot : ℕ) (x : Result ℤ FaultKind) → Keeps (slot ∷ []) slots (slot_assigned slots slot x)
assigned_keeps slots slot (Err fault) = tt
assigned_keeps slots slot (Ok raw) = record {
  as_many = length-set slots slot raw;
  elsewhere = λ other miss.
      get_or-set_other slots slot other raw (pos 0) (eqb-false other slot (or_parts (nat_eq other slot) false miss).0);
}

paid_keeps : (slots : Slots) (date : Day) (leg : ℕ) (x : Result ℤ FaultKind) → Keeps [] slots (slot_paid slots date leg x)
paid_keeps slots date leg (Err fault) = tt
paid_keeps slots date leg (Ok raw) = record { as_many = refl; elsewhere = λ other miss. refl }

after_keeps : (changes : List ℕ) (slots : Slots) (payments : List SlotPayment) (x : Result SlotEffect FaultKind)
    → Keeps changes slots x → Keeps changes slots (after_slot_payments payments x)
after_keeps changes slots payments (Err fault) h = tt
after_keeps changes slots payments (Ok effect) h = h

joined : (few many : List ℕ) (a b c : Slots) → Agree few b c → Agree many a b → Agree (few ++ many) a c
joined few many a b c h k = record {
  as_many = k.as_many ∙ h.as_many;
  elsewhere = λ slot miss.
      let both = among_both slot few many miss in
      k.elsewhere slot both.1 ∙ h.elsewhere slot both.0;
}

joined_keeps : (few many : List ℕ) (slots before : Slots) (x : Result SlotEffect FaultKind) → Agree few before slots → Keeps many before x
    → Keeps (few ++ many) slots x
joined_keeps few many slots before (Err fault) h k = tt
joined_keeps few many slots before (Ok effect) h k = joined few many effect.slots before slots h k

onward_keeps : (few many : List ℕ) (slots : Slots) (x : Result SlotEffect FaultKind) (rest : Slots → Result SlotEffect FaultKind)
    → Keeps few slots x → ((after : Slots) → Keeps many after (rest after)) → Keeps (few ++ many) slots (slots_onward x rest)
onward_keeps few many slots (Err fault) rest h k = tt
onward_keeps few many slots (Ok effect) rest h k =
    after_keeps (few ++ many) slots effect.payments (rest effect.slots)
    (joined_keeps few many slots effect.slots (rest effect.slots) h (k effect.slots))

blended_agrees : (w : ℕ) (changes : List ℕ) (a b slots : Slots) → w ≤ full → Agree changes a slots → Agree changes b slots
    → Agree changes (blended_slots w a b) slots
blended_agrees w changes a b slots h first second =
    let as_many : length a ≡ length b = first.as_many ∙ sym second.as_many in
    record {
      as_many = blended_length w a b as_many ∙ second.as_many;
      elsewhere = λ slot miss.
          blended_value w a b as_many slot
          ∙ (λ i. blended w (first.elsewhere slot miss i) (second.elsewhere slot miss i))
          ∙ blended_equal w (slot_value slots slot) h;
    }

blended_keeps : (w : ℕ) (changes : List ℕ) (slots : Slots) (e f : Result SlotEffect FaultKind) → w ≤ full → Keeps changes slots e
    → Keeps changes slots f → Keeps changes slots (blended_slot_effect w e f)
blended_keeps w changes slots (Err fault) f h first second = tt
blended_keeps w changes slots (Ok left) (Err fault) h first second = tt
blended_keeps w changes slots (Ok left) (Ok right) h first second = blended_agrees w changes left.slots right.slots slots h first second

branch_keeps : (nothing all : Bool) (w : ℕ) (changes : List ℕ) (slots : Slots) (e f : Result SlotEffect FaultKind) → w ≤ full
    → Keeps changes slots e → Keeps changes slots f
    → Keeps changes slots (if nothing then f else (if all then e else blended_slot_effect w e f))
branch_keeps true all w changes slots e f h first second = second
branch_keeps false true w changes slots e f h first second = first
branch_keeps false false w changes slots e f h first second = blended_keeps w changes slots e f h first second

split_keeps : (changes : List ℕ) (slots : Slots) (x : Result ℕ FaultKind) (e f : Result SlotEffect FaultKind) → IsWithin x → Keeps changes slots e
    → Keeps changes slots f → Keeps changes slots (slot_split x e f)
split_keeps changes slots (Err fault) e f h first second = tt
split_keeps changes slots (Ok w) e f h first second = branch_keeps (nat_eq w 0) (nat_eq w full) w changes slots e f h first second

wider_keeps : (few many : List ℕ) (slots : Slots) (x : Result SlotEffect FaultKind)
    → ((slot : ℕ) → is_among slot many ≡ false → is_among slot few ≡ false) → Keeps few slots x → Keeps many slots x
wider_keeps few many slots (Err fault) h k = tt
wider_keeps few many slots (Ok effect) h k = wider few many effect.slots slots h k

mutual
  step_keeps : (fuzzy : IsFuzzy) (step : StepTree) (slots : Slots) (at : SlotMoment)
      → Keeps (assigned_by step) slots (step_by_slots fuzzy step slots at)
  step_keeps fuzzy (assigning slot value) slots at = assigned_keeps slots slot (value_by_slots value slots at.fixing)
  step_keeps fuzzy (paying leg amount) slots at = paid_keeps slots at.date leg (value_by_slots amount slots at.fixing)
  step_keeps fuzzy (choosing test yes_part no_part changes) slots at =
      let many : List ℕ = assigned_in yes_part ++ assigned_in no_part in
      split_keeps many slots (weight_by_slots fuzzy test slots at.fixing) _ _ (weight_within fuzzy test slots at.fixing)
      (wider_keeps (assigned_in yes_part) many slots _ (λ slot miss. (among_both slot (assigned_in yes_part) (assigned_in no_part) miss).0)
      (steps_keep fuzzy yes_part slots at))
      (wider_keeps (assigned_in no_part) many slots _ (λ slot miss. (among_both slot (assigned_in yes_part) (assigned_in no_part) miss).1)
      (steps_keep fuzzy no_part slots at))
  step_keeps fuzzy (grouping steps) slots at = steps_keep fuzzy steps slots at

  -- steps leave the variables that they don't assign as they were
  pub steps_keep : (fuzzy : IsFuzzy) (steps : StepsTree) (slots : Slots) (at : SlotMoment)
      → Keeps (assigned_in steps) slots (steps_by_slots fuzzy steps slots at)
  steps_keep fuzzy no_steps slots at = record { as_many = refl; elsewhere = λ slot miss. refl }
  steps_keep fuzzy (step_then step rest) slots at =
      onward_keeps (assigned_by step) (assigned_in rest) slots (step_by_slots fuzzy step slots at) (λ after. steps_by_slots fuzzy rest after at)
      (step_keeps fuzzy step slots at) (λ after. steps_keep fuzzy rest after at)

-- the values after either branch of a choice differ at most at its changes
pub branch_agrees : (fuzzy : IsFuzzy) (changes : List ℕ) (steps : StepsTree) (slots : Slots) (at : SlotMoment)
    → ((slot : ℕ) → is_among slot changes ≡ false → is_among slot (assigned_in steps) ≡ false)
    → Keeps changes slots (steps_by_slots fuzzy steps slots at)
branch_agrees fuzzy changes steps slots at h =
    wider_keeps (assigned_in steps) changes slots (steps_by_slots fuzzy steps slots at) h (steps_keep fuzzy steps slots at)
