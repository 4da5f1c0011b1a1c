-- The same with the variables by number: what events of owned trees mean over a list of values, one for each variable.
use Rattle.std.specs.Prelude.{ℕ, ◌-◌, ℤ, pos, neg_ℤ, unsigned_abs, Bool, true, nat_lt, ◌&&◌, List, [], ◌∷◌, ◌++◌, map, set, get_or}
use Rattle.std.specs.Prelude.{Option, Some, None, Result, Ok, Err, nat_eq, if◌then◌else◌}
use Rattle.pay_dates.specs.declared.day.Day.{Day}
use Rattle.pay_fixed.specs.Weights.{whole as full, blended, scaled}
use Rattle.pay_meaning.specs.declared.fault.FaultKind.{FaultKind}
use Rattle.pay_meaning.specs.Meaning.{one, both, known, calculated}
use Rattle.pay_tree.specs.declared.tree.Unary.{Unary}
use Rattle.pay_tree.specs.declared.tree.Unary.TheVariants.{Neg, Abs}
use Rattle.pay_tree.specs.Views.{operator, comparison}
use Rattle.pay_tree.specs.Owned.{NumberTree, literal_at, slot_at, spot_at, unary_at, binary_at, TestTree, truth_at, compare_at, not_at, and_at, or_at}
use Rattle.pay_tree.specs.Owned.{StepTree, assigning, paying, choosing, grouping, StepsTree, no_steps, step_then, EventTree, note_of}
use Rattle.pay_runs.specs.Weighing.{IsFuzzy, certain, compared_weight, and_weight, or_weight}

-- the values of the variables, each at its number
abbrev pub Slots : Type 0
Slots = List ℤ

-- the value of a variable; past the end it is 0
abbrev pub slot_value : Slots → ℕ → ℤ
slot_value slots slot = get_or slots slot (pos 0)

-- a raw under an operator
abbrev pub signed_value : Unary → ℤ → ℤ
signed_value Neg raw = neg_ℤ raw
signed_value Abs raw = pos (unsigned_abs raw)

-- the value of a number under this fixing, if there is one
abbrev pub value_by_slots : NumberTree → Slots → Option ℤ → Result ℤ FaultKind
value_by_slots (literal_at id raw) slots fixing = Ok raw
value_by_slots (slot_at id slot) slots fixing = Ok (slot_value slots slot)
value_by_slots (spot_at id) slots fixing = known fixing
value_by_slots (unary_at id op side) slots fixing = one (signed_value op) (value_by_slots side slots fixing)
value_by_slots (binary_at id op left right) slots fixing =
    both (calculated (operator op)) (value_by_slots left slots fixing) (value_by_slots right slots fixing)

-- the weight of a test that is sure of its answer, if it is, and then has its fault alone
abbrev pub surely_weight : Option Bool → Result ℕ FaultKind → Result ℕ FaultKind
surely_weight None weight = weight
surely_weight (Some answer) weight = one (λ w. certain answer) weight

-- the weight of a test
abbrev pub weight_by_slots : IsFuzzy → TestTree → Slots → Option ℤ → Result ℕ FaultKind
weight_by_slots fuzzy (truth_at id told answer) slots fixing = surely_weight told (Ok (certain answer))
weight_by_slots fuzzy (compare_at id told op left right smooth) slots fixing =
    surely_weight told (both (λ a b. Ok (compared_weight fuzzy (comparison op) (note_of smooth) a b))
    (value_by_slots left slots fixing) (value_by_slots right slots fixing))
weight_by_slots fuzzy (not_at id told side) slots fixing = surely_weight told (one (λ w. full - w) (weight_by_slots fuzzy side slots fixing))
weight_by_slots fuzzy (and_at id told left right) slots fixing =
    surely_weight told (and_weight (weight_by_slots fuzzy left slots fixing) (weight_by_slots fuzzy right slots fixing))
weight_by_slots fuzzy (or_at id told left right) slots fixing =
    surely_weight told (or_weight (weight_by_slots fuzzy left slots fixing) (weight_by_slots fuzzy right slots fixing))

-- an amount that the leg of a number is paid at a date
pub record SlotPayment : Type 0 where
  pub date : Day
  pub leg : ℕ
  pub amount : ℤ

-- what steps leave: the values, and the payments in order
pub record SlotEffect : Type 0 where
  pub slots : Slots
  pub payments : List SlotPayment

-- what steps read of their event: its date, and the fixing there
pub record SlotMoment : Type 0 where
  pub date : Day
  pub fixing : Option ℤ

-- a variable gets this value, unless it faulted
abbrev pub slot_assigned : Slots → ℕ → Result ℤ FaultKind → Result SlotEffect FaultKind
slot_assigned slots slot (Err fault) = Err fault
slot_assigned slots slot (Ok raw) = Ok (record { slots = set slots slot raw; payments = [] })

-- a leg is paid this amount, unless it faulted
abbrev pub slot_paid : Slots → Day → ℕ → Result ℤ FaultKind → Result SlotEffect FaultKind
slot_paid slots date leg (Err fault) = Err fault
slot_paid slots date leg (Ok raw) = Ok (record { slots = slots; payments = record { date = date; leg = leg; amount = raw } ∷ [] })

-- payments made before those of an effect
abbrev pub after_slot_payments : List SlotPayment → Result SlotEffect FaultKind → Result SlotEffect FaultKind
after_slot_payments before (Err fault) = Err fault
after_slot_payments before (Ok effect) = Ok (record { slots = effect.slots; payments = before ++ effect.payments })

-- an effect, and then what follows from its values
abbrev pub slots_onward : Result SlotEffect FaultKind → (Slots → Result SlotEffect FaultKind) → Result SlotEffect FaultKind
slots_onward (Err fault) rest = Err fault
slots_onward (Ok effect) rest = after_slot_payments effect.payments (rest effect.slots)

-- the values of two branches, each the blend of its two
abbrev pub blended_slots : ℕ → Slots → Slots → Slots
blended_slots w [] others = []
blended_slots w (a ∷ rest) [] = []
blended_slots w (a ∷ rest) (b ∷ others) = blended w a b ∷ blended_slots w rest others

-- a payment of a branch of this weight
abbrev pub scaled_slot_payment : ℕ → SlotPayment → SlotPayment
scaled_slot_payment w payment = record { date = payment.date; leg = payment.leg; amount = scaled w payment.amount }

-- both branches, from the same values; a fault of the true branch comes first
abbrev pub blended_slot_effect : ℕ → Result SlotEffect FaultKind → Result SlotEffect FaultKind → Result SlotEffect FaultKind
blended_slot_effect w (Err fault) no_part = Err fault
blended_slot_effect w (Ok yes_part) (Err fault) = Err fault
blended_slot_effect w (Ok yes_part) (Ok no_part) = Ok (record {
  slots = blended_slots w yes_part.slots no_part.slots;
  payments = map (scaled_slot_payment w) yes_part.payments ++ map (scaled_slot_payment (full - w)) no_part.payments;
})

-- the branch that a weight chooses, or both
abbrev pub slot_split : Result ℕ FaultKind → Result SlotEffect FaultKind → Result SlotEffect FaultKind → Result SlotEffect FaultKind
slot_split (Err fault) yes_part no_part = Err fault
slot_split (Ok w) yes_part no_part =
    if nat_eq w 0 then no_part else (if nat_eq w full then yes_part else blended_slot_effect w yes_part no_part)

abbrev mutual
  -- the effect of a step
  pub step_by_slots : IsFuzzy → StepTree → Slots → SlotMoment → Result SlotEffect FaultKind
  step_by_slots fuzzy (assigning slot value) slots at = slot_assigned slots slot (value_by_slots value slots at.fixing)
  step_by_slots fuzzy (paying leg amount) slots at = slot_paid slots at.date leg (value_by_slots amount slots at.fixing)
  step_by_slots fuzzy (choosing test yes_part no_part changes) slots at =
      slot_split (weight_by_slots fuzzy test slots at.fixing) (steps_by_slots fuzzy yes_part slots at) (steps_by_slots fuzzy no_part slots at)
  step_by_slots fuzzy (grouping steps) slots at = steps_by_slots fuzzy steps slots at

  -- the effect of steps in order
  pub steps_by_slots : IsFuzzy → StepsTree → Slots → SlotMoment → Result SlotEffect FaultKind
  steps_by_slots fuzzy no_steps slots at = Ok (record { slots = slots; payments = [] })
  steps_by_slots fuzzy (step_then step rest) slots at =
      slots_onward (step_by_slots fuzzy step slots at) (λ after. steps_by_slots fuzzy rest after at)

-- how a scenario ends: all events ran, and these are the last values; or the event of this date faulted
pub data SlotEnd : Type 0 where
  slots_finished : Slots → SlotEnd
  slots_faulted : Day → FaultKind → SlotEnd

-- the payments of a scenario in order, and how it ends
pub record SlotMeaning : Type 0 where
  pub payments : List SlotPayment
  pub end : SlotEnd

-- a row has one cell for each event: the fixing at its date, if there is one
abbrev pub Row : Type 0
Row = List (Option ℤ)

-- the first cell of a row
abbrev pub first_cell : Row → Option ℤ
first_cell [] = None
first_cell (cell ∷ rest) = cell

-- the cells after the first
abbrev pub further_cells : Row → Row
further_cells [] = []
further_cells (cell ∷ rest) = rest

-- what the steps of an event read
abbrev pub slot_moment : EventTree → Row → SlotMoment
slot_moment event row = record { date = event.date; fixing = first_cell row }

-- payments made before those of a meaning
abbrev pub after_earlier_slots : List SlotPayment → SlotMeaning → SlotMeaning
after_earlier_slots before m = record { payments = before ++ m.payments; end = m.end }

-- an event that faults pays nothing and ends the scenario; otherwise the rest follows from its values
abbrev pub slot_event_then : Day → Result SlotEffect FaultKind → (Slots → SlotMeaning) → SlotMeaning
slot_event_then date (Err fault) rest = record { payments = []; end = slots_faulted date fault }
slot_event_then date (Ok effect) rest = after_earlier_slots effect.payments (rest effect.slots)

-- the meaning of events in their order, from these values, over this row
abbrev pub meaning_by_slots : IsFuzzy → List EventTree → Slots → Row → SlotMeaning
meaning_by_slots fuzzy [] slots row = record { payments = []; end = slots_finished slots }
meaning_by_slots fuzzy (event ∷ rest) slots row =
    slot_event_then event.date (steps_by_slots fuzzy event.steps slots (slot_moment event row))
    (λ after. meaning_by_slots fuzzy rest after (further_cells row))

-- the variables of a number are among so many
abbrev pub number_within : ℕ → NumberTree → Bool
number_within count (literal_at id raw) = true
number_within count (slot_at id slot) = nat_lt slot count
number_within count (spot_at id) = true
number_within count (unary_at id op side) = number_within count side
number_within count (binary_at id op left right) = number_within count left && number_within count right

-- the same of a test
abbrev pub test_within : ℕ → TestTree → Bool
test_within count (truth_at id told answer) = true
test_within count (compare_at id told op left right smooth) = number_within count left && number_within count right
test_within count (not_at id told side) = test_within count side
test_within count (and_at id told left right) = test_within count left && test_within count right
test_within count (or_at id told left right) = test_within count left && test_within count right

abbrev mutual
  -- the same of a step, with the variable that it assigns
  pub step_within : ℕ → StepTree → Bool
  step_within count (assigning slot value) = nat_lt slot count && number_within count value
  step_within count (paying leg amount) = number_within count amount
  step_within count (choosing test yes_part no_part changes) = test_within count test && (steps_within count yes_part && steps_within count no_part)
  step_within count (grouping steps) = steps_within count steps

  pub steps_within : ℕ → StepsTree → Bool
  steps_within count no_steps = true
  steps_within count (step_then step rest) = step_within count step && steps_within count rest
