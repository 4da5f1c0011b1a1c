-- What an operation adds at most to what it works on.
use Rattle.std.proofs.Common.{◌≡◌, ℕ, ◌+◌, ◌-◌, ◌≤◌, ℤ, Bool, true, false, List, [], ◌∷◌, ◌++◌, length, take, drop, map, set, Result, Ok, Err, refl, ap, ◌∙◌, nat_eq}
use Rattle.std.proofs.Common.{arith}
use Rattle.std.proofs.lemmas.List.{length-append, length-map, length-set, take-append-drop}
use Rattle.pay_dates.specs.declared.day.Day.{Day}
use Rattle.pay_meaning.specs.declared.fault.FaultKind.{FaultKind}
use Rattle.pay_meaning.specs.Meaning.{known, calculated}
use Rattle.pay_tree.specs.Views.{operator, comparison}
use Rattle.pay_tree.specs.Owned.{note_of}
use Rattle.pay_fixed.specs.Weights.{whole as full, blended}
use Rattle.pay_runs.specs.Weighing.{certain, compared_weight, joint, either}
use Rattle.pay_runs.specs.Slots.{Slots, slot_value, signed_value, SlotPayment, scaled_slot_payment, first_cell}
use Rattle.pay_code.specs.declared.op.Op.TheVariants as op
use Rattle.pay_code.specs.Execution.{State, Frame, alone, true_branch, false_branch, counted, top_number, top_weight, below_top, put_number, put_weight}
use Rattle.pay_code.specs.Execution.{skip_if, paid_on, values_of, restored, blended_with, scaled_from, enter, turn, close}
use Rattle.pay_code.specs.Execution.{changes_of, changes_from_if, op_ahead}
use Rattle.pay_code.specs.BoundLaws.{AddsAtMost, StepsWithin, StepsAddAtMost}

below_shorter : {A : Type 0} (xs : List A) → length (below_top xs) ≤ length xs
below_shorter [] = omega arith
below_shorter (first ∷ rest) = omega arith

take_shorter : {A : Type 0} (n : ℕ) (xs : List A) → length (take n xs) ≤ length xs
take_shorter n xs = let all = ap length (take-append-drop n xs) in let parts = length-append (take n xs) (drop n xs) in omega arith

paid_length : (dates : List Day) (leg : ℕ) (raw : ℤ) → length (paid_on dates leg raw) ≤ 1
paid_length [] leg raw = omega arith
paid_length (date ∷ later) leg raw = omega arith

restored_length : (changes : List ℕ) (values : List ℤ) (slots : Slots) → length (restored changes values slots) ≡ length slots
restored_length [] values slots = refl
restored_length (first ∷ rest) values slots =
    restored_length rest (below_top values) (set slots first (top_number values)) ∙ length-set slots first (top_number values)

blend_length : (w : ℕ) (changes : List ℕ) (values : List ℤ) (slots : Slots) → length (blended_with w changes values slots) ≡ length slots
blend_length w [] values slots = refl
blend_length w (first ∷ rest) values slots =
    blend_length w rest (below_top values) (set slots first (blended w (top_number values) (slot_value slots first)))
    ∙ length-set slots first (blended w (top_number values) (slot_value slots first))

scaled_length : (w first second : ℕ) (paid : List SlotPayment) → length (scaled_from w first second paid) ≡ length paid
scaled_length w first second paid =
    let early : List SlotPayment = take second paid in
    let late : List SlotPayment = drop second paid in
    let yes_part : List SlotPayment = map (scaled_slot_payment w) (drop first early) in
    let no_part : List SlotPayment = map (scaled_slot_payment (full - w)) late in
    let whole = ap length (take-append-drop second paid) in
    let parts = length-append early late in
    let front = ap length (take-append-drop first early) in
    let front_parts = length-append (take first early) (drop first early) in
    let long = length-append (take first early) (yes_part ++ no_part) in
    let rest_long = length-append yes_part no_part in
    let yes_long = length-map (drop first early) (scaled_slot_payment w) in
    let no_long = length-map late (scaled_slot_payment (full - w)) in
    omega arith

-- a state with other values, stacks, choices and counts, none of them too long
adds : (pays saves : ℕ) (s : State) (slots : Slots) (numbers : List ℤ) (weights : List ℕ) (paid : List SlotPayment) (frames : List Frame) (saved : List ℤ)
    (nodes : ℕ) → length slots ≡ length s.slots → length numbers ≤ length s.numbers + 1 → length weights ≤ length s.weights + 1
    → length paid ≤ length s.paid + pays → length frames ≤ length s.frames + 1 → length saved ≤ length s.saved + saves → nodes ≤ s.nodes + 1
    → AddsAtMost pays saves s (record s {
      slots = slots;
      numbers = numbers;
      weights = weights;
      paid = paid;
      frames = frames;
      saved = saved;
      nodes = nodes;
    })
adds pays saves s slots numbers weights paid frames saved nodes a b c d e f g = record {
  slots = a;
  numbers = b;
  weights = c;
  frames = e;
  payments = omega arith;
  saved = f;
  nodes = g;
}

put_adds : (numbers : List ℤ) (r : Result ℤ FaultKind) (s : State) → length numbers ≤ length s.numbers → StepsWithin 0 0 s (put_number numbers r s)
put_adds numbers (Err fault) s h =
    adds 0 0 s s.slots s.numbers s.weights s.paid s.frames s.saved (s.nodes + 1) refl (omega arith) (omega arith) (omega arith) (omega arith) (omega arith)
    (omega arith)
put_adds numbers (Ok raw) s h =
    adds 0 0 s s.slots (raw ∷ numbers) s.weights s.paid s.frames s.saved (s.nodes + 1) refl (omega arith) (omega arith) (omega arith) (omega arith)
    (omega arith) (omega arith)

weight_adds : (weights : List ℕ) (w : ℕ) (s : State) → length weights ≤ length s.weights → StepsWithin 0 0 s (put_weight weights w s)
weight_adds weights w s h =
    adds 0 0 s s.slots s.numbers (w ∷ weights) s.paid s.frames s.saved (s.nodes + 1) refl (omega arith) (omega arith) (omega arith) (omega arith)
    (omega arith) (omega arith)

skip_adds : (skipped : Bool) (past : ℕ) (s : State) → StepsWithin 0 0 s (skip_if skipped past s)
skip_adds true past s =
    adds 0 0 s s.slots s.numbers s.weights s.paid s.frames s.saved (s.nodes + 1) refl (omega arith) (omega arith) (omega arith) (omega arith) (omega arith)
    (omega arith)
skip_adds false past s =
    adds 0 0 s s.slots s.numbers s.weights s.paid s.frames s.saved s.nodes refl (omega arith) (omega arith) (omega arith) (omega arith) (omega arith)
    (omega arith)

saved_longer : (changes : List ℕ) (s : State) → length (s.saved ++ values_of changes s.slots) ≤ length s.saved + length changes
saved_longer changes s =
    let long = length-append s.saved (values_of changes s.slots) in
    let values = length-map changes (slot_value s.slots) in
    omega arith

enter_adds : (nothing all : Bool) (w past : ℕ) (changes : List ℕ) (s : State)
    → StepsWithin 0 (length changes) s (enter nothing all w past changes (counted (record s { weights = below_top s.weights })))
enter_adds true all w past changes s =
    let lower = below_shorter s.weights in
    adds 0 (length changes) s s.slots s.numbers (below_top s.weights) s.paid (alone ∷ s.frames) s.saved (s.nodes + 1) refl (omega arith) (omega arith)
    (omega arith) (omega arith) (omega arith) (omega arith)
enter_adds false true w past changes s =
    let lower = below_shorter s.weights in
    adds 0 (length changes) s s.slots s.numbers (below_top s.weights) s.paid (alone ∷ s.frames) s.saved (s.nodes + 1) refl (omega arith) (omega arith)
    (omega arith) (omega arith) (omega arith) (omega arith)
enter_adds false false w past changes s =
    let lower = below_shorter s.weights in
    adds 0 (length changes) s s.slots s.numbers (below_top s.weights) s.paid (true_branch w (length s.paid) (length s.saved) ∷ s.frames)
    (s.saved ++ values_of changes s.slots) (s.nodes + 1) refl (omega arith) (omega arith) (omega arith) (omega arith) (saved_longer changes s)
    (omega arith)

stays : (saves : ℕ) (s : State) → AddsAtMost 0 saves s s
stays saves s =
    adds 0 saves s s.slots s.numbers s.weights s.paid s.frames s.saved s.nodes refl (omega arith) (omega arith) (omega arith) (omega arith) (omega arith)
    (omega arith)

turn_adds : (frames : List Frame) (past : ℕ) (changes : List ℕ) (s : State) → s.frames ≡ frames
    → StepsWithin 0 (length changes) s (turn frames past changes s)
turn_adds [] past changes s same = stays (length changes) s
turn_adds (alone ∷ outer) past changes s same = stays (length changes) s
turn_adds (true_branch w before from ∷ outer) past changes s same =
    let long = ap length same in
    adds 0 (length changes) s (restored changes (drop from s.saved) s.slots) s.numbers s.weights s.paid
    (false_branch w before (length s.paid) from ∷ outer) (s.saved ++ values_of changes s.slots) s.nodes
    (restored_length changes (drop from s.saved) s.slots) (omega arith) (omega arith) (omega arith) (omega arith) (saved_longer changes s) (omega arith)
turn_adds (false_branch w before between from ∷ outer) past changes s same = stays (length changes) s

close_adds : (frames : List Frame) (changes : List ℕ) (s : State) → s.frames ≡ frames → StepsWithin 0 0 s (close frames changes s)
close_adds [] changes s same = stays 0 s
close_adds (alone ∷ outer) changes s same =
    let long = ap length same in
    adds 0 0 s s.slots s.numbers s.weights s.paid outer s.saved s.nodes refl (omega arith) (omega arith) (omega arith) (omega arith) (omega arith)
    (omega arith)
close_adds (true_branch w before from ∷ outer) changes s same =
    let long = ap length same in
    adds 0 0 s s.slots s.numbers s.weights s.paid outer s.saved s.nodes refl (omega arith) (omega arith) (omega arith) (omega arith) (omega arith)
    (omega arith)
close_adds (false_branch w before between from ∷ outer) changes s same =
    let long = ap length same in
    let paid = scaled_length w before between s.paid in
    let saved = take_shorter from s.saved in
    adds 0 0 s (blended_with w changes (drop (from + length changes) s.saved) s.slots) s.numbers s.weights (scaled_from w before between s.paid) outer
    (take from s.saved) s.nodes (blend_length w changes (drop (from + length changes) s.saved) s.slots) (omega arith) (omega arith) (omega arith)
    (omega arith) (omega arith) (omega arith)

pub steps_add_at_most : StepsAddAtMost
steps_add_at_most fuzzy table (op.Number raw) at rest s = put_adds s.numbers (Ok raw) s (omega arith)
steps_add_at_most fuzzy table (op.Slot slot) at rest s = put_adds s.numbers (Ok (slot_value s.slots slot)) s (omega arith)
steps_add_at_most fuzzy table op.Spot at rest s = put_adds s.numbers (known (first_cell s.row)) s (omega arith)
steps_add_at_most fuzzy table (op.Unary kind) at rest s =
    put_adds (below_top s.numbers) (Ok (signed_value kind (top_number s.numbers))) s (below_shorter s.numbers)
steps_add_at_most fuzzy table (op.Binary kind) at rest s =
    let lower = below_shorter s.numbers in
    let lowest = below_shorter (below_top s.numbers) in
    put_adds (below_top (below_top s.numbers)) (calculated (operator kind) (top_number (below_top s.numbers)) (top_number s.numbers)) s (omega arith)
steps_add_at_most fuzzy table (op.Truth answer) at rest s = weight_adds s.weights (certain answer) s (omega arith)
steps_add_at_most fuzzy table (op.Compare kind smooth) at rest s =
    let lower = below_shorter s.numbers in
    let lowest = below_shorter (below_top s.numbers) in
    adds 0 0 s s.slots (below_top (below_top s.numbers))
    (compared_weight fuzzy (comparison kind) (note_of smooth) (top_number (below_top s.numbers)) (top_number s.numbers) ∷ s.weights) s.paid s.frames
    s.saved (s.nodes + 1) refl (omega arith) (omega arith) (omega arith) (omega arith) (omega arith) (omega arith)
steps_add_at_most fuzzy table op.Not at rest s = weight_adds (below_top s.weights) (full - top_weight s.weights) s (below_shorter s.weights)
steps_add_at_most fuzzy table (op.AndSkip to) at rest s = skip_adds (nat_eq (top_weight s.weights) 0) (to - (at + 1)) s
steps_add_at_most fuzzy table op.AndJoin at rest s =
    let lower = below_shorter s.weights in
    let lowest = below_shorter (below_top s.weights) in
    weight_adds (below_top (below_top s.weights)) (joint (top_weight (below_top s.weights)) (top_weight s.weights)) s (omega arith)
steps_add_at_most fuzzy table (op.OrSkip to) at rest s = skip_adds (nat_eq (top_weight s.weights) full) (to - (at + 1)) s
steps_add_at_most fuzzy table op.OrJoin at rest s =
    let lower = below_shorter s.weights in
    let lowest = below_shorter (below_top s.weights) in
    weight_adds (below_top (below_top s.weights)) (either (top_weight (below_top s.weights)) (top_weight s.weights)) s (omega arith)
steps_add_at_most fuzzy table (op.Sure answer) at rest s =
    let lower = below_shorter s.weights in
    adds 0 0 s s.slots s.numbers (certain answer ∷ below_top s.weights) s.paid s.frames s.saved s.nodes refl (omega arith) (omega arith) (omega arith)
    (omega arith) (omega arith) (omega arith)
steps_add_at_most fuzzy table (op.Assign slot) at rest s =
    let lower = below_shorter s.numbers in
    adds 0 0 s (set s.slots slot (top_number s.numbers)) (below_top s.numbers) s.weights s.paid s.frames s.saved (s.nodes + 1)
    (length-set s.slots slot (top_number s.numbers)) (omega arith) (omega arith) (omega arith) (omega arith) (omega arith) (omega arith)
steps_add_at_most fuzzy table (op.Pay leg) at rest s =
    let lower = below_shorter s.numbers in
    let more = paid_length s.dates leg (top_number s.numbers) in
    let long = length-append s.paid (paid_on s.dates leg (top_number s.numbers)) in
    adds 1 0 s s.slots (below_top s.numbers) s.weights (s.paid ++ paid_on s.dates leg (top_number s.numbers)) s.frames s.saved (s.nodes + 1) refl
    (omega arith) (omega arith) (omega arith) (omega arith) (omega arith) (omega arith)
steps_add_at_most fuzzy table (op.If to) at rest s =
    enter_adds (nat_eq (top_weight s.weights) 0) (nat_eq (top_weight s.weights) full) (top_weight s.weights) (to - (at + 1))
    (changes_from_if table at rest to) s
steps_add_at_most fuzzy table (op.Else after) at rest s =
    turn_adds s.frames (after - (at + 1)) (changes_of table (op_ahead rest (after - (at + 1)))) s refl
steps_add_at_most fuzzy table (op.EndIf first count) at rest s = close_adds s.frames (take count (drop first table)) s refl
steps_add_at_most fuzzy table op.EndEvent at rest s = record {
  slots = refl;
  numbers = omega arith;
  weights = omega arith;
  frames = omega arith;
  payments = let long = length-append s.kept s.paid in omega arith;
  saved = omega arith;
  nodes = omega arith;
}
