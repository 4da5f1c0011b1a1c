-- The code of a choice does what the choice does.
use Rattle.std.proofs.Common.{◌≡◌, ℕ, ◌+◌, ◌-◌, ◌≤◌, ℤ, Bool, true, false, List, [], ◌∷◌, ◌++◌, length, take, drop, Result, Ok, Err, nat_eq}
use Rattle.std.proofs.Common.{if◌then◌else◌, refl, sym, ap, ◌∙◌, arith}
use Rattle.std.proofs.lemmas.List.{append_assoc, length-append, length-map}
use Rattle.pay_dates.specs.declared.day.Day.{Day}
use Rattle.pay_meaning.specs.declared.fault.FaultKind.{FaultKind}
use Rattle.pay_fixed.specs.Weights.{whole as full}
use Rattle.pay_runs.specs.Weighing.{IsFuzzy}
use Rattle.pay_runs.specs.Counting.{unless_fault, choice_nodes}
use Rattle.pay_runs.specs.Slots.{slot_value, SlotPayment, SlotEffect, blended_slots, blended_slot_effect, slot_split}
use Rattle.pay_code.specs.declared.op.Op.{Op}
use Rattle.pay_code.specs.declared.op.Op.TheVariants as op
use Rattle.pay_code.specs.Flat.{choice_code_of}
use Rattle.pay_code.specs.Execution.{State, Frame, alone, true_branch, false_branch, enter, onward, exec, faulted_on, values_of, restored, blended_with}
use Rattle.pay_code.specs.Execution.{changes_of, changes_from_if, changes_from_else, op_ahead}
use Rattle.pay_code.specs.Filled.{IsEachOnce}
use Rattle.pay_code.proofs.RunLemmas.{ends_with, ends_same, faults_on, with_effect, Tells, Does, jumped, settled_at, before_two, length_two}
use Rattle.pay_code.proofs.PieceLemmas.{ahead, drop_piece, take_piece, scaled_pieces}
use Rattle.pay_code.proofs.WeightLemmas.{IsWithin}
use Rattle.pay_code.proofs.SlotLemmas.{Agree, restored_is, blended_is}
use Rattle.pay_code.proofs.Keeping.{Keeps}

-- a state with other choices begun, values saved, payments made and parts evaluated
abbrev pub branched : State → List Frame → List ℤ → List SlotPayment → ℕ → State
branched s frames saved paid nodes = record s { frames = frames; saved = saved; paid = paid; nodes = nodes }

-- a branch has an effect from the values of a state, whatever choices have begun, values are saved and payments are made
abbrev pub BranchDoes : IsFuzzy → List ℕ → Day → List Op → ℕ → State → Result SlotEffect FaultKind → ℕ → Type 0
BranchDoes fuzzy t date code at s x m =
    (frames : List Frame) (saved : List ℤ) (paid : List SlotPayment) (nodes : ℕ) → Does fuzzy t date code at (branched s frames saved paid nodes) x m

closes_alone : (fuzzy : IsFuzzy) (t : List ℕ) (first count : ℕ) (rest : List Op) (place there : ℕ) (s : State) (k total : ℕ) (f : SlotEffect)
    → there ≡ place + 1
    → exec fuzzy t (op.EndIf first count ∷ rest) place 0 (with_effect (branched s (alone ∷ s.frames) s.saved s.paid k) total f)
    ≡ exec fuzzy t rest there 0 (with_effect s total f)
closes_alone fuzzy t first count rest place there s k total f e =
    settled_at fuzzy t rest (place + 1) there total total (λ n. with_effect s n f) e refl

-- the false branch alone
no_alone : (fuzzy : IsFuzzy) (t : List ℕ) (date : Day) (target first count : ℕ) (yes_part no_part rest : List Op) (start past there : ℕ) (s : State)
    (z : Result SlotEffect FaultKind) (k m total : ℕ)
    → BranchDoes fuzzy t date no_part (start + length yes_part + 1) s z m → past ≡ length yes_part + 1
    → there ≡ start + length yes_part + 1 + length no_part + 1 → total ≡ k + m
    → exec fuzzy t (yes_part ++ (op.Else target ∷ (no_part ++ (op.EndIf first count ∷ rest)))) start past
    (branched s (alone ∷ s.frames) s.saved s.paid k)
    ≡ ends_with z (faults_on date s total) (λ f. exec fuzzy t rest there 0 (with_effect s total f))
no_alone fuzzy t date target first count yes_part no_part rest start past there s z k m total branch long e h =
    ap (λ ops. exec fuzzy t ops start past (branched s (alone ∷ s.frames) s.saved s.paid k))
    (sym (before_two yes_part (op.Else target ∷ []) (no_part ++ (op.EndIf first count ∷ rest))))
    ∙ jumped fuzzy t (yes_part ++ (op.Else target ∷ [])) (no_part ++ (op.EndIf first count ∷ rest)) start past (start + length yes_part + 1)
    (branched s (alone ∷ s.frames) s.saved s.paid k) (omega (arith, length_two yes_part (op.Else target ∷ []))) (omega arith)
    ∙ branch (alone ∷ s.frames) s.saved s.paid k (op.EndIf first count ∷ rest) (start + length yes_part + 1 + length no_part) total refl h
    ∙ ends_same z (faults_on date s total) _ _
    (λ f. closes_alone fuzzy t first count rest (start + length yes_part + 1 + length no_part) there s k total f e)

-- the true branch alone
yes_alone : (fuzzy : IsFuzzy) (t : List ℕ) (date : Day) (target first count : ℕ) (yes_part no_part rest : List Op) (start there : ℕ) (s : State)
    (x : Result SlotEffect FaultKind) (k m total : ℕ)
    → BranchDoes fuzzy t date yes_part start s x m → target ≡ start + length yes_part + 1 + length no_part
    → there ≡ start + length yes_part + 1 + length no_part + 1 → total ≡ k + m
    → exec fuzzy t (yes_part ++ (op.Else target ∷ (no_part ++ (op.EndIf first count ∷ rest)))) start 0
    (branched s (alone ∷ s.frames) s.saved s.paid k)
    ≡ ends_with x (faults_on date s total) (λ f. exec fuzzy t rest there 0 (with_effect s total f))
yes_alone fuzzy t date target first count yes_part no_part rest start there s x k m total branch place e h =
    branch (alone ∷ s.frames) s.saved s.paid k (op.Else target ∷ (no_part ++ (op.EndIf first count ∷ rest))) (start + length yes_part) total refl h
    ∙ ends_same x (faults_on date s total) _ _
    (λ f. jumped fuzzy t no_part (op.EndIf first count ∷ rest) (start + length yes_part + 1) (target - (start + length yes_part + 1)) target
    (with_effect (branched s (alone ∷ s.frames) s.saved s.paid k) total f) (omega arith) (omega arith)
    ∙ closes_alone fuzzy t first count rest target there s k total f (omega arith))

-- the values that are saved: those before both branches, and those after the true one
abbrev saved_twice : State → List ℕ → SlotEffect → List ℤ
saved_twice s changes e = (s.saved ++ values_of changes s.slots) ++ values_of changes e.slots

-- the choice whose false branch runs after the true one
abbrev second_frame : State → ℕ → SlotEffect → Frame
second_frame s w e = false_branch w (length s.paid) (length (s.paid ++ e.payments)) (length s.saved)

-- `EndIf` after both branches
closes_both : (fuzzy : IsFuzzy) (t : List ℕ) (date : Day) (first count : ℕ) (rest : List Op) (place there : ℕ) (s : State) (w k total : ℕ)
    (changes : List ℕ) (e f : SlotEffect) → w ≤ full → IsEachOnce changes → take count (drop first t) ≡ changes → Agree changes e.slots s.slots
    → Agree changes f.slots s.slots → there ≡ place + 1
    → exec fuzzy t (op.EndIf first count ∷ rest) place 0
    (with_effect (branched s (second_frame s w e ∷ s.frames) (saved_twice s changes e) (s.paid ++ e.payments) k) total f)
    ≡ ends_with (blended_slot_effect w (Ok e) (Ok f)) (faults_on date s total) (λ both. exec fuzzy t rest there 0 (with_effect s total both))
closes_both fuzzy t date first count rest place there s w k total changes e f within once named yes_agrees no_agrees h =
    let found : List ℕ = take count (drop first t) in
    let here : place + 1 ≡ there = omega arith in
    let long : length (s.saved ++ values_of changes s.slots) ≡ length s.saved + length changes =
    length-append s.saved (values_of changes s.slots) ∙ ap (λ n. length s.saved + n) (length-map changes (slot_value s.slots)) in
    let values : drop (length s.saved + length changes) (saved_twice s changes e) ≡ values_of changes e.slots =
    drop_piece (s.saved ++ values_of changes s.slots) (values_of changes e.slots) (length s.saved + length changes) (sym long) in
    let slots : blended_with w found (drop (length s.saved + length found) (saved_twice s changes e)) f.slots ≡ blended_slots w e.slots f.slots =
    (λ i. blended_with w (named i) (drop (length s.saved + length (named i)) (saved_twice s changes e)) f.slots)
    ∙ ap (λ xs. blended_with w changes xs f.slots) values
    ∙ blended_is w changes e.slots f.slots s.slots within once yes_agrees no_agrees in
    let saved : take (length s.saved) (saved_twice s changes e) ≡ s.saved =
    ap (take (length s.saved)) (append_assoc s.saved (values_of changes s.slots) (values_of changes e.slots))
    ∙ take_piece s.saved (values_of changes s.slots ++ values_of changes e.slots) (length s.saved) refl in
    let paid = scaled_pieces w (length s.paid) (length (s.paid ++ e.payments)) s.paid e.payments f.payments refl refl in
    λ i. exec fuzzy t rest (here i) 0 (record s { slots = slots i; paid = paid i; saved = saved i; nodes = total })

-- `Else` after the true branch of two: the values are as they were before it
turns : (fuzzy : IsFuzzy) (t : List ℕ) (target : ℕ) (tail : List Op) (place : ℕ) (s : State) (w k total : ℕ) (changes : List ℕ) (e : SlotEffect)
    → changes_of t (op_ahead tail (target - (place + 1))) ≡ changes → Agree changes e.slots s.slots
    → exec fuzzy t (op.Else target ∷ tail) place 0
    (with_effect (branched s (true_branch w (length s.paid) (length s.saved) ∷ s.frames) (s.saved ++ values_of changes s.slots) s.paid k) total e)
    ≡ exec fuzzy t tail (place + 1) 0 (branched s (second_frame s w e ∷ s.frames) (saved_twice s changes e) (s.paid ++ e.payments) total)
turns fuzzy t target tail place s w k total changes e named agrees =
    let before : List ℤ = s.saved ++ values_of changes s.slots in
    let values : drop (length s.saved) before ≡ values_of changes s.slots = drop_piece s.saved (values_of changes s.slots) (length s.saved) refl in
    let slots : restored (changes_of t (op_ahead tail (target - (place + 1)))) (drop (length s.saved) before) e.slots ≡ s.slots =
    (λ i. restored (named i) (values i) e.slots) ∙ restored_is changes e.slots s.slots agrees in
    λ i. exec fuzzy t tail (place + 1) 0 (record s {
      slots = slots i;
      frames = second_frame s w e ∷ s.frames;
      saved = before ++ values_of (named i) e.slots;
      paid = s.paid ++ e.payments;
      nodes = total;
    })

-- the false branch after the true one
no_after : (fuzzy : IsFuzzy) (t : List ℕ) (date : Day) (first count : ℕ) (no_part rest : List Op) (start there : ℕ) (s : State) (w : ℕ)
    (changes : List ℕ) (e : SlotEffect) (z : Result SlotEffect FaultKind) (k m total : ℕ)
    → BranchDoes fuzzy t date no_part start s z m → w ≤ full → IsEachOnce changes → take count (drop first t) ≡ changes
    → Agree changes e.slots s.slots → Keeps changes s.slots z → there ≡ start + length no_part + 1 → total ≡ k + m
    → exec fuzzy t (no_part ++ (op.EndIf first count ∷ rest)) start 0
    (branched s (second_frame s w e ∷ s.frames) (saved_twice s changes e) (s.paid ++ e.payments) k)
    ≡ ends_with (blended_slot_effect w (Ok e) z) (faults_on date s total) (λ both. exec fuzzy t rest there 0 (with_effect s total both))
no_after fuzzy t date first count no_part rest start there s w changes e (Err fault) k m total branch within once named agrees keeps place h =
    branch (second_frame s w e ∷ s.frames) (saved_twice s changes e) (s.paid ++ e.payments) k (op.EndIf first count ∷ rest)
    (start + length no_part) total refl h
no_after fuzzy t date first count no_part rest start there s w changes e (Ok f) k m total branch within once named agrees keeps place h =
    branch (second_frame s w e ∷ s.frames) (saved_twice s changes e) (s.paid ++ e.payments) k (op.EndIf first count ∷ rest)
    (start + length no_part) total refl h
    ∙ closes_both fuzzy t date first count rest (start + length no_part) there s w k total changes e f within once named agrees keeps place

-- both branches
both_run : (fuzzy : IsFuzzy) (t : List ℕ) (date : Day) (target first count : ℕ) (yes_part no_part rest : List Op) (start there : ℕ) (s : State) (w : ℕ)
    (changes : List ℕ) (x z : Result SlotEffect FaultKind) (k m n total : ℕ)
    → BranchDoes fuzzy t date yes_part start s x m → BranchDoes fuzzy t date no_part (start + length yes_part + 1) s z n
    → target ≡ start + length yes_part + 1 + length no_part → w ≤ full → IsEachOnce changes → take count (drop first t) ≡ changes
    → Keeps changes s.slots x → Keeps changes s.slots z
    → there ≡ start + length yes_part + 1 + length no_part + 1 → total ≡ k + (m + unless_fault x n)
    → exec fuzzy t (yes_part ++ (op.Else target ∷ (no_part ++ (op.EndIf first count ∷ rest)))) start 0
    (branched s (true_branch w (length s.paid) (length s.saved) ∷ s.frames) (s.saved ++ values_of changes s.slots) s.paid k)
    ≡ ends_with (blended_slot_effect w x z) (faults_on date s total) (λ both. exec fuzzy t rest there 0 (with_effect s total both))
both_run fuzzy t date target first count yes_part no_part rest start there s w changes (Err fault) z k m n total
    yes_does no_does place within once named yes_keeps no_keeps e h =
    yes_does (true_branch w (length s.paid) (length s.saved) ∷ s.frames) (s.saved ++ values_of changes s.slots) s.paid k
    (op.Else target ∷ (no_part ++ (op.EndIf first count ∷ rest))) (start + length yes_part) total refl (omega arith)
both_run fuzzy t date target first count yes_part no_part rest start there s w changes (Ok effect) z k m n total
    yes_does no_does place within once named yes_keeps no_keeps e h =
    let tail : List Op = no_part ++ (op.EndIf first count ∷ rest) in
    let found : changes_of t (op_ahead tail (target - (start + length yes_part + 1))) ≡ changes =
    ap (changes_of t) (ahead no_part (op.EndIf first count) rest (target - (start + length yes_part + 1)) (omega arith)) ∙ named in
    yes_does (true_branch w (length s.paid) (length s.saved) ∷ s.frames) (s.saved ++ values_of changes s.slots) s.paid k
    (op.Else target ∷ tail) (start + length yes_part) (k + m) refl refl
    ∙ turns fuzzy t target tail (start + length yes_part) s w k (k + m) changes effect found yes_keeps
    ∙ no_after fuzzy t date first count no_part rest (start + length yes_part + 1) there s w changes effect z (k + m) n total
    no_does within once named yes_keeps no_keeps e (omega arith)

-- by what is asked of a weight: whether it is nothing, and whether it is the whole
enters : (fuzzy : IsFuzzy) (t : List ℕ) (date : Day) (nothing all : Bool) (target first count : ℕ) (yes_part no_part rest : List Op)
    (start past there : ℕ) (s : State) (w : ℕ) (changes : List ℕ) (x z : Result SlotEffect FaultKind) (k m n total : ℕ)
    → BranchDoes fuzzy t date yes_part start s x m → BranchDoes fuzzy t date no_part (start + length yes_part + 1) s z n
    → past ≡ length yes_part + 1 → target ≡ start + length yes_part + 1 + length no_part → w ≤ full → IsEachOnce changes
    → take count (drop first t) ≡ changes → Keeps changes s.slots x → Keeps changes s.slots z
    → there ≡ start + length yes_part + 1 + length no_part + 1
    → total ≡ k + (if nothing then n else (if all then m else m + unless_fault x n))
    → onward (enter nothing all w past changes (branched s s.frames s.saved s.paid k))
    (λ jump after. exec fuzzy t (yes_part ++ (op.Else target ∷ (no_part ++ (op.EndIf first count ∷ rest)))) start jump after)
    ≡ ends_with (if nothing then z else (if all then x else blended_slot_effect w x z)) (faults_on date s total)
    (λ f. exec fuzzy t rest there 0 (with_effect s total f))
enters fuzzy t date true all target first count yes_part no_part rest start past there s w changes x z k m n total
    yes_does no_does long place within once named yes_keeps no_keeps e h =
    no_alone fuzzy t date target first count yes_part no_part rest start past there s z k n total no_does long e h
enters fuzzy t date false true target first count yes_part no_part rest start past there s w changes x z k m n total
    yes_does no_does long place within once named yes_keeps no_keeps e h =
    yes_alone fuzzy t date target first count yes_part no_part rest start there s x k m total yes_does place e h
enters fuzzy t date false false target first count yes_part no_part rest start past there s w changes x z k m n total
    yes_does no_does long place within once named yes_keeps no_keeps e h =
    both_run fuzzy t date target first count yes_part no_part rest start there s w changes x z k m n total
    yes_does no_does place within once named yes_keeps no_keeps e h

-- an `If` finds the changes of its choice
pub found_ahead : (t : List ℕ) (place other target first count : ℕ) (yes_part no_part rest : List Op) → other ≡ place + 1 + length yes_part + 1
    → target ≡ other + length no_part
    → changes_from_if t place (yes_part ++ (op.Else target ∷ (no_part ++ (op.EndIf first count ∷ rest)))) other ≡ take count (drop first t)
found_ahead t place other target first count yes_part no_part rest e h =
    let tail : List Op = yes_part ++ (op.Else target ∷ (no_part ++ (op.EndIf first count ∷ rest))) in
    let regrouped : tail ≡ (yes_part ++ (op.Else target ∷ no_part)) ++ (op.EndIf first count ∷ rest) =
    sym (append_assoc yes_part (op.Else target ∷ no_part) (op.EndIf first count ∷ rest)) in
    ap (changes_from_else t place tail)
    (ahead yes_part (op.Else target) (no_part ++ (op.EndIf first count ∷ rest)) (other - (place + 2)) (omega arith))
    ∙ ap (λ ops. changes_of t (op_ahead ops (target - (place + 1)))) regrouped
    ∙ ap (changes_of t) (ahead (yes_part ++ (op.Else target ∷ no_part)) (op.EndIf first count) rest (target - (place + 1))
    (omega (arith, length-append yes_part (op.Else target ∷ no_part))))

-- the pieces of a choice before other code
pub before_choice : (other target first count : ℕ) (test yes_part no_part rest : List Op)
    → choice_code_of other target first count test yes_part no_part ++ rest
    ≡ test ++ (op.If other ∷ (yes_part ++ (op.Else target ∷ (no_part ++ (op.EndIf first count ∷ rest)))))
before_choice other target first count test yes_part no_part rest =
    before_two test (op.If other ∷ (yes_part ++ (op.Else target ∷ (no_part ++ (op.EndIf first count ∷ []))))) rest
    ∙ ap (λ ops. test ++ (op.If other ∷ ops)) (before_two yes_part (op.Else target ∷ (no_part ++ (op.EndIf first count ∷ []))) rest)
    ∙ ap (λ ops. test ++ (op.If other ∷ (yes_part ++ (op.Else target ∷ ops)))) (before_two no_part (op.EndIf first count ∷ []) rest)

pub length_choice : (other target first count : ℕ) (test yes_part no_part : List Op)
    → length (choice_code_of other target first count test yes_part no_part)
    ≡ length test + 1 + length yes_part + 1 + length no_part + 1
length_choice other target first count test yes_part no_part =
    omega (
      arith,
      length_two test (op.If other ∷ (yes_part ++ (op.Else target ∷ (no_part ++ (op.EndIf first count ∷ []))))),
      length_two yes_part (op.Else target ∷ (no_part ++ (op.EndIf first count ∷ []))),
      length_two no_part (op.EndIf first count ∷ []),
    )

-- a choice by its test and its branches
pub choice_does : (fuzzy : IsFuzzy) (t : List ℕ) (date : Day) (later : List Day) (other target first count : ℕ) (test yes_part no_part : List Op)
    (at : ℕ) (s : State) (changes : List ℕ) (r : Result ℕ FaultKind) (x z : Result SlotEffect FaultKind) (j m n : ℕ)
    → s.dates ≡ date ∷ later → Tells fuzzy t test at s r j → BranchDoes fuzzy t date yes_part (at + length test + 1) s x m
    → BranchDoes fuzzy t date no_part (at + length test + 1 + length yes_part + 1) s z n
    → other ≡ at + length test + 1 + length yes_part + 1 → target ≡ at + length test + 1 + length yes_part + 1 + length no_part
    → IsWithin r → IsEachOnce changes → take count (drop first t) ≡ changes → Keeps changes s.slots x → Keeps changes s.slots z
    → Does fuzzy t date (choice_code_of other target first count test yes_part no_part) at s (slot_split r x z) (j + choice_nodes r x m n)
choice_does fuzzy t date later other target first count test yes_part no_part at s changes (Err fault) x z j m n
    day tells yes_does no_does turn_at end_at within once named yes_keeps no_keeps = λ rest there total e h.
    ap (λ ops. exec fuzzy t ops at 0 s) (before_choice other target first count test yes_part no_part rest)
    ∙ tells (op.If other ∷ (yes_part ++ (op.Else target ∷ (no_part ++ (op.EndIf first count ∷ rest))))) (at + length test) total refl (omega arith)
    ∙ (λ i. record { payments = s.kept; end = faulted_on (day i) fault s.slots; nodes = total })
choice_does fuzzy t date later other target first count test yes_part no_part at s changes (Ok w) x z j m n
    day tells yes_does no_does turn_at end_at within once named yes_keeps no_keeps = λ rest there total e h.
    let tail : List Op = yes_part ++ (op.Else target ∷ (no_part ++ (op.EndIf first count ∷ rest))) in
    let found : changes_from_if t (at + length test) tail other ≡ changes =
    found_ahead t (at + length test) other target first count yes_part no_part rest turn_at (omega arith) ∙ named in
    ap (λ ops. exec fuzzy t ops at 0 s) (before_choice other target first count test yes_part no_part rest)
    ∙ tells (op.If other ∷ tail) (at + length test) (s.nodes + j) refl refl
    ∙ (λ i. onward (enter (nat_eq w 0) (nat_eq w full) w (other - (at + length test + 1)) (found i)
    (branched s s.frames s.saved s.paid (s.nodes + j + 1))) (λ jump after. exec fuzzy t tail (at + length test + 1) jump after))
    ∙ enters fuzzy t date (nat_eq w 0) (nat_eq w full) target first count yes_part no_part rest (at + length test + 1)
    (other - (at + length test + 1)) there s w changes x z (s.nodes + j + 1) m n total yes_does no_does (omega arith) end_at within once named
    yes_keeps no_keeps (omega (arith, length_choice other target first count test yes_part no_part)) (omega arith)
