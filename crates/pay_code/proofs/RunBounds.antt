-- What a run of any code makes at most.
use Rattle.std.proofs.Common.{◌≡◌, ℕ, zero, suc, ◌+◌, ◌-◌, ◌≤◌, ℤ, Bool, true, false, List, [], ◌∷◌, ◌++◌, length, take, drop, map, Result, Ok, Err, refl, nat_eq}
use Rattle.std.proofs.Common.{arith, inl, inr}
use Rattle.std.proofs.lemmas.Bool.{eq-eqb, cases_Bool}
use Rattle.std.proofs.lemmas.List.{length-append}
use Rattle.pay_dates.specs.declared.day.Day.{Day}
use Rattle.pay_meaning.specs.declared.fault.FaultKind.{FaultKind}
use Rattle.pay_meaning.specs.Meaning.{known, calculated}
use Rattle.pay_tree.specs.Views.{operator}
use Rattle.pay_fixed.specs.Weights.{whole as full}
use Rattle.pay_runs.specs.Weighing.{IsFuzzy}
use Rattle.pay_runs.specs.Slots.{SlotPayment, scaled_slot_payment, first_cell}
use Rattle.pay_code.specs.declared.op.Op.{Op}
use Rattle.pay_code.specs.declared.op.Op.TheVariants as op
use Rattle.pay_code.specs.Execution.{State, Outcome, Stepped, goes, stops, Frame, alone, true_branch, false_branch, top_number, top_weight, below_top}
use Rattle.pay_code.specs.Execution.{counted, put_number, skip_if, paid_on, scaled_from, enter, turn, close, step, onward, exec, starting}
use Rattle.pay_code.specs.Execution.{changes_of, changes_from_if, op_ahead}
use Rattle.pay_code.specs.Filled.{is_among}
use Rattle.pay_code.specs.Bounds.{legs_of, legs_in, pays_of, pays_in, saved_of, AreOnLegs}
use Rattle.pay_code.specs.BoundLaws.{StepsWithin, RunsAreBounded}
use Rattle.pay_code.proofs.AddLaw.{steps_add_at_most}

-- payments

onward_pays : (pays saves more : ℕ) (s : State) (x : Stepped) (f : ℕ → State → Outcome) → StepsWithin pays saves s x
    → ((past : ℕ) (after : State) → length (f past after).payments ≤ length after.kept + length after.paid + more)
    → length (onward x f).payments ≤ length s.kept + length s.paid + (pays + more)
onward_pays pays saves more s (goes past after) f h k = let rest = k past after in let here = h.payments in omega arith
onward_pays pays saves more s (stops fault after) f h k = let here = h.payments in omega arith

exec_pays : (fuzzy : IsFuzzy) (t : List ℕ) (ops : List Op) (at past : ℕ) (s : State)
    → length (exec fuzzy t ops at past s).payments ≤ length s.kept + length s.paid + pays_in ops
exec_pays fuzzy t [] at past s = let long = length-append s.kept s.paid in omega arith
exec_pays fuzzy t (first ∷ rest) at (suc past) s = let later = exec_pays fuzzy t rest (at + 1) past s in omega arith
exec_pays fuzzy t (first ∷ rest) at zero s =
    onward_pays (pays_of first) (saved_of t first at rest) (pays_in rest) s (step fuzzy t first at rest s)
    (λ past after. exec fuzzy t rest (at + 1) past after) (steps_add_at_most fuzzy t first at rest s)
    (λ past after. exec_pays fuzzy t rest (at + 1) past after)

-- evaluated parts

onward_counts : (pays saves more : ℕ) (s : State) (x : Stepped) (f : ℕ → State → Outcome) → StepsWithin pays saves s x
    → ((past : ℕ) (after : State) → (f past after).nodes ≤ after.nodes + more) → (onward x f).nodes ≤ s.nodes + (more + 1)
onward_counts pays saves more s (goes past after) f h k = let rest = k past after in let here = h.nodes in omega arith
onward_counts pays saves more s (stops fault after) f h k = let here = h.nodes in omega arith

exec_counts : (fuzzy : IsFuzzy) (t : List ℕ) (ops : List Op) (at past : ℕ) (s : State) → (exec fuzzy t ops at past s).nodes ≤ s.nodes + length ops
exec_counts fuzzy t [] at past s = omega arith
exec_counts fuzzy t (first ∷ rest) at (suc past) s = let later = exec_counts fuzzy t rest (at + 1) past s in omega arith
exec_counts fuzzy t (first ∷ rest) at zero s =
    let all = onward_counts (pays_of first) (saved_of t first at rest) (length rest) s (step fuzzy t first at rest s)
    (λ past after. exec fuzzy t rest (at + 1) past after) (steps_add_at_most fuzzy t first at rest s)
    (λ past after. exec_counts fuzzy t rest (at + 1) past after) in
    omega arith

-- legs

both_on_legs : (legs : List ℕ) (a b : List SlotPayment) → AreOnLegs legs a → AreOnLegs legs b → AreOnLegs legs (a ++ b)
both_on_legs legs [] b h k = k
both_on_legs legs (payment ∷ a) b h k = (h.0, both_on_legs legs a b h.1 k)

take_on_legs : (legs : List ℕ) (n : ℕ) (a : List SlotPayment) → AreOnLegs legs a → AreOnLegs legs (take n a)
take_on_legs legs zero [] h = tt
take_on_legs legs (suc n) [] h = tt
take_on_legs legs zero (payment ∷ a) h = tt
take_on_legs legs (suc n) (payment ∷ a) h = (h.0, take_on_legs legs n a h.1)

drop_on_legs : (legs : List ℕ) (n : ℕ) (a : List SlotPayment) → AreOnLegs legs a → AreOnLegs legs (drop n a)
drop_on_legs legs zero [] h = tt
drop_on_legs legs (suc n) [] h = tt
drop_on_legs legs zero (payment ∷ a) h = h
drop_on_legs legs (suc n) (payment ∷ a) h = drop_on_legs legs n a h.1

scaled_on_legs : (legs : List ℕ) (w : ℕ) (a : List SlotPayment) → AreOnLegs legs a → AreOnLegs legs (map (scaled_slot_payment w) a)
scaled_on_legs legs w [] h = tt
scaled_on_legs legs w (payment ∷ a) h = (h.0, scaled_on_legs legs w a h.1)

scaled_stay : (legs : List ℕ) (w first second : ℕ) (paid : List SlotPayment) → AreOnLegs legs paid → AreOnLegs legs (scaled_from w first second paid)
scaled_stay legs w first second paid h =
    let early = take_on_legs legs second paid h in
    both_on_legs legs (take first (take second paid)) _ (take_on_legs legs first (take second paid) early)
    (both_on_legs legs (map (scaled_slot_payment w) (drop first (take second paid))) (map (scaled_slot_payment (full - w)) (drop second paid))
    (scaled_on_legs legs w (drop first (take second paid)) (drop_on_legs legs first (take second paid) early))
    (scaled_on_legs legs (full - w) (drop second paid) (drop_on_legs legs second paid h)))

-- the payments of a state are on these legs
abbrev StandsOn : List ℕ → State → Type 0
StandsOn legs s = AreOnLegs legs s.kept × AreOnLegs legs s.paid

abbrev StaysOn : List ℕ → Stepped → Type 0
StaysOn legs (goes past after) = StandsOn legs after
StaysOn legs (stops fault after) = StandsOn legs after

put_stays : (legs : List ℕ) (numbers : List ℤ) (r : Result ℤ FaultKind) (s : State) → StandsOn legs s → StaysOn legs (put_number numbers r s)
put_stays legs numbers (Err fault) s h = h
put_stays legs numbers (Ok raw) s h = h

skip_stays : (legs : List ℕ) (skipped : Bool) (past : ℕ) (s : State) → StandsOn legs s → StaysOn legs (skip_if skipped past s)
skip_stays legs true past s h = h
skip_stays legs false past s h = h

enter_stays : (legs : List ℕ) (nothing all : Bool) (w past : ℕ) (changes : List ℕ) (s : State) → StandsOn legs s
    → StaysOn legs (enter nothing all w past changes s)
enter_stays legs true all w past changes s h = h
enter_stays legs false true w past changes s h = h
enter_stays legs false false w past changes s h = h

turn_stays : (legs : List ℕ) (frames : List Frame) (past : ℕ) (changes : List ℕ) (s : State) → StandsOn legs s
    → StaysOn legs (turn frames past changes s)
turn_stays legs [] past changes s h = h
turn_stays legs (alone ∷ outer) past changes s h = h
turn_stays legs (true_branch w before from ∷ outer) past changes s h = h
turn_stays legs (false_branch w before between from ∷ outer) past changes s h = h

close_stays : (legs : List ℕ) (frames : List Frame) (changes : List ℕ) (s : State) → StandsOn legs s → StaysOn legs (close frames changes s)
close_stays legs [] changes s h = h
close_stays legs (alone ∷ outer) changes s h = h
close_stays legs (true_branch w before from ∷ outer) changes s h = h
close_stays legs (false_branch w before between from ∷ outer) changes s h = (h.0, scaled_stay legs w before between s.paid h.1)

paid_stays : (legs : List ℕ) (dates : List Day) (leg : ℕ) (raw : ℤ) → is_among leg legs ≡ true → AreOnLegs legs (paid_on dates leg raw)
paid_stays legs [] leg raw h = tt
paid_stays legs (date ∷ later) leg raw h = (h, tt)

-- these legs are all among those
abbrev AreAmong : List ℕ → List ℕ → Type 0
AreAmong few many = (leg : ℕ) → is_among leg few ≡ true → is_among leg many ≡ true

leg_itself : (leg : ℕ) → is_among leg (leg ∷ []) ≡ true
leg_itself leg = rw (eq-eqb leg leg refl) refl

step_stays : (legs : List ℕ) (fuzzy : IsFuzzy) (t : List ℕ) (first : Op) (at : ℕ) (rest : List Op) (s : State) → AreAmong (legs_of first) legs
    → StandsOn legs s → StaysOn legs (step fuzzy t first at rest s)
step_stays legs fuzzy t (op.Number raw) at rest s named h = h
step_stays legs fuzzy t (op.Slot slot) at rest s named h = h
step_stays legs fuzzy t op.Spot at rest s named h = put_stays legs s.numbers (known (first_cell s.row)) s h
step_stays legs fuzzy t (op.Unary kind) at rest s named h = h
step_stays legs fuzzy t (op.Binary kind) at rest s named h =
    put_stays legs (below_top (below_top s.numbers)) (calculated (operator kind) (top_number (below_top s.numbers)) (top_number s.numbers)) s h
step_stays legs fuzzy t (op.Truth answer) at rest s named h = h
step_stays legs fuzzy t (op.Compare kind smooth) at rest s named h = h
step_stays legs fuzzy t op.Not at rest s named h = h
step_stays legs fuzzy t (op.AndSkip to) at rest s named h = skip_stays legs (nat_eq (top_weight s.weights) 0) (to - (at + 1)) s h
step_stays legs fuzzy t op.AndJoin at rest s named h = h
step_stays legs fuzzy t (op.OrSkip to) at rest s named h = skip_stays legs (nat_eq (top_weight s.weights) full) (to - (at + 1)) s h
step_stays legs fuzzy t op.OrJoin at rest s named h = h
step_stays legs fuzzy t (op.Sure answer) at rest s named h = h
step_stays legs fuzzy t (op.Assign slot) at rest s named h = h
step_stays legs fuzzy t (op.Pay leg) at rest s named h = (
  h.0,
  both_on_legs legs s.paid (paid_on s.dates leg (top_number s.numbers)) h.1
      (paid_stays legs s.dates leg (top_number s.numbers) (named leg (leg_itself leg))),
)
step_stays legs fuzzy t (op.If to) at rest s named h =
    enter_stays legs (nat_eq (top_weight s.weights) 0) (nat_eq (top_weight s.weights) full) (top_weight s.weights) (to - (at + 1))
    (changes_from_if t at rest to) (counted (record s { weights = below_top s.weights })) h
step_stays legs fuzzy t (op.Else after) at rest s named h =
    turn_stays legs s.frames (after - (at + 1)) (changes_of t (op_ahead rest (after - (at + 1)))) s h
step_stays legs fuzzy t (op.EndIf first count) at rest s named h = close_stays legs s.frames (take count (drop first t)) s h
step_stays legs fuzzy t op.EndEvent at rest s named h = (both_on_legs legs s.kept s.paid h.0 h.1, tt)

among_left : (leg : ℕ) (a b : List ℕ) → is_among leg a ≡ true → is_among leg (a ++ b) ≡ true
among_left leg [] b h = absurd (cc h)
among_left leg (first ∷ a) b h = elim (cases_Bool (nat_eq leg first)) [
  | inl hit ↦ rw hit refl
  | inr miss ↦ rw miss (among_left leg a b (rw miss at h))
]

among_right : (leg : ℕ) (a b : List ℕ) → is_among leg b ≡ true → is_among leg (a ++ b) ≡ true
among_right leg [] b h = h
among_right leg (first ∷ a) b h = elim (cases_Bool (nat_eq leg first)) [
  | inl hit ↦ rw hit refl
  | inr miss ↦ rw miss (among_right leg a b h)
]

onward_on_legs : (legs : List ℕ) (x : Stepped) (f : ℕ → State → Outcome) → StaysOn legs x
    → ((past : ℕ) (after : State) → StandsOn legs after → AreOnLegs legs (f past after).payments) → AreOnLegs legs (onward x f).payments
onward_on_legs legs (goes past after) f h k = k past after h
onward_on_legs legs (stops fault after) f h k = h.0

exec_on_legs : (legs : List ℕ) (fuzzy : IsFuzzy) (t : List ℕ) (ops : List Op) (at past : ℕ) (s : State) → AreAmong (legs_in ops) legs
    → StandsOn legs s → AreOnLegs legs (exec fuzzy t ops at past s).payments
exec_on_legs legs fuzzy t [] at past s named h = both_on_legs legs s.kept s.paid h.0 h.1
exec_on_legs legs fuzzy t (first ∷ rest) at (suc past) s named h =
    exec_on_legs legs fuzzy t rest (at + 1) past s (λ leg k. named leg (among_right leg (legs_of first) (legs_in rest) k)) h
exec_on_legs legs fuzzy t (first ∷ rest) at zero s named h =
    onward_on_legs legs (step fuzzy t first at rest s) (λ past after. exec fuzzy t rest (at + 1) past after)
    (step_stays legs fuzzy t first at rest s (λ leg k. named leg (among_left leg (legs_of first) (legs_in rest) k)) h)
    (λ past after k. exec_on_legs legs fuzzy t rest (at + 1) past after
    (λ leg l. named leg (among_right leg (legs_of first) (legs_in rest) l)) k)

pub runs_are_bounded : RunsAreBounded
runs_are_bounded fuzzy t code slots dates row =
    let s : State = starting slots dates row in
    record {
      payments = let all = exec_pays fuzzy t code 0 0 s in omega arith;
      legs = exec_on_legs (legs_in code) fuzzy t code 0 0 s (λ leg h. h) (tt, tt);
      nodes = let all = exec_counts fuzzy t code 0 0 s in omega arith;
    }
