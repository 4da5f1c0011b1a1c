-- Runs of pieces of code: what is passed over, and what it is that a piece gives, tells or does.
use Rattle.std.proofs.Common.{◌≡◌, ℕ, zero, suc, ◌+◌, ℤ, List, [], ◌∷◌, ◌++◌, length, Result, Ok, Err, refl, ap, ◌∙◌, arith}
use Rattle.std.proofs.lemmas.List.{append_assoc, length-append}
use Rattle.pay_meaning.specs.declared.fault.FaultKind.{FaultKind}
use Rattle.pay_runs.specs.Weighing.{IsFuzzy}
use Rattle.pay_dates.specs.declared.day.Day.{Day}
use Rattle.pay_runs.specs.Slots.{SlotEffect, slots_faulted}
use Rattle.pay_code.specs.declared.op.Op.{Op}
use Rattle.pay_code.specs.Execution.{State, Outcome, put_number, faulted_on, onward, exec}

-- operations that are passed over
pub jumped : (fuzzy : IsFuzzy) (t : List ℕ) (part rest : List Op) (at past there : ℕ) (s : State) → past ≡ length part → there ≡ at + past
    → exec fuzzy t (part ++ rest) at past s ≡ exec fuzzy t rest there 0 s
jumped fuzzy t [] rest at past there s h e = let same : at ≡ there = omega arith in λ i. exec fuzzy t rest (same i) (h i) s
jumped fuzzy t (first ∷ part) rest at zero there s h e = absurd (omega arith)
jumped fuzzy t (first ∷ part) rest at (suc past) there s h e = jumped fuzzy t part rest (at + 1) past there s (omega arith) (omega arith)

-- the end of a run by a fault, with so many parts evaluated
abbrev pub faults : State → ℕ → FaultKind → Outcome
faults s total fault = record { payments = s.kept; end = faulted_on s.dates fault s.slots; nodes = total }

-- a run ends by a fault, or goes on
abbrev pub ends_with : {A : Type 0} → Result A FaultKind → (FaultKind → Outcome) → (A → Outcome) → Outcome
ends_with (Err fault) stop rest = stop fault
ends_with (Ok a) stop rest = rest a

-- a number on top, and so many parts evaluated
abbrev pub with_number : State → ℕ → ℤ → State
with_number s total raw = record s { numbers = raw ∷ s.numbers; nodes = total }

-- a weight on top, and so many parts evaluated
abbrev pub with_weight : State → ℕ → ℕ → State
with_weight s total w = record s { weights = w ∷ s.weights; nodes = total }

-- the values and payments of an effect, and so many parts evaluated
abbrev pub with_effect : State → ℕ → SlotEffect → State
with_effect s total effect = record s { slots = effect.slots; paid = s.paid ++ effect.payments; nodes = total }

-- code at a place evaluates so many parts from a state, and leaves the answer of a result in a new state, or faults as the result does
abbrev pub Leads : {A : Type 0} → IsFuzzy → List ℕ → List Op → ℕ → State → Result A FaultKind → ℕ → (State → ℕ → A → State) → Type 0
Leads fuzzy t code at s r n leave = (rest : List Op) (there total : ℕ) → there ≡ at + length code → total ≡ s.nodes + n
    → exec fuzzy t (code ++ rest) at 0 s ≡ ends_with r (faults s total) (λ a. exec fuzzy t rest there 0 (leave s total a))

-- it leaves a number
abbrev pub Gives : IsFuzzy → List ℕ → List Op → ℕ → State → Result ℤ FaultKind → ℕ → Type 0
Gives fuzzy t code at s r n = Leads fuzzy t code at s r n with_number

-- it leaves a weight
abbrev pub Tells : IsFuzzy → List ℕ → List Op → ℕ → State → Result ℕ FaultKind → ℕ → Type 0
Tells fuzzy t code at s r n = Leads fuzzy t code at s r n with_weight

-- the end of a run by a fault at a date
abbrev pub faults_on : Day → State → ℕ → FaultKind → Outcome
faults_on date s total fault = record { payments = s.kept; end = slots_faulted date fault; nodes = total }

-- it leaves an effect, within the event of a date
abbrev pub Does : IsFuzzy → List ℕ → Day → List Op → ℕ → State → Result SlotEffect FaultKind → ℕ → Type 0
Does fuzzy t date code at s r n = (rest : List Op) (there total : ℕ) → there ≡ at + length code → total ≡ s.nodes + n
    → exec fuzzy t (code ++ rest) at 0 s ≡ ends_with r (faults_on date s total) (λ effect. exec fuzzy t rest there 0 (with_effect s total effect))

-- runs that go on alike end alike
pub ends_same : {A : Type 0} (r : Result A FaultKind) (stop : FaultKind → Outcome) (g h : A → Outcome) → ((a : A) → g a ≡ h a)
    → ends_with r stop g ≡ ends_with r stop h
ends_same (Err fault) stop g h same = refl
ends_same (Ok a) stop g h same = same a

-- a run from the place and the count that are meant
pub settled_at : (fuzzy : IsFuzzy) (t : List ℕ) (rest : List Op) (at there count total : ℕ) (make : ℕ → State) → there ≡ at → total ≡ count
    → exec fuzzy t rest at 0 (make count) ≡ exec fuzzy t rest there 0 (make total)
settled_at fuzzy t rest at there count total make e h =
    let place : at ≡ there = omega arith in
    let nodes : count ≡ total = omega arith in
    λ i. exec fuzzy t rest (place i) 0 (make (nodes i))

-- a number that is put on a stack
pub put_leads : (fuzzy : IsFuzzy) (t : List ℕ) (numbers : List ℤ) (r : Result ℤ FaultKind) (s : State) (rest : List Op) (at there total : ℕ) → there ≡ at
    → total ≡ s.nodes + 1
    → onward (put_number numbers r s) (λ past after. exec fuzzy t rest at past after)
    ≡ ends_with r (faults s total) (λ raw. exec fuzzy t rest there 0 (record s { numbers = raw ∷ numbers; nodes = total }))
put_leads fuzzy t numbers (Err fault) s rest at there total e h =
    let nodes : s.nodes + 1 ≡ total = omega arith in
    λ i. record { payments = s.kept; end = faulted_on s.dates fault s.slots; nodes = nodes i }
put_leads fuzzy t numbers (Ok raw) s rest at there total e h =
    settled_at fuzzy t rest at there (s.nodes + 1) total (λ n. record s { numbers = raw ∷ numbers; nodes = n }) e h

-- code of two and of three pieces before other code
pub before_two : (a b rest : List Op) → (a ++ b) ++ rest ≡ a ++ (b ++ rest)
before_two a b rest = append_assoc a b rest

pub before_three : (a b c rest : List Op) → (a ++ (b ++ c)) ++ rest ≡ a ++ (b ++ (c ++ rest))
before_three a b c rest = append_assoc a (b ++ c) rest ∙ ap (λ ops. a ++ ops) (append_assoc b c rest)

pub length_two : (a b : List Op) → length (a ++ b) ≡ length a + length b
length_two a b = length-append a b

pub length_three : (a b c : List Op) → length (a ++ (b ++ c)) ≡ length a + length b + length c
length_three a b c = omega (arith, length-append a (b ++ c), length-append b c)
