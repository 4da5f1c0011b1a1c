-- The code of steps does what the steps do.
use Rattle.std.proofs.Common.{◌≡◌, ℕ, ◌+◌, ℤ, List, [], ◌∷◌, ◌++◌, length, set, Result, Ok, Err, refl, sym, ap, ◌∙◌, arith}
use Rattle.std.proofs.lemmas.List.{append_assoc, append-nil, length-append}
use Rattle.pay_dates.specs.declared.day.Day.{Day}
use Rattle.pay_meaning.specs.declared.fault.FaultKind.{FaultKind}
use Rattle.pay_tree.specs.Owned.{StepTree, assigning, paying, choosing, grouping, StepsTree, no_steps, step_then}
use Rattle.pay_runs.specs.Weighing.{IsFuzzy}
use Rattle.pay_runs.specs.Counting.{unless_fault}
use Rattle.pay_runs.specs.Slots.{Slots, SlotEffect, SlotMoment, slot_assigned, slot_paid, after_slot_payments, slots_onward, value_by_slots}
use Rattle.pay_runs.specs.Slots.{weight_by_slots, step_by_slots, steps_by_slots, first_cell}
use Rattle.pay_runs.specs.SlotCounts.{number_slot_nodes, test_slot_nodes, slot_nodes_from, step_slot_nodes, steps_slot_nodes}
use Rattle.pay_code.specs.declared.op.Op.{Op}
use Rattle.pay_code.specs.declared.op.Op.TheVariants as op
use Rattle.pay_code.specs.Flat.{number_code, test_code, step_table, steps_table, step_code, steps_code}
use Rattle.pay_code.specs.Execution.{State, paid_on, faulted_on, exec}
use Rattle.pay_tree.specs.Assigned.{assigned_in}
use Rattle.pay_code.specs.Filled.{AreChanges, IsFilled, AreFilledSteps}
use Rattle.pay_code.proofs.RunLemmas.{ends_with, faults_on, with_effect, Gives, Does, before_two, length_two}
use Rattle.pay_code.proofs.NumberLaw.{number_gives}
use Rattle.pay_code.proofs.TestLaw.{test_tells}
use Rattle.pay_code.proofs.WeightLemmas.{weight_within}
use Rattle.pay_code.proofs.Keeping.{Keeps, among_both, branch_agrees}
use Rattle.pay_code.proofs.TableLemmas.{StandsAt, first_part, second_part, named_part}
use Rattle.pay_code.proofs.ChoiceLaw.{branched, choice_does}

assign_does : (fuzzy : IsFuzzy) (t : List ℕ) (date : Day) (later : List Day) (slot : ℕ) (number : List Op) (at : ℕ) (s : State)
    (x : Result ℤ FaultKind) (n : ℕ) → s.dates ≡ date ∷ later → Gives fuzzy t number at s x n
    → Does fuzzy t date (number ++ (op.Assign slot ∷ [])) at s (slot_assigned s.slots slot x) (n + unless_fault x 1)
assign_does fuzzy t date later slot number at s (Err fault) n day gives = λ rest there total e h.
    ap (λ ops. exec fuzzy t ops at 0 s) (before_two number (op.Assign slot ∷ []) rest)
    ∙ gives (op.Assign slot ∷ rest) (at + length number) total refl (omega arith)
    ∙ (λ i. record { payments = s.kept; end = faulted_on (day i) fault s.slots; nodes = total })
assign_does fuzzy t date later slot number at s (Ok raw) n day gives = λ rest there total e h.
    let place : at + length number + 1 ≡ there = omega (arith, length_two number (op.Assign slot ∷ [])) in
    let nodes : s.nodes + n + 1 ≡ total = omega arith in
    let paid : s.paid ≡ s.paid ++ [] = sym (append-nil s.paid) in
    ap (λ ops. exec fuzzy t ops at 0 s) (before_two number (op.Assign slot ∷ []) rest)
    ∙ gives (op.Assign slot ∷ rest) (at + length number) (s.nodes + n) refl refl
    ∙ (λ i. exec fuzzy t rest (place i) 0 (record s { slots = set s.slots slot raw; paid = paid i; nodes = nodes i }))

pay_does : (fuzzy : IsFuzzy) (t : List ℕ) (date : Day) (later : List Day) (leg : ℕ) (number : List Op) (at : ℕ) (s : State)
    (x : Result ℤ FaultKind) (n : ℕ) → s.dates ≡ date ∷ later → Gives fuzzy t number at s x n
    → Does fuzzy t date (number ++ (op.Pay leg ∷ [])) at s (slot_paid s.slots date leg x) (n + unless_fault x 1)
pay_does fuzzy t date later leg number at s (Err fault) n day gives = λ rest there total e h.
    ap (λ ops. exec fuzzy t ops at 0 s) (before_two number (op.Pay leg ∷ []) rest)
    ∙ gives (op.Pay leg ∷ rest) (at + length number) total refl (omega arith)
    ∙ (λ i. record { payments = s.kept; end = faulted_on (day i) fault s.slots; nodes = total })
pay_does fuzzy t date later leg number at s (Ok raw) n day gives = λ rest there total e h.
    let place : at + length number + 1 ≡ there = omega (arith, length_two number (op.Pay leg ∷ [])) in
    let nodes : s.nodes + n + 1 ≡ total = omega arith in
    ap (λ ops. exec fuzzy t ops at 0 s) (before_two number (op.Pay leg ∷ []) rest)
    ∙ gives (op.Pay leg ∷ rest) (at + length number) (s.nodes + n) refl refl
    ∙ (λ i. exec fuzzy t rest (place i) 0 (record s { paid = s.paid ++ paid_on (day i) leg raw; nodes = nodes i }))

-- an effect after another one leaves the payments of both
after_ends : (fuzzy : IsFuzzy) (t : List ℕ) (date : Day) (rest : List Op) (there total k : ℕ) (s : State) (e : SlotEffect) (y : Result SlotEffect FaultKind)
    → ends_with y (faults_on date (with_effect s k e) total) (λ f. exec fuzzy t rest there 0 (with_effect (with_effect s k e) total f))
    ≡ ends_with (after_slot_payments e.payments y) (faults_on date s total) (λ f. exec fuzzy t rest there 0 (with_effect s total f))
after_ends fuzzy t date rest there total k s e (Err fault) = refl
after_ends fuzzy t date rest there total k s e (Ok f) =
    let paid : (s.paid ++ e.payments) ++ f.payments ≡ s.paid ++ (e.payments ++ f.payments) = append_assoc s.paid e.payments f.payments in
    λ i. exec fuzzy t rest there 0 (record s { slots = f.slots; paid = paid i; nodes = total })

then_does : (fuzzy : IsFuzzy) (t : List ℕ) (date : Day) (first second : List Op) (at : ℕ) (s : State) (x : Result SlotEffect FaultKind)
    (g : Slots → Result SlotEffect FaultKind) (n : ℕ) (count : Slots → ℕ) → Does fuzzy t date first at s x n
    → ((e : SlotEffect) (k : ℕ) → Does fuzzy t date second (at + length first) (with_effect s k e) (g e.slots) (count e.slots))
    → Does fuzzy t date (first ++ second) at s (slots_onward x g) (n + slot_nodes_from x count)
then_does fuzzy t date first second at s (Err fault) g n count one_does two_does = λ rest there total e h.
    ap (λ ops. exec fuzzy t ops at 0 s) (before_two first second rest)
    ∙ one_does (second ++ rest) (at + length first) total refl (omega arith)
then_does fuzzy t date first second at s (Ok effect) g n count one_does two_does = λ rest there total e h.
    ap (λ ops. exec fuzzy t ops at 0 s) (before_two first second rest)
    ∙ one_does (second ++ rest) (at + length first) (s.nodes + n) refl refl
    ∙ two_does effect (s.nodes + n) rest there total (omega (arith, length-append first second)) (omega arith)
    ∙ after_ends fuzzy t date rest there total (s.nodes + n) s effect (g effect.slots)

nothing_does : (fuzzy : IsFuzzy) (t : List ℕ) (date : Day) (at : ℕ) (s : State)
    → Does fuzzy t date [] at s (Ok (record { slots = s.slots; payments = [] })) 0
nothing_does fuzzy t date at s = λ rest there total e h.
    let place : at ≡ there = omega arith in
    let nodes : s.nodes ≡ total = omega arith in
    let paid : s.paid ≡ s.paid ++ [] = sym (append-nil s.paid) in
    λ i. exec fuzzy t rest (place i) 0 (record s { paid = paid i; nodes = nodes i })

-- what the steps of an event read in a state
abbrev pub moment_in : Day → State → SlotMoment
moment_in date s = record { date = date; fixing = first_cell s.row }

-- the values after a branch differ from those before at most at the changes of its choice
yes_keeps : (fuzzy : IsFuzzy) (changes : List ℕ) (yes_part no_part : StepsTree) (slots : Slots) (at : SlotMoment) → AreChanges changes yes_part no_part
    → Keeps changes slots (steps_by_slots fuzzy yes_part slots at)
yes_keeps fuzzy changes yes_part no_part slots at h =
    branch_agrees fuzzy changes yes_part slots at
    (λ slot miss. (among_both slot (assigned_in yes_part) (assigned_in no_part) (sym (h.those slot) ∙ miss)).0)

no_keeps : (fuzzy : IsFuzzy) (changes : List ℕ) (yes_part no_part : StepsTree) (slots : Slots) (at : SlotMoment) → AreChanges changes yes_part no_part
    → Keeps changes slots (steps_by_slots fuzzy no_part slots at)
no_keeps fuzzy changes yes_part no_part slots at h =
    branch_agrees fuzzy changes no_part slots at
    (λ slot miss. (among_both slot (assigned_in yes_part) (assigned_in no_part) (sym (h.those slot) ∙ miss)).1)

mutual
  step_does : (fuzzy : IsFuzzy) (t : List ℕ) (date : Day) (later : List Day) (step : StepTree) (at from : ℕ) (s : State) → s.dates ≡ date ∷ later
      → StandsAt t from (step_table step) → IsFilled step
      → Does fuzzy t date (step_code at from step) at s (step_by_slots fuzzy step s.slots (moment_in date s))
      (step_slot_nodes fuzzy step s.slots (moment_in date s))
  step_does fuzzy t date later (assigning slot value) at from s day stands filled =
      assign_does fuzzy t date later slot (number_code value) at s (value_by_slots value s.slots (first_cell s.row))
      (number_slot_nodes value s.slots (first_cell s.row)) day (number_gives fuzzy t value at s)
  step_does fuzzy t date later (paying leg amount) at from s day stands filled =
      pay_does fuzzy t date later leg (number_code amount) at s (value_by_slots amount s.slots (first_cell s.row))
      (number_slot_nodes amount s.slots (first_cell s.row)) day (number_gives fuzzy t amount at s)
  step_does fuzzy t date later (choosing test yes_part no_part changes) at from s day stands filled =
      let start : ℕ = at + length (test_code at test) + 1 in
      let yes_code : List Op = steps_code start from yes_part in
      let second : ℕ = from + length (steps_table yes_part) in
      let other : ℕ = start + length yes_code + 1 in
      let no_code : List Op = steps_code other second no_part in
      let after = second_part t from (steps_table yes_part) (steps_table no_part ++ changes) stands in
      let own = second_part t second (steps_table no_part) changes after in
      choice_does fuzzy t date later other (other + length no_code) (second + length (steps_table no_part)) (length changes) (test_code at test)
      yes_code no_code at s changes (weight_by_slots fuzzy test s.slots (first_cell s.row))
      (steps_by_slots fuzzy yes_part s.slots (moment_in date s)) (steps_by_slots fuzzy no_part s.slots (moment_in date s))
      (test_slot_nodes fuzzy test s.slots (first_cell s.row)) (steps_slot_nodes fuzzy yes_part s.slots (moment_in date s))
      (steps_slot_nodes fuzzy no_part s.slots (moment_in date s)) day (test_tells fuzzy t test at s)
      (λ frames saved paid nodes. steps_do fuzzy t date later yes_part start from (branched s frames saved paid nodes) day
      (first_part t from (steps_table yes_part) (steps_table no_part ++ changes) stands) filled.1.0)
      (λ frames saved paid nodes. steps_do fuzzy t date later no_part other second (branched s frames saved paid nodes) day
      (first_part t second (steps_table no_part) changes after) filled.1.1)
      refl refl (weight_within fuzzy test s.slots (first_cell s.row)) filled.0.each_once
      (named_part t (second + length (steps_table no_part)) changes own)
      (yes_keeps fuzzy changes yes_part no_part s.slots (moment_in date s) filled.0)
      (no_keeps fuzzy changes yes_part no_part s.slots (moment_in date s) filled.0)
  step_does fuzzy t date later (grouping steps) at from s day stands filled = steps_do fuzzy t date later steps at from s day stands filled

  -- the code of steps does what they do, and evaluates as many parts
  pub steps_do : (fuzzy : IsFuzzy) (t : List ℕ) (date : Day) (later : List Day) (steps : StepsTree) (at from : ℕ) (s : State) → s.dates ≡ date ∷ later
      → StandsAt t from (steps_table steps) → AreFilledSteps steps
      → Does fuzzy t date (steps_code at from steps) at s (steps_by_slots fuzzy steps s.slots (moment_in date s))
      (steps_slot_nodes fuzzy steps s.slots (moment_in date s))
  steps_do fuzzy t date later no_steps at from s day stands filled = nothing_does fuzzy t date at s
  steps_do fuzzy t date later (step_then step rest) at from s day stands filled =
      let first : List Op = step_code at from step in
      then_does fuzzy t date first (steps_code (at + length first) (from + length (step_table step)) rest) at s
      (step_by_slots fuzzy step s.slots (moment_in date s)) (λ slots. steps_by_slots fuzzy rest slots (moment_in date s))
      (step_slot_nodes fuzzy step s.slots (moment_in date s)) (λ slots. steps_slot_nodes fuzzy rest slots (moment_in date s))
      (step_does fuzzy t date later step at from s day (first_part t from (step_table step) (steps_table rest) stands) filled.0)
      (λ effect k. steps_do fuzzy t date later rest (at + length first) (from + length (step_table step)) (with_effect s k effect) day
      (second_part t from (step_table step) (steps_table rest) stands) filled.1)
