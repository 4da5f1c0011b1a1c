-- The flat code of events does what the events mean.
use Rattle.std.proofs.Common.{◌≡◌, ℕ, ◌+◌, List, [], ◌∷◌, ◌++◌, length, Result, Ok, Err, refl, sym, ap, ◌∙◌, arith}
use Rattle.std.proofs.lemmas.List.{append_assoc, append-nil}
use Rattle.pay_dates.specs.declared.day.Day.{Day}
use Rattle.pay_meaning.specs.declared.fault.FaultKind.{FaultKind}
use Rattle.pay_tree.specs.Owned.{EventTree}
use Rattle.pay_runs.specs.Weighing.{IsFuzzy}
use Rattle.pay_runs.specs.Slots.{Slots, SlotPayment, SlotEffect, SlotMeaning, slots_finished, slots_faulted, Row, further_cells, slot_moment}
use Rattle.pay_runs.specs.Slots.{slot_event_then, steps_by_slots, meaning_by_slots}
use Rattle.pay_runs.specs.SlotCounts.{slot_nodes_from, steps_slot_nodes, slot_node_count}
use Rattle.pay_code.specs.declared.op.Op.{Op}
use Rattle.pay_code.specs.declared.op.Op.TheVariants as op
use Rattle.pay_code.specs.Flat.{steps_code, steps_table, event_code, events_code, events_table}
use Rattle.pay_code.specs.Execution.{State, Outcome, exec, dates_of}
use Rattle.pay_code.specs.Filled.{AreFilled}
use Rattle.pay_code.specs.CodeLaws.{CodeMeans}
use Rattle.pay_code.proofs.RunLemmas.{ends_with, faults_on, with_effect, before_two, length_two}
use Rattle.pay_code.proofs.TableLemmas.{StandsAt, first_part, second_part, all_of_it}
use Rattle.pay_code.proofs.StepLaw.{steps_do}

-- a state between events
abbrev between : Slots → List SlotPayment → List Day → Row → ℕ → State
between slots kept dates row nodes = record {
  slots = slots;
  numbers = [];
  weights = [];
  kept = kept;
  paid = [];
  frames = [];
  saved = [];
  dates = dates;
  row = row;
  nodes = nodes;
}

-- what a meaning is after these payments and so many parts
abbrev further : List SlotPayment → ℕ → SlotMeaning → ℕ → Outcome
further kept nodes m count = record { payments = kept ++ m.payments; end = m.end; nodes = nodes + count }

-- an event by what its steps do, and then the rest
event_then_rest : (fuzzy : IsFuzzy) (t : List ℕ) (date : Day) (later : List Day) (rest : List Op) (place : ℕ) (slots : Slots) (kept : List SlotPayment)
    (row : Row) (nodes n : ℕ) (x : Result SlotEffect FaultKind) (g : Slots → SlotMeaning) (count : Slots → ℕ)
    → ((after : Slots) (so_far : List SlotPayment) (k : ℕ)
    → exec fuzzy t rest (place + 1) 0 (between after so_far later (further_cells row) k) ≡ further so_far k (g after) (count after))
    → ends_with x (faults_on date (between slots kept (date ∷ later) row nodes) (nodes + n))
    (λ e. exec fuzzy t (op.EndEvent ∷ rest) place 0 (with_effect (between slots kept (date ∷ later) row nodes) (nodes + n) e))
    ≡ further kept nodes (slot_event_then date x g) (n + slot_nodes_from x count)
event_then_rest fuzzy t date later rest place slots kept row nodes n (Err fault) g count does =
    let payments : kept ≡ kept ++ [] = sym (append-nil kept) in
    let total : nodes + n ≡ nodes + (n + 0) = omega arith in
    λ i. record { payments = payments i; end = slots_faulted date fault; nodes = total i }
event_then_rest fuzzy t date later rest place slots kept row nodes n (Ok e) g count does =
    let payments : (kept ++ e.payments) ++ (g e.slots).payments ≡ kept ++ (e.payments ++ (g e.slots).payments) =
    append_assoc kept e.payments (g e.slots).payments in
    let total : nodes + n + count e.slots ≡ nodes + (n + count e.slots) = omega arith in
    does e.slots (kept ++ e.payments) (nodes + n)
    ∙ (λ i. record { payments = payments i; end = (g e.slots).end; nodes = total i })

events_do : (fuzzy : IsFuzzy) (t : List ℕ) (events : List EventTree) (at from : ℕ) (slots : Slots) (kept : List SlotPayment) (row : Row) (nodes : ℕ)
    → StandsAt t from (events_table events) → AreFilled events
    → exec fuzzy t (events_code at from events) at 0 (between slots kept (dates_of events) row nodes)
    ≡ further kept nodes (meaning_by_slots fuzzy events slots row) (slot_node_count fuzzy events slots row)
events_do fuzzy t [] at from slots kept row nodes stands filled =
    let payments : kept ++ [] ≡ kept ++ [] = refl in
    let total : nodes ≡ nodes + 0 = omega arith in
    λ i. record { payments = payments i; end = slots_finished slots; nodes = total i }
events_do fuzzy t (event ∷ rest) at from slots kept row nodes stands filled =
    let steps : List Op = steps_code at from event.steps in
    let there : ℕ = at + length (event_code at from event) in
    let later : List Op = events_code there (from + length (steps_table event.steps)) rest in
    let s : State = between slots kept (event.date ∷ dates_of rest) row nodes in
    let place : at + length steps + 1 ≡ there = omega (arith, length_two steps (op.EndEvent ∷ [])) in
    ap (λ ops. exec fuzzy t ops at 0 s) (before_two steps (op.EndEvent ∷ []) later)
    ∙ steps_do fuzzy t event.date (dates_of rest) event.steps at from s refl
    (first_part t from (steps_table event.steps) (events_table rest) stands) filled.0 (op.EndEvent ∷ later) (at + length steps)
    (nodes + steps_slot_nodes fuzzy event.steps slots (slot_moment event row)) refl refl
    ∙ event_then_rest fuzzy t event.date (dates_of rest) later (at + length steps) slots kept row nodes
    (steps_slot_nodes fuzzy event.steps slots (slot_moment event row)) (steps_by_slots fuzzy event.steps slots (slot_moment event row))
    (λ after. meaning_by_slots fuzzy rest after (further_cells row)) (λ after. slot_node_count fuzzy rest after (further_cells row))
    (λ after so_far k. ap (λ n. exec fuzzy t later n 0 (between after so_far (dates_of rest) (further_cells row) k)) place
    ∙ events_do fuzzy t rest there (from + length (steps_table event.steps)) after so_far (further_cells row) k
    (second_part t from (steps_table event.steps) (events_table rest) stands) filled.1)

pub code_means : CodeMeans
code_means fuzzy events slots row filled =
    let total : 0 + slot_node_count fuzzy events slots row ≡ slot_node_count fuzzy events slots row = omega arith in
    events_do fuzzy (events_table events) events 0 0 slots [] row 0 (all_of_it (events_table events)) filled
    ∙ (λ i. record {
      payments = (meaning_by_slots fuzzy events slots row).payments;
      end = (meaning_by_slots fuzzy events slots row).end;
      nodes = total i;
    })
