-- A run gives by name what the events mean that its program stands for.
use Rattle.std.proofs.Common.{◌≡◌, ℕ, zero, suc, ◌<◌, nat_lt, Bool, true, false, inl, inr, IsTrue, All, List, [], ◌∷◌, length, map, refl, ap, subst, ◌∙◌}
use Rattle.std.proofs.Common.{arith}
use Rattle.std.proofs.lemmas.Bool.{and_parts, cases_eq, ne_eqb, ltb-true}
use Rattle.std.specs.List.{list_all}
use Rattle.pay_meaning.specs.Language.{Event}
use Rattle.pay_meaning.specs.Meaning.{Fixings, fixing_at, Meaning, meaning, Variables}
use Rattle.pay_tree.specs.Owned.{EventTree, spelled_event}
use Rattle.pay_runs.specs.RunLaws.{row_of}
use Rattle.pay_runs.specs.Slots.{Row, steps_within}
use Rattle.pay_runs.specs.Weighing.{weighed_meaning}
use Rattle.pay_runs.proofs.CrispLaw.{crisp_is_direct}
use Rattle.pay_runs.proofs.SlotLaw.{slots_are_names}
use Rattle.pay_code.specs.Bounds.{legs_in, AreOnLegs}
use Rattle.pay_code.specs.CodeLaws.{meant}
use Rattle.pay_code.specs.Execution.{Outcome, dates_of}
use Rattle.pay_code.specs.Filled.{is_among}
use Rattle.pay_code.specs.Programs.{Compiled, StandsFor, run}
use Rattle.pay_code.proofs.CodeLaw.{code_means}
use Rattle.pay_machine.specs.declared.outcome.Payment.{Payment}
use Rattle.pay_machine.specs.NamedRuns.{GivesMeaningByName}
use Rattle.pay_machine.specs.Outcomes.{Given, IsOutcome}
use Rattle.pay_machine.specs.Runs.{IsGiven, IsBounded}
use Rattle.pay_machine.proofs.NamedOutcomes.{numbers_are_names}
use Rattle.pay_machine.proofs.RunBound.{run_means}

-- what holds of each of these holds of one that is among them
holds_among : (p : ℕ → Bool) (legs : List ℕ) (leg : ℕ) → list_all p legs ≡ true → is_among leg legs ≡ true → p leg ≡ true
holds_among p [] leg all among = absurd (let found : false ≡ true = among in cc)
holds_among p (first ∷ legs) leg all among =
    let parts = and_parts (p first) (list_all p legs) all in
    elim (cases_eq leg first) [
      | inl same ↦ ap p same ∙ parts.0
      | inr differ ↦ holds_among p legs leg parts.1 (rw (ne_eqb leg first differ) at among)
    ]

-- payments on these legs are on legs below a bound that each of these is below
pub legs_below : (legs : List ℕ) (bound : ℕ) (payments : List Payment) → list_all (λ leg. nat_lt leg bound) legs ≡ true
    → AreOnLegs legs (map (λ p. record { date = p.date; leg = p.leg; amount = p.amount }) payments) → All (λ p. p.leg < bound) payments
legs_below legs bound [] all on i x h = absurd (omega arith)
legs_below legs bound (payment ∷ payments) all on zero x h = ltb-true payment.leg bound (holds_among (λ leg. nat_lt leg bound) legs payment.leg all on.0)
legs_below legs bound (payment ∷ payments) all on (suc i) x h = legs_below legs bound payments all on.1 i x (omega arith)

-- the fixings at the dates of events are their row
row_at_dates : (fixings : Fixings) (events : List EventTree) → map (fixing_at fixings) (dates_of events) ≡ row_of events fixings
row_at_dates fixings [] = refl
row_at_dates fixings (event ∷ rest) = ap (λ cells. fixing_at fixings event.date ∷ cells) (row_at_dates fixings rest)

-- a run over the fixings at a program's dates is what its events mean
run_at_dates : (program : Compiled) (events : List EventTree) (fixings : Fixings) → StandsFor program events
    → run program (map (fixing_at fixings) program.dates) ≡ meant program.fuzzy events program.start (row_of events fixings)
run_at_dates program events fixings stands =
    ap (run program) (ap (map (fixing_at fixings)) stands.dates ∙ row_at_dates fixings events)
    ∙ run_means program events (row_of events fixings) code_means stands

-- where no smoothing is read, the meaning with weights is the direct one
directly : (program : Compiled) (names legs : List (List ℕ)) (events : List Event) (variables : Variables) (fixings : Fixings) (given : Given)
    → program.fuzzy ≡ false → IsOutcome names legs (weighed_meaning program.fuzzy events variables fixings) given
    → IsOutcome names legs (meaning events variables fixings) given
directly program names legs events variables fixings given crisp is =
    subst (λ (m : Meaning). IsOutcome names legs m given)
    ((λ i. weighed_meaning (crisp i) events variables fixings) ∙ crisp_is_direct.meanings events variables fixings) is

pub named_run : (program : Compiled) (row : Row) (given : Given) → IsGiven (run program row) given → IsBounded program given
    → GivesMeaningByName program row given
named_run program row given is bounded names legs events variables fixings apart stand own stands at_dates =
    let within : IsTrue (list_all (λ event. steps_within (length names) event.steps) events) =
    rw stand.one_each at stands.lowered.within in
    let same = slots_are_names program.fuzzy names legs events program.start variables fixings apart within stand in
    let gave : IsGiven (meant program.fuzzy events program.start (row_of events fixings)) given =
    subst (λ (o : Outcome). IsGiven o given) (ap (run program) at_dates ∙ run_at_dates program events fixings stands) is in
    let outcome = numbers_are_names names legs (meant program.fuzzy events program.start (row_of events fixings)) _ given gave same.0
    (legs_below (legs_in program.code) (length legs) given.payments own bounded.legs) in
    record {
      outcome = outcome;
      direct = λ crisp. directly program names legs (map (spelled_event names legs) events) variables fixings given crisp outcome;
      nodes = gave.nodes ∙ same.1;
    }
