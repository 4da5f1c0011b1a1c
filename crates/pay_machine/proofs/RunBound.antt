-- What bounds the run of a program.
use Rattle.std.proofs.Common.{◌≡◌, List, [], ◌∷◌, length, map, refl, sym, ap, subst, ◌∙◌, arith}
use Rattle.std.proofs.lemmas.List.{length-map}
use Rattle.pay_tree.specs.Owned.{EventTree}
use Rattle.pay_runs.specs.Slots.{SlotPayment, Row}
use Rattle.pay_code.specs.BoundLaws.{IsRunWithin, PartsAreCounted, RunsAreBounded}
use Rattle.pay_code.specs.Bounds.{AreOnLegs, legs_in}
use Rattle.pay_code.specs.CodeLaws.{CodeMeans, meant}
use Rattle.pay_code.specs.Execution.{run_of}
use Rattle.pay_code.specs.Flat.{events_table, flat_code}
use Rattle.pay_code.specs.Programs.{Compiled, IsValid, StandsFor, run}
use Rattle.pay_machine.specs.Outcomes.{Given}
use Rattle.pay_machine.specs.Paid.{paid}
use Rattle.pay_machine.specs.Runs.{IsBounded, IsGiven, made}

-- payments as code made them, from those that were kept
made_as : (payments : List SlotPayment) → map paid (map made payments) ≡ payments
made_as [] = refl
made_as (first ∷ rest) = ap (λ l. first ∷ l) (made_as rest)

-- the run of a program is what its events mean
pub run_means : (program : Compiled) (events : List EventTree) (row : Row) → CodeMeans → StandsFor program events
    → run program row ≡ meant program.fuzzy events program.start row
run_means program events row law stands =
    ap (λ table. run_of program.fuzzy table program.code program.start program.dates row) stands.table
    ∙ ap (λ code. run_of program.fuzzy (events_table events) code program.start program.dates row) stands.code
    ∙ ap (λ dates. run_of program.fuzzy (events_table events) (flat_code events) program.start dates row) stands.dates
    ∙ law program.fuzzy events program.start row stands.lowered.filled

-- what a run gave is bounded
pub bounded_run : (program : Compiled) (row : Row) (given : Given) → IsGiven (run program row) given → RunsAreBounded → CodeMeans → PartsAreCounted
    → IsValid program → IsBounded program given
bounded_run program row given is bounds law counts valid =
    let within : IsRunWithin program.code (run program row) = bounds program.fuzzy program.table program.code program.start program.dates row in
    let same = run_means program valid.events row law valid.stands in
    let long : length (map made (run program row).payments) ≡ length (run program row).payments = length-map (run program row).payments made in
    let paid_long = ap length is.payments in
    let parts = counts program.fuzzy valid.events program.start row in
    let nodes = ap (λ o. o.nodes) same in
    let few = valid.stands.lowered.few_parts in
    let counted = is.nodes in
    record {
      payments = let h = within.payments in omega arith;
      legs = subst (AreOnLegs (legs_in program.code)) (sym (ap (map paid) is.payments ∙ made_as (run program row).payments)) within.legs;
      nodes = omega arith;
    }
