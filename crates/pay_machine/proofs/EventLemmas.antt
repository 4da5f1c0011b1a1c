-- What the end of an event, and the end of a run, leave.
use Rattle.std.proofs.Common.{◌≡◌, ℕ, zero, suc, ◌+◌, List, [], ◌∷◌, ◌++◌, drop, map, refl, ap, ◌∙◌, arith}
use Rattle.std.proofs.lemmas.List.{append-nil, map-append}
use Rattle.pay_dates.specs.declared.day.Day.{Day}
use Rattle.pay_meaning.specs.declared.fault.FaultKind.{FaultKind}
use Rattle.pay_runs.specs.Slots.{Row, further_cells}
use Rattle.pay_code.specs.Execution.{below_top, stopped}
use Rattle.pay_machine.specs.declared.outcome.End.TheVariants.{Done, Fault}
use Rattle.pay_machine.specs.declared.outcome.Payment.{Payment}
use Rattle.pay_machine.specs.Paid.{RunPayments, paid}
use Rattle.pay_machine.specs.Runs.{IsGiven, made}
use Rattle.pay_machine.specs.Work.{given, state}
use Rattle.pay_machine.specs.declared.work.Work.{Work}

below_more : {A : Type 0} (n : ℕ) (l : List A) → drop (suc n) l ≡ below_top (drop n l)
below_more zero [] = refl
below_more zero (first ∷ rest) = refl
below_more (suc n) [] = refl
below_more (suc n) (first ∷ rest) = below_more n rest

further_more : (n : ℕ) (row : Row) → drop (suc n) row ≡ further_cells (drop n row)
further_more zero [] = refl
further_more zero (first ∷ rest) = refl
further_more (suc n) [] = refl
further_more (suc n) (first ∷ rest) = further_more n rest

-- the dates after the first of those that are left
pub later_dates : (n : ℕ) (dates : List Day) → drop (n + 1) dates ≡ below_top (drop n dates)
later_dates n dates = let e : n + 1 ≡ suc n = omega arith in ap (λ k. drop k dates) e ∙ below_more n dates

-- the cells after the first of those that are left
pub later_cells : (n : ℕ) (row : Row) → drop (n + 1) row ≡ further_cells (drop n row)
later_cells n row = let e : n + 1 ≡ suc n = omega arith in ap (λ k. drop k row) e ∙ further_more n row

-- payments are those that were made
pub as_made : (payments : List Payment) → payments ≡ map made (map paid payments)
as_made [] = refl
as_made (first ∷ rest) = ap (λ l. first ∷ l) (as_made rest)

pub both_made : (kept fresh : List Payment) → kept ++ fresh ≡ map made (map paid kept ++ map paid fresh)
both_made kept fresh = as_made (kept ++ fresh) ∙ ap (map made) (map-append paid kept fresh)

pub kept_made : (kept : List Payment) → kept ++ [] ≡ map made (map paid kept)
kept_made kept = append-nil kept ∙ as_made kept

-- what a fault at a date leaves
pub faulted_given : (work : Work) (payments : RunPayments) (dates : List Day) (row : Row) (kind : FaultKind) (date : Day) (later : List Day)
    → drop work.event dates ≡ date ∷ later
    → IsGiven (stopped kind (state work payments dates row))
    (given work (record { kept = payments.kept; fresh = []; room = payments.room }) (Fault date kind))
faulted_given work payments dates row kind date later left = record {
  payments = kept_made payments.kept;
  end = rw left refl;
  values = rw left tt;
  nodes = refl;
}

-- what a fault past all dates leaves
pub past_given : (work : Work) (payments : RunPayments) (dates : List Day) (row : Row) (kind : FaultKind) → drop work.event dates ≡ []
    → IsGiven (stopped kind (state work payments dates row))
    (given work (record { kept = payments.kept; fresh = []; room = payments.room }) Done)
past_given work payments dates row kind left = record {
  payments = kept_made payments.kept;
  end = rw left refl;
  values = rw left refl;
  nodes = refl;
}
