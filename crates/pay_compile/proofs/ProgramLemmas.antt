-- A program that stands for the prepared events of a trade: its dates, its legs and payments, what its runs mean, and how many nodes they evaluate.
use Rattle.std.proofs.Common.{◌≡◌, ℕ, ◌≤◌, false, List, [], ◌∷◌, map, length, Option, Result, Ok, Err, IfOk, refl, sym, ap, subst, ◌∙◌}
use Rattle.pay_dates.specs.declared.day.Day.{Day}
use Rattle.pay_meaning.specs.Language.{Event}
use Rattle.pay_meaning.specs.Meaning.{Fixings, fixing_at, Meaning, meaning, no_variables}
use Rattle.pay_facts.specs.Facts.{no_facts}
use Rattle.pay_facts.specs.Holding.{AreFixings}
use Rattle.pay_facts.specs.SlotFacts.{SlotDomains}
use Rattle.pay_tree.specs.Owned.{EventTree, spelled_event}
use Rattle.pay_passes.specs.declared.trade.Trade.{Trade}
use Rattle.pay_passes.specs.Trades.{trees_of, spelled_trade, IsGood}
use Rattle.pay_runs.specs.Counting.{node_count}
use Rattle.pay_runs.specs.SlotCounts.{slot_node_count}
use Rattle.pay_runs.specs.Weighing.{weighed_meaning}
use Rattle.pay_runs.specs.Slots.{Row, Slots, meaning_by_slots}
use Rattle.pay_runs.specs.RunLaws.{MeansSame, row_of}
use Rattle.pay_runs.proofs.CrispLaw.{crisp_is_direct}
use Rattle.pay_runs.proofs.SlotLaw.{slots_are_names}
use Rattle.pay_code.specs.Bounds.{pays_in}
use Rattle.pay_code.specs.CodeLaws.{meant}
use Rattle.pay_code.specs.Execution.{Outcome, run_of}
use Rattle.pay_code.specs.Execution as code
use Rattle.pay_code.specs.Programs.{Compiled, run, StandsFor}
use Rattle.pay_code.proofs.CodeLaw.{code_means}
use Rattle.pay_simplified.specs.Simplified.{simplified}
use Rattle.pay_compile.specs.CompileLaws.{PreparedIsSimplified}
use Rattle.pay_compile.specs.Compiling.{events_until, dates_of, RunMeans, MeansDirectly, CountsNodes, HasOwnLegs}
use Rattle.pay_compile.specs.Prepared.{prepared, prepared_from, kept_until, no_values, zero_domains}
use Rattle.pay_prune.specs.Simplifying.{after_simplified}
use Rattle.pay_compile.proofs.Lowerable.{can_be_lowered, names_apart, own_legs, few_pays, keeps_meaning, kept_are_spelled, fresh_stands}

-- a program is that of a trade up to a date: it stands for its prepared events, its variables start from 0, and its runs read no smoothings
pub record IsProgramOf (until : Option Day) (trade : Trade) (program : Compiled) : Type 0 where
  pub stands : StandsFor program (prepared until trade)
  pub start : program.start ≡ no_values trade.names.items
  pub crisp : program.fuzzy ≡ false

-- what was lowered is that program
pub is_program : {E : Type 0} (until : Option Day) (trade : Trade) (lowered : Result Compiled E)
    → IfOk lowered (λ program. StandsFor program (prepared until trade))
    → IfOk lowered (λ program. program.start ≡ no_values trade.names.items)
    → IfOk lowered (λ program. program.fuzzy ≡ false) → IfOk lowered (IsProgramOf until trade)
is_program until trade (Ok program) stands start crisp = record { stands = stands; start = start; crisp = crisp }
is_program until trade (Err fault) stands start crisp = tt

-- the names of the variables of a trade, and those of its legs
abbrev names_of : Trade → List (List ℕ)
names_of trade = trade.names.items

abbrev legs_of : Trade → List (List ℕ)
legs_of trade = trade.legs.items

-- the events that a trade's program runs, in the language
abbrev events_of : Option Day → Trade → List Event
events_of until trade = events_until until (spelled_trade trade)

-- prepared events have the dates of the events that they stand for
same_dates : (names legs : List (List ℕ)) (events : List EventTree) (domains : SlotDomains)
    → code.dates_of (prepared_from events domains) ≡ dates_of (map (spelled_event names legs) events)
same_dates names legs [] domains = refl
same_dates names legs (event ∷ rest) domains = ap (λ dates. event.date ∷ dates) (same_dates names legs rest (after_simplified event domains))

-- the dates of the program are those of the trade's events
pub program_dates : (until : Option Day) (trade : Trade) (program : Compiled) → IsProgramOf until trade program
    → program.dates ≡ dates_of (events_of until trade)
program_dates until trade program is =
    is.stands.dates
    ∙ same_dates (names_of trade) (legs_of trade) (kept_until until (trees_of trade)) (zero_domains (names_of trade))
    ∙ ap dates_of (kept_are_spelled (names_of trade) (legs_of trade) until (trees_of trade))

-- the fixings at the dates of events are their row
row_at_dates : (fixings : Fixings) (events : List EventTree) → map (fixing_at fixings) (code.dates_of events) ≡ row_of events fixings
row_at_dates fixings [] = refl
row_at_dates fixings (event ∷ rest) = ap (λ cells. fixing_at fixings event.date ∷ cells) (row_at_dates fixings rest)

-- a crisp run of a program over a row is what the events mean that it stands for
run_is_meant : (program : Compiled) (events : List EventTree) (slots : Slots) (row : Row) → StandsFor program events → program.start ≡ slots
    → program.fuzzy ≡ false → run program row ≡ meant false events slots row
run_is_meant program events slots row stands start crisp =
    (λ i. run_of (crisp i) (stands.table i) (stands.code i) (start i) (stands.dates i) row)
    ∙ code_means false events slots row stands.lowered.filled

-- a run of the program over the fixings at its dates is what the prepared events mean
run_at_dates : (until : Option Day) (trade : Trade) (program : Compiled) (fixings : Fixings) → IsProgramOf until trade program
    → run program (map (fixing_at fixings) program.dates)
    ≡ meant false (prepared until trade) (no_values (names_of trade)) (row_of (prepared until trade) fixings)
run_at_dates until trade program fixings is =
    ap (run program) (ap (map (fixing_at fixings)) is.stands.dates ∙ row_at_dates fixings (prepared until trade))
    ∙ run_is_meant program (prepared until trade) (no_values (names_of trade)) (row_of (prepared until trade) fixings) is.stands is.start is.crisp

-- what the prepared events mean by number is what they mean by name, and as many of their parts are evaluated
same_by_name : (until : Option Day) (trade : Trade) (fixings : Fixings) → IsGood trade
    → MeansSame (names_of trade) (legs_of trade)
    (meaning_by_slots false (prepared until trade) (no_values (names_of trade)) (row_of (prepared until trade) fixings))
    (weighed_meaning false (map (spelled_event (names_of trade) (legs_of trade)) (prepared until trade)) no_variables fixings)
    × (slot_node_count false (prepared until trade) (no_values (names_of trade)) (row_of (prepared until trade) fixings)
    ≡ node_count false (map (spelled_event (names_of trade) (legs_of trade)) (prepared until trade)) no_variables fixings)
same_by_name until trade fixings good =
    slots_are_names false (names_of trade) (legs_of trade) (prepared until trade) (no_values (names_of trade)) no_variables fixings
    (names_apart (names_of trade) good.names) (can_be_lowered until trade good).within (fresh_stands (names_of trade))

-- prepared events of a trade mean, crisp, what its events mean directly
direct : PreparedIsSimplified → (until : Option Day) (trade : Trade) (fixings : Fixings) → IsGood trade → AreFixings fixings
    → weighed_meaning false (map (spelled_event (names_of trade) (legs_of trade)) (prepared until trade)) no_variables fixings
    ≡ meaning (events_of until trade) no_variables fixings
direct law until trade fixings good fixed =
    crisp_is_direct.meanings (map (spelled_event (names_of trade) (legs_of trade)) (prepared until trade)) no_variables fixings
    ∙ keeps_meaning law until trade fixings good fixed

-- what a run of a trade's prepared events gives means the same as the trade's events
meant_directly : PreparedIsSimplified → (until : Option Day) (trade : Trade) (fixings : Fixings) → IsGood trade → AreFixings fixings
    → RunMeans (names_of trade) (legs_of trade)
    (meant false (prepared until trade) (no_values (names_of trade)) (row_of (prepared until trade) fixings))
    (meaning (events_of until trade) no_variables fixings)
meant_directly law until trade fixings good fixed =
    subst (λ (m : Meaning). MeansSame (names_of trade) (legs_of trade)
    (meaning_by_slots false (prepared until trade) (no_values (names_of trade)) (row_of (prepared until trade) fixings)) m)
    (direct law until trade fixings good fixed) (same_by_name until trade fixings good).0

-- the runs of the program mean what the trade's events mean
pub program_means : PreparedIsSimplified → (until : Option Day) (trade : Trade) → IsGood trade → (program : Compiled) → IsProgramOf until trade program
    → MeansDirectly (names_of trade) (legs_of trade) (events_of until trade) program
program_means law until trade good program is fixings fixed =
    subst (λ (outcome : Outcome). RunMeans (names_of trade) (legs_of trade) outcome (meaning (events_of until trade) no_variables fixings))
    (sym (run_at_dates until trade program fixings is)) (meant_directly law until trade fixings good fixed)

-- they evaluate as many nodes as runs of the simplified script
pub program_counts : PreparedIsSimplified → (until : Option Day) (trade : Trade) → IsGood trade → (program : Compiled) → IsProgramOf until trade program
    → CountsNodes (simplified (events_of until trade) no_facts) program
program_counts law until trade good program is fixings =
    ap (λ outcome. outcome.nodes) (run_at_dates until trade program fixings is)
    ∙ (same_by_name until trade fixings good).1
    ∙ ap (λ events. node_count false events no_variables fixings) (law until trade good)

-- its payments are on the trade's legs, and there are few
pub program_legs : (until : Option Day) (trade : Trade) → IsGood trade → (program : Compiled) → IsProgramOf until trade program
    → HasOwnLegs (length (legs_of trade)) program
program_legs until trade good program is = rw is.stands.code (own_legs until trade good)

pub program_pays : (until : Option Day) (trade : Trade) → IsGood trade → (program : Compiled) → IsProgramOf until trade program
    → pays_in program.code ≤ 16_384
program_pays until trade good program is = rw is.stands.code (few_pays until trade good)
