-- A run of an aligned program gives what its events mean under the fixings of a row.
use Rattle.std.proofs.Common.{◌≡◌, ℕ, ◌≤◌, false, inl, inr, ℤ, unsigned_abs, List, [], ◌∷◌, length, map}
use Rattle.std.proofs.Common.{Option, Some, None, IsTrue, refl, ap, ◌∙◌, arith}
use Rattle.std.specs.List.{zip}
use Rattle.std.proofs.lemmas.Int.{ints}
use Rattle.std.proofs.lemmas.List.{length-map}
use Rattle.pay_dates.specs.declared.day.Day.{Day}
use Rattle.pay_meaning.specs.Language.{Event, done}
use Rattle.pay_meaning.specs.Meaning.{Fixings, Past, fixing_at, fixings_of, meaning, no_variables}
use Rattle.pay_tables.specs.Tables.{are_distinct}
use Rattle.pay_code.specs.Bounds.{legs_in}
use Rattle.pay_code.specs.Programs.{Compiled, run}
use Rattle.pay_compile.specs.Compiling.{events_until, CountsNodes, HasOwnLegs, MeansDirectly}
use Rattle.pay_domains.specs.Pieces.{Held}
use Rattle.pay_facts.specs.Holding.{AreFixings, IsFixing}
use Rattle.pay_facts.specs.Ranges.{fixings}
use Rattle.pay_runs.specs.Counting.{node_count}
use Rattle.pay_machine.specs.Outcomes.{Given, IsOutcome}
use Rattle.pay_machine.specs.Rows.{AreCells, IsCell}
use Rattle.pay_machine.specs.Runs.{IsGiven, IsBounded}
use Rattle.pay_machine.proofs.NamedOutcomes.{numbers_are_names}
use Rattle.pay_machine.proofs.NamedRuns.{legs_below}
use Rattle.pay_scenarios.specs.Aligned.{cells_from}
use Rattle.pay_scenarios.specs.Columns.{source_of}
use Rattle.pay_scenarios.specs.declared.columns.FixingSource.{FixingSource}
use Rattle.pay_scenarios.proofs.ColumnLemmas.{source-fixing}

-- the cells of these dates are the fixings there
row_cells : (past : Option Past) (dates : List Day) (cells : List (Option ℤ)) (own : List Day) → IsTrue (are_distinct dates)
    → length cells ≡ length dates
    → cells_from (map (λ date. source_of past dates date) own) cells ≡ map (fixing_at (fixings_of past (zip dates cells))) own
row_cells past dates cells [] distinct full = refl
row_cells past dates cells (date ∷ own) distinct full =
    λ i. source-fixing past dates cells date distinct full i ∷ row_cells past dates cells own distinct full i

-- a raw that the fixings hold is at most 10^15 in magnitude
limited : (raw : ℤ) → Held raw fixings → unsigned_abs raw ≤ 1_000_000_000_000_000
limited raw (inl within) = omega (arith, ints, within.low, within.high)
limited raw (inr other) = absurd other

cell_limited : (cell : Option ℤ) → IsFixing cell → IsCell cell
cell_limited None h = tt
cell_limited (Some raw) h = limited raw h

fixings_limited : (known : Fixings) (own : List Day) → AreFixings known → AreCells (map (fixing_at known) own)
fixings_limited known [] h = tt
fixings_limited known (date ∷ own) h =
    (cell_limited (fixing_at known date) (h (record { date = date; period = 0; days = 0; body = done })), fixings_limited known own h)

-- the cells of these dates are cells of a row
pub cells_are_limited : (past : Option Past) (dates : List Day) (cells : List (Option ℤ)) (own : List Day) → IsTrue (are_distinct dates)
    → length cells ≡ length dates → AreFixings (fixings_of past (zip dates cells))
    → AreCells (cells_from (map (λ date. source_of past dates date) own) cells)
cells_are_limited past dates cells own distinct full fixed =
    rw (row_cells past dates cells own distinct full) (fixings_limited (fixings_of past (zip dates cells)) own fixed)

-- without a last date all events are kept
pub all_kept : (events : List Event) → events_until None events ≡ events
all_kept [] = refl
all_kept (event ∷ events) = λ i. event ∷ all_kept events i

-- the row of a run has a cell for each date
pub full_row : (sources : List FixingSource) (cells row : List (Option ℤ)) (past : Option Past) (dates own : List Day)
    → sources ≡ map (λ date. source_of past dates date) own → row ≡ cells_from sources cells → length row ≡ length own
full_row sources cells row past dates own aligned filled =
    rw (filled, aligned) (length-map (map (λ date. source_of past dates date) own) _ ∙ length-map own _)

-- the outcome of a run is that of what the events mean
pub run_outcome : (names legs : List (List ℕ)) (events : List Event) (program : Compiled) (past : Option Past) (dates : List Day)
    (cells row : List (Option ℤ)) (sources : List FixingSource) (given : Given)
    → sources ≡ map (λ date. source_of past dates date) program.dates → row ≡ cells_from sources cells → IsTrue (are_distinct dates)
    → length cells ≡ length dates → AreFixings (fixings_of past (zip dates cells)) → MeansDirectly names legs events program
    → HasOwnLegs (length legs) program → IsGiven (run program row) given
    → IsBounded program given → IsOutcome names legs (meaning events no_variables (fixings_of past (zip dates cells))) given
run_outcome names legs events program past dates cells row sources given aligned filled distinct full fixed means own is bounded =
    let same : row ≡ map (fixing_at (fixings_of past (zip dates cells))) program.dates =
    filled ∙ ap (λ (xs : List FixingSource). cells_from xs cells) aligned ∙ row_cells past dates cells program.dates distinct full in
    numbers_are_names names legs (run program row) (meaning events no_variables (fixings_of past (zip dates cells))) given is
    (rw same (means (fixings_of past (zip dates cells)) fixed)) (legs_below (legs_in program.code) (length legs) given.payments own bounded.legs)

-- the run evaluates as many nodes as a run of these events
pub run_nodes : (events : List Event) (program : Compiled) (past : Option Past) (dates : List Day)
    (cells row : List (Option ℤ)) (sources : List FixingSource) (given : Given)
    → sources ≡ map (λ date. source_of past dates date) program.dates → row ≡ cells_from sources cells → IsTrue (are_distinct dates)
    → length cells ≡ length dates → CountsNodes events program → IsGiven (run program row) given
    → given.nodes ≡ node_count false events no_variables (fixings_of past (zip dates cells))
run_nodes events program past dates cells row sources given aligned filled distinct full counts is =
    let same : row ≡ map (fixing_at (fixings_of past (zip dates cells))) program.dates =
    filled ∙ ap (λ (xs : List FixingSource). cells_from xs cells) aligned ∙ row_cells past dates cells program.dates distinct full in
    is.nodes ∙ ap (λ (cells : List (Option ℤ)). (run program cells).nodes) same ∙ counts (fixings_of past (zip dates cells))
