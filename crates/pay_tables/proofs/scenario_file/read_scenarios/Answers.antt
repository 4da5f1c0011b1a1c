use Rattle.std.proofs.Common.{◌≡◌, ◌+◌, ◌∷◌, [], length, refl, sym, ◌∙◌, arith}
use Rattle.std.proofs.lemmas.Result.{err_from_is_err_and}
use Rattle.pay_tables.specs.Reader.{current, left}
use Rattle.pay_tables.specs.Records.{records_in}
use Rattle.pay_tables.specs.ScenarioFile.{scenarios_in, scenarios_of}
use Rattle.pay_tables.proofs.TableLemmas.{Refuses-header, Refuses-row, table_refusals-none, scenarios_of-none}
use Rattle.pay_tables.proofs.TableLaws.{table-good}
use Rattle.pay_tables.proofs.scenario_file.read_scenarios.Goals as goal

pub returns-then-not-branch-clause-refused : goal.returns-then-not-branch-clause-refused
unfolding scenarios_in scenarios_of
returns-then-not-branch-clause-refused c =
    let none : records_in c.args.bytes.now ≡ [] = sym c.new-records.ensures ∙ rw c.if-not-branch.true at c.in_ok-advance.ensures in
    rw none refl

pub returns-in_err-dates-clause-refused : goal.returns-in_err-dates-clause-refused
unfolding scenarios_in
returns-in_err-dates-clause-refused c =
    let p = err_from_is_err_and c.from_residual-in_err-dates.result c.from_residual-in_err-dates.ensures.1 in
    let header = current c.advance.new.self in
    let rows = left c.advance.new.self in
    let cut : records_in c.args.bytes.now ≡ header ∷ rows = sym c.new-records.ensures ∙ rw c.if-not-branch.false at c.in_ok-advance.ensures in
    rw (p.1, p.2, cut) (Refuses-header header rows _ c.in_err-dates.ensures.refused)

pub returns-in_err-rows-clause-refused : goal.returns-in_err-rows-clause-refused
unfolding scenarios_in
returns-in_err-rows-clause-refused c =
    let p = err_from_is_err_and c.from_residual-in_err-rows.result c.from_residual-in_err-rows.ensures.1 in
    let header = current c.advance.new.self in
    let rows = left c.advance.new.self in
    let cut : records_in c.args.bytes.now ≡ header ∷ rows = sym c.new-records.ensures ∙ rw c.if-not-branch.false at c.in_ok-advance.ensures in
    let width : c.len.result + 1 ≡ length header = omega (arith, c.in_ok-dates.ensures.width) in
    rw (p.1, p.2, cut) (Refuses-row header rows _ c.in_ok-dates.ensures.accepted (rw width at c.in_err-rows.ensures.refused))

pub returns-clause-read : goal.returns-clause-read
unfolding scenarios_in
returns-clause-read c =
    let header = current c.advance.new.self in
    let rows = left c.advance.new.self in
    let cut : records_in c.args.bytes.now ≡ header ∷ rows = sym c.new-records.ensures ∙ rw c.if-not-branch.false at c.in_ok-advance.ensures in
    let width : c.len.result + 1 ≡ length header = omega (arith, c.in_ok-dates.ensures.width) in
    let none = table_refusals-none header rows c.in_ok-dates.ensures.accepted (rw width at c.in_ok-rows.ensures.accepted) in
    rw (cut, c.in_ok-dates.ensures.dates, c.in_ok-rows.ensures.rows) (scenarios_of-none (header ∷ rows) none)

pub returns-clause-good : goal.returns-clause-good
returns-clause-good c =
    let header = current c.advance.new.self in
    let rows = left c.advance.new.self in
    let width : c.len.result + 1 ≡ length header = omega (arith, c.in_ok-dates.ensures.width) in
    let none = table_refusals-none header rows c.in_ok-dates.ensures.accepted (rw width at c.in_ok-rows.ensures.accepted) in
    rw (c.in_ok-dates.ensures.dates, c.in_ok-rows.ensures.rows) (table-good (header ∷ rows) none)
