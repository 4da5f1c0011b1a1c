-- A row that is refused, and one that is read.
use Rattle.std.proofs.Common.{◌≡◌, ◌∷◌, ◌++◌, [], map, append_assoc, refl, ◌∙◌, arith, rules}
use Rattle.std.proofs.lemmas.List.{map_push}
use Rattle.std.proofs.lemmas.Result.{err_from_is_err_and}
use Rattle.pay_tables.specs.Reader.{current, left}
use Rattle.pay_tables.specs.ScenarioFile.{row_refusals}
use Rattle.pay_tables.specs.Views.{row}
use Rattle.pay_tables.proofs.Refusals.{first_of-back, IsFirst-front}
use Rattle.pay_tables.proofs.scenario_file.read_rows.Goals as goal

pub returns-in_err-row-clause-refused : goal.returns-in_err-row-clause-refused
returns-in_err-row-clause-refused c =
    let p = err_from_is_err_and c.from_residual-in_err-row.result c.from_residual-in_err-row.ensures.1 in
    let fields = current c.advance.new.self in
    let more : left c.loop-rows.records ≡ fields ∷ left c.advance.new.self = rw c.if-branch.true at c.in_ok-advance.ensures in
    rw (p.1, p.2, c.loop-rows.invariant.refusals, more)
    (IsFirst-front (row_refusals c.args.width c.loop-rows.number fields) _ _ c.in_err-row.ensures.refused)

pub loop-rows-preserved : goal.loop-rows-preserved
loop-rows-preserved c =
    let fields = current c.advance.new.self in
    let more : left c.loop-rows.records ≡ fields ∷ left c.advance.new.self = rw c.if-branch.true at c.in_ok-advance.ensures in
    let rows = c.loop-rows.rows.items in
    let pushed : c.push.new.self.items ≡ rows ++ c.in_ok-row.row ∷ [] = search rules in
    let accepted = first_of-back (row_refusals c.args.width c.loop-rows.number fields) _ c.in_ok-row.ensures.accepted in
    record {
      refusals = c.loop-rows.invariant.refusals ∙ rw more accepted;
      rows = rw (pushed, map_push row rows c.in_ok-row.row, append_assoc (map row rows) (row c.in_ok-row.row ∷ []) _, c.in_ok-row.ensures.row)
          (c.loop-rows.invariant.rows ∙ rw more refl);
      few = omega (arith, c.in_ok-row.ensures.number);
    }
