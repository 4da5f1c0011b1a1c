use Rattle.std.proofs.Common.{◌≡◌, map, ap, ◌∙◌, rules, ℤ, Option}
use Rattle.std.proofs.lemmas.List.{map-id}
use Rattle.std.proofs.lemmas.Simd.{map-map}
use Rattle.pay_dates.specs.declared.day.Day.{Day}
use Rattle.pay_tables.specs.declared.past.PastRow.{PastRow}
use Rattle.pay_tables.specs.Views.{past_cell}
use Rattle.pay_tables.proofs.fixings_file.in_order.Goals as goal

-- the row of a cell
abbrev row : Day × Option ℤ → PastRow
row cell = record { date = cell.0; value = cell.1 }

pub returns : goal.returns
returns c =
    let rows : c.in_ok-rows.rows.items ≡ map row c.args.fixings.entries = search rules in
    ap (map past_cell) rows ∙ map-map past_cell row c.args.fixings.entries ∙ map-id c.args.fixings.entries
