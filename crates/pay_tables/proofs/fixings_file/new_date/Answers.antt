use Rattle.std.proofs.Common.{◌≡◌, Some, true, refl, sym, ◌∙◌}
use Rattle.pay_dates.specs.Days.{day_in}
use Rattle.std.specs.BTreeMap.{keys}
use Rattle.pay_tables.specs.Tables.{is_among}
use Rattle.pay_tables.proofs.DayMaps.{has_days-keys}
use Rattle.pay_tables.proofs.fixings_file.new_date.Goals as goal

pub returns-then-contains_key-clause-refused : goal.returns-then-contains_key-clause-refused
returns-then-contains_key-clause-refused c =
    let found : day_in c.args.field.now ≡ Some c.in_ok-date.date = sym c.read_date.ensures ∙ c.in_ok-date.ensures.ok_part in
    let old : is_among c.in_ok-date.date (keys c.args.before.now) ≡ true =
    sym (has_days-keys c.args.before.now.entries c.in_ok-date.date) ∙ sym c.contains_key.ensures ∙ c.if-contains_key.true in
    rw (found, old) refl

pub returns-clause-new : goal.returns-clause-new
returns-clause-new c = sym (has_days-keys c.args.before.now.entries c.in_ok-date.date) ∙ sym c.contains_key.ensures ∙ c.if-contains_key.false
