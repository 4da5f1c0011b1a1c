use Rattle.std.proofs.Common.{◌≡◌, rules, to_z, of_z, w32}
use Rattle.pay_dates.specs.Days.{IsDay, day_number}
use Rattle.pay_dates.proofs.DayLemmas.{day_number-range}
use Rattle.pay_dates.proofs.day.Day.number.Goals as goal

pub returns-clause-bounds : goal.returns-clause-bounds
returns-clause-bounds c =
    let value : to_z w32 (of_z w32 c.to_unix_epoch_day.result) ≡ day_number c.args.self = search rules in
    let day : IsDay c.args.self = search rules in
    rw value (day_number-range c.args.self day)
