use Rattle.std.proofs.Common.{◌≡◌, ◌+ℤ◌, w64, FitsSigned, arith, ◌∙◌}
use Rattle.std.proofs.lemmas.Int.{to_z-of_z}
use Rattle.jiff_core.proofs.SignedLemmas.{signed_arith}
use Rattle.pay_dates.specs.Days.{day_number}
use Rattle.pay_dates.specs.Rolls.{moved}
use Rattle.pay_dates.proofs.DayLemmas.{day_number-range}
use Rattle.pay_dates.proofs.MoveLemmas.{moved_in}
use Rattle.pay_dates.proofs.business_day.adjusted.Goals as goal

pub shifted-requires : goal.shifted-requires
shifted-requires c =
    let to : day_number c.args.day +ℤ c.shift_of.result ≡ moved c.args.rule c.args.day = rw c.date.ensures.date at c.shift_of.ensures in
    let fits : FitsSigned w64 c.shift_of.result =
    omega (arith, signed_arith, to, day_number-range c.args.day c.date.ensures.in_range, moved_in c.args.day c.args.rule c.date.ensures.in_range) in
    simp to_z-of_z (rw to (moved_in c.args.day c.args.rule c.date.ensures.in_range))

pub returns-clause-moved : goal.returns-clause-moved
returns-clause-moved c =
    let to : day_number c.args.day +ℤ c.shift_of.result ≡ moved c.args.rule c.args.day = rw c.date.ensures.date at c.shift_of.ensures in
    let fits : FitsSigned w64 c.shift_of.result =
    omega (arith, signed_arith, to, day_number-range c.args.day c.date.ensures.in_range, moved_in c.args.day c.args.rule c.date.ensures.in_range) in
    (simp to_z-of_z at c.shifted.ensures.number) ∙ to
