use Rattle.std.proofs.Common.{◌≡◌, ◌*◌, ◌<ℤ◌, ◌≤ℤ◌, ◌∙◌, sym, arith, ap}
use Rattle.jiff_core.proofs.SignedLemmas.{signed_arith}
use Rattle.pay_dates.specs.Days.{day_number}
use Rattle.pay_dates.proofs.DayLemmas.{day_number-range}
use Rattle.pay_dates.proofs.StepLemmas.{units_from, day_in_range}
use Rattle.pay_dates.proofs.RollLemmas.{is_before, is_not_before, unadjusted-before, unadjusted-last}
use Rattle.pay_dates.proofs.roll.unadjusted.Goals as goal

pub from_date-requires : goal.from_date-requires
from_date-requires c =
    let lt : day_number c.sum-date.result <ℤ day_number c.date.result = is_before _ _ (sym c.lt.ensures ∙ c.if-lt.true) in
    let from = units_from c.args.first c.args.unit (c.args.period * c.args.every) c.sum-date.ensures.in_range in
    let same : day_number c.date.result ≡ day_number c.args.last = ap day_number c.date.ensures.date in
    day_in_range c.sum-date.result (omega (arith, signed_arith, lt, same, from, c.sum-date.ensures.number, day_number-range c.args.last c.date.ensures.in_range, day_number-range c.args.first c.sum-date.ensures.in_range))

pub returns-then-lt-clause-number : goal.returns-then-lt-clause-number
returns-then-lt-clause-number c =
    let lt : day_number c.sum-date.result <ℤ day_number c.date.result = is_before _ _ (sym c.lt.ensures ∙ c.if-lt.true) in
    let same : day_number c.date.result ≡ day_number c.args.last = ap day_number c.date.ensures.date in
    ap day_number c.from_date.ensures ∙ c.sum-date.ensures.number
    ∙ sym (unadjusted-before c.args.first c.args.last c.args.every c.args.unit c.args.period (omega (arith, signed_arith, lt, same, c.sum-date.ensures.number)))

pub returns-else-lt-clause-number : goal.returns-else-lt-clause-number
returns-else-lt-clause-number c =
    let ge : day_number c.date.result ≤ℤ day_number c.sum-date.result = is_not_before _ _ (sym c.lt.ensures ∙ c.if-lt.false) in
    let same : day_number c.date.result ≡ day_number c.args.last = ap day_number c.date.ensures.date in
    sym (unadjusted-last c.args.first c.args.last c.args.every c.args.unit c.args.period (omega (arith, signed_arith, ge, same, c.sum-date.ensures.number)))
