use Rattle.std.proofs.Common.{◌≡◌, true, sym, ◌∙◌}
use Rattle.pay_dates.specs.Days.{has_form, two_at, year_at, day_of}
use Rattle.pay_dates.proofs.DayLemmas.{day_in-form, day_in-no_form, day_of-only}
use Rattle.pay_dates.proofs.text.read_day.Goals as goal

pub returns-then-not-has_form : goal.returns-then-not-has_form
returns-then-not-has_form c =
    sym (day_in-no_form c.args.bytes.now (sym c.has_form.ensures ∙ c.if-not-has_form.true))

pub returns : goal.returns
returns c =
    let form : has_form c.args.bytes.now ≡ true = cc in
    let only = day_of-only _ _ _ c.new.result c.new.ensures.some c.new.ensures.parts in
    let found : c.new.result ≡ day_of (year_at c.args.bytes.now) (two_at 5 c.args.bytes.now) (two_at 8 c.args.bytes.now) =
    rw (c.two_at.ensures.value, c.two_at-2.ensures.value, c.two_at-3.ensures.value, c.two_at-4.ensures.value) at only in
    found ∙ sym (day_in-form c.args.bytes.now form)
