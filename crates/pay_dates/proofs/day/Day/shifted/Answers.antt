use Rattle.std.proofs.Common.{◌+ℤ◌, w64, FitsSigned, arith, ap, ◌∙◌}
use Rattle.std.proofs.lemmas.Int.{to_z-of_z}
use Rattle.jiff.proofs.SpanFacts.{signed_arith, date_add-days, can_add-days}
use Rattle.pay_dates.specs.Days.{IsNumberOfRange, day_number}
use Rattle.pay_dates.proofs.DayLemmas.{day_number-range}
use Rattle.pay_dates.proofs.StepLemmas.{day_in_range, short_move}
use Rattle.pay_dates.proofs.day.Day.shifted.Goals as goal

pub days-requires : goal.days-requires
days-requires c =
    let fits : FitsSigned w64 c.args.days = c.ranges.days in
    let range : IsNumberOfRange (day_number c.self.inside.date) = day_number-range c.self.inside.date c.self.invariant in
    let sum : IsNumberOfRange (day_number c.self.inside.date +ℤ c.args.days) = rw c.self.view_is c.requires in
    simp to_z-of_z (short_move (day_number c.self.inside.date) c.args.days range sum)

pub add-requires : goal.add-requires
add-requires c =
    let fits : FitsSigned w64 c.args.days = c.ranges.days in
    let only = simp to_z-of_z at c.days.ensures in
    let sum : IsNumberOfRange (day_number c.self.inside.date +ℤ c.args.days) = rw c.self.view_is c.requires in
    (can_add-days c.self.inside.date c.args.days c.days.result only).1 (omega (arith, signed_arith, sum))

pub returns-clause-number : goal.returns-clause-number
returns-clause-number c =
    let fits : FitsSigned w64 c.args.days = c.ranges.days in
    let only = simp to_z-of_z at c.days.ensures in
    c.add.ensures ∙ date_add-days c.self.inside.date c.args.days c.days.result only
    ∙ ap (λ d. day_number d +ℤ c.args.days) c.self.view_is

pub invariant_of-result : goal.invariant_of-result
invariant_of-result c =
    day_in_range c.add.result (rw (returns-clause-number c) c.requires)

pub returns-clause-in_range : goal.returns-clause-in_range
returns-clause-in_range c = invariant_of-result c
