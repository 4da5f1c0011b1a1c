use Rattle.std.proofs.Common.{rules, ◌≡◌, ◌+◌, true, false, length, ◌<ℤ◌, ◌≤ℤ◌, ◌≢◌, ◌-ℤ◌, unsigned_abs, FitsSigned, w32, arith, sym, ◌∙◌}
use Rattle.std.proofs.lemmas.Int.{to_z-of_z}
use Rattle.jiff_core.proofs.SignedLemmas.{signed_arith}
use Rattle.std.specs.Int.Signed.{le_z}
use Rattle.pay_dates.specs.Days.{day_number}
use Rattle.pay_dates.specs.Rolls.{IsSchedule, is_given}
use Rattle.pay_dates.proofs.DayLemmas.{day_number-range}
use Rattle.pay_dates.proofs.RollLemmas.{IsNext, is_before, is_not_before, is_later, at_start, next_step, next_given, next_not_given, too_many, all_rolls, fewer_days}
use Rattle.pay_dates.proofs.roll.roll_dates.Goals as goal

first_lt : (c : goal.After-adjusted-before) → day_number c.args.first <ℤ day_number c.args.last
first_lt c =
    let fits : FitsSigned w32 c.number.result = omega (arith, signed_arith, c.number.ensures.bounds) in
    let fits₂ : FitsSigned w32 c.number-2.result = omega (arith, signed_arith, c.number-2.ensures.bounds) in
    let e : le_z c.number-2.result c.number.result ≡ false = simp to_z-of_z at c.if-number.false in
    omega (arith, signed_arith, is_later c.number-2.result c.number.result e, c.number.ensures.number, c.number-2.ensures.number)

pub loop-first-init : goal.loop-first-init
loop-first-init c =
    rw c.new-rolls.ensures.items (at_start c.args.first c.args.last c.args.every c.args.unit c.args.rule c.adjusted-before.result c.number.ensures.in_range c.adjusted-before.ensures.in_range.1 (first_lt c) c.adjusted-before.ensures.moved)

before_last : (c : goal.In-loop-first) → day_number c.loop-first.day <ℤ day_number c.args.last
before_last c = is_before _ _ (sym c.lt.ensures ∙ c.loop-first-test.true)

pub overflow_add-period : goal.overflow_add-period
overflow_add-period c =
    let far = c.loop-first.invariant.far in
    let inside = c.loop-first.invariant.within in
    let a = day_number-range c.args.first c.number.ensures.in_range in
    let b = day_number-range c.args.last c.number-2.ensures.in_range in
    omega (arith, signed_arith, far, inside, a, b)

pub unadjusted-day-requires-clause-step : goal.unadjusted-day-requires-clause-step
unadjusted-day-requires-clause-step c =
    next_step c.args.first c.args.last c.args.every c.args.unit c.loop-first.period c.loop-first.day c.number.ensures.in_range c.number-2.ensures.in_range
    c.loop-first.invariant.step c.if-every-gt999.false c.loop-first.invariant.day_is (before_last c)

pub returns-then-len-eq-MOST_ROLLS-clause-refused : goal.returns-then-len-eq-MOST_ROLLS-clause-refused
returns-then-len-eq-MOST_ROLLS-clause-refused c =
    let fits : FitsSigned w32 c.number-in-loop-first.result = omega (arith, signed_arith, c.number-in-loop-first.ensures.bounds) in
    let fits₂ : FitsSigned w32 c.number-in-loop-first-2.result = omega (arith, signed_arith, c.number-in-loop-first-2.ensures.bounds) in
    let raw : c.abs_diff-days.result ≡ unsigned_abs (c.number-in-loop-first.result -ℤ c.number-in-loop-first-2.result) = simp to_z-of_z at c.abs_diff-days.ensures in
    let days : c.abs_diff-days.result ≡ unsigned_abs (day_number c.adjusted-date.result -ℤ day_number c.loop-first.before) = rw (c.number-in-loop-first.ensures.number, c.number-in-loop-first-2.ensures.number) at raw in
    let next : IsNext c.args.first c.args.last c.args.every c.args.unit c.args.rule c.loop-first.period c.loop-first.day c.loop-first.before c.unadjusted-day.result c.adjusted-date.result c.loop-first.rolls.items = record {
      at = c.loop-first.invariant;
      before_last = is_before _ _ (sym c.lt.ensures ∙ c.loop-first-test.true);
      low = c.if-every-lt1.false;
      high = c.if-every-gt999.false;
      next_is = c.unadjusted-day.ensures.number;
      date_is = c.adjusted-date.ensures.moved;
      first_day = c.number.ensures.in_range;
      last_day = c.number-2.ensures.in_range;
      next_day = c.unadjusted-day.ensures.in_range;
      date_day = c.adjusted-date.ensures.in_range.1;
    } in
    let given : is_given (c.loop-first.period + 1) (unsigned_abs (day_number c.adjusted-date.result -ℤ day_number c.loop-first.before)) ≡ true = rw days at (sym c.is_given.ensures ∙ c.if-is_given.true) in
    ((c.loop-first.invariant.ordered, c.if-every-lt1.false, c.if-every-gt999.false), too_many c.args.first c.args.last c.args.every c.args.unit c.args.rule c.loop-first.period c.loop-first.day c.loop-first.before c.unadjusted-day.result c.adjusted-date.result c.loop-first.rolls.items next given (sym c.loop-first.rolls.ok.0 ∙ sym c.len.ensures ∙ c.if-len-eq-MOST_ROLLS.true))

pub returns-in_err-push-clause-refused : goal.returns-in_err-push-clause-refused
returns-in_err-push-clause-refused c =
    let schedule : IsSchedule c.args.first c.args.last c.args.every = (c.loop-first.invariant.ordered, c.if-every-lt1.false, c.if-every-gt999.false) in search rules

pub loop-first-smaller-in_ok-push : goal.loop-first-smaller-in_ok-push
loop-first-smaller-in_ok-push c =
    let next : IsNext c.args.first c.args.last c.args.every c.args.unit c.args.rule c.loop-first.period c.loop-first.day c.loop-first.before c.unadjusted-day.result c.adjusted-date.result c.loop-first.rolls.items = record {
      at = c.loop-first.invariant;
      before_last = is_before _ _ (sym c.lt.ensures ∙ c.loop-first-test.true);
      low = c.if-every-lt1.false;
      high = c.if-every-gt999.false;
      next_is = c.unadjusted-day.ensures.number;
      date_is = c.adjusted-date.ensures.moved;
      first_day = c.number.ensures.in_range;
      last_day = c.number-2.ensures.in_range;
      next_day = c.unadjusted-day.ensures.in_range;
      date_day = c.adjusted-date.ensures.in_range.1;
    } in
    fewer_days c.args.first c.args.last c.args.every c.args.unit c.args.rule c.loop-first.period c.loop-first.day c.loop-first.before c.unadjusted-day.result c.adjusted-date.result c.loop-first.rolls.items next

pub loop-first-preserved-in_ok-push : goal.loop-first-preserved-in_ok-push
loop-first-preserved-in_ok-push c =
    let fits : FitsSigned w32 c.number-in-loop-first.result = omega (arith, signed_arith, c.number-in-loop-first.ensures.bounds) in
    let fits₂ : FitsSigned w32 c.number-in-loop-first-2.result = omega (arith, signed_arith, c.number-in-loop-first-2.ensures.bounds) in
    let raw : c.abs_diff-days.result ≡ unsigned_abs (c.number-in-loop-first.result -ℤ c.number-in-loop-first-2.result) = simp to_z-of_z at c.abs_diff-days.ensures in
    let days : c.abs_diff-days.result ≡ unsigned_abs (day_number c.adjusted-date.result -ℤ day_number c.loop-first.before) = rw (c.number-in-loop-first.ensures.number, c.number-in-loop-first-2.ensures.number) at raw in
    let next : IsNext c.args.first c.args.last c.args.every c.args.unit c.args.rule c.loop-first.period c.loop-first.day c.loop-first.before c.unadjusted-day.result c.adjusted-date.result c.loop-first.rolls.items = record {
      at = c.loop-first.invariant;
      before_last = is_before _ _ (sym c.lt.ensures ∙ c.loop-first-test.true);
      low = c.if-every-lt1.false;
      high = c.if-every-gt999.false;
      next_is = c.unadjusted-day.ensures.number;
      date_is = c.adjusted-date.ensures.moved;
      first_day = c.number.ensures.in_range;
      last_day = c.number-2.ensures.in_range;
      next_day = c.unadjusted-day.ensures.in_range;
      date_day = c.adjusted-date.ensures.in_range.1;
    } in
    let given : is_given (c.loop-first.period + 1) (unsigned_abs (day_number c.adjusted-date.result -ℤ day_number c.loop-first.before)) ≡ true = rw days at (sym c.is_given.ensures ∙ c.if-is_given.true) in
    let few : length c.loop-first.rolls.items ≢ 4096 = search rules in
    rw (c.in_ok-push.ensures.items, days) (next_given c.args.first c.args.last c.args.every c.args.unit c.args.rule c.loop-first.period c.loop-first.day c.loop-first.before c.unadjusted-day.result c.adjusted-date.result c.loop-first.rolls.items next given few)

pub loop-first-smaller : goal.loop-first-smaller
loop-first-smaller c =
    let next : IsNext c.args.first c.args.last c.args.every c.args.unit c.args.rule c.loop-first.period c.loop-first.day c.loop-first.before c.unadjusted-day.result c.adjusted-date.result c.loop-first.rolls.items = record {
      at = c.loop-first.invariant;
      before_last = is_before _ _ (sym c.lt.ensures ∙ c.loop-first-test.true);
      low = c.if-every-lt1.false;
      high = c.if-every-gt999.false;
      next_is = c.unadjusted-day.ensures.number;
      date_is = c.adjusted-date.ensures.moved;
      first_day = c.number.ensures.in_range;
      last_day = c.number-2.ensures.in_range;
      next_day = c.unadjusted-day.ensures.in_range;
      date_day = c.adjusted-date.ensures.in_range.1;
    } in
    fewer_days c.args.first c.args.last c.args.every c.args.unit c.args.rule c.loop-first.period c.loop-first.day c.loop-first.before c.unadjusted-day.result c.adjusted-date.result c.loop-first.rolls.items next

pub loop-first-preserved : goal.loop-first-preserved
loop-first-preserved c =
    let fits : FitsSigned w32 c.number-in-loop-first.result = omega (arith, signed_arith, c.number-in-loop-first.ensures.bounds) in
    let fits₂ : FitsSigned w32 c.number-in-loop-first-2.result = omega (arith, signed_arith, c.number-in-loop-first-2.ensures.bounds) in
    let raw : c.abs_diff-days.result ≡ unsigned_abs (c.number-in-loop-first.result -ℤ c.number-in-loop-first-2.result) = simp to_z-of_z at c.abs_diff-days.ensures in
    let days : c.abs_diff-days.result ≡ unsigned_abs (day_number c.adjusted-date.result -ℤ day_number c.loop-first.before) = rw (c.number-in-loop-first.ensures.number, c.number-in-loop-first-2.ensures.number) at raw in
    let next : IsNext c.args.first c.args.last c.args.every c.args.unit c.args.rule c.loop-first.period c.loop-first.day c.loop-first.before c.unadjusted-day.result c.adjusted-date.result c.loop-first.rolls.items = record {
      at = c.loop-first.invariant;
      before_last = is_before _ _ (sym c.lt.ensures ∙ c.loop-first-test.true);
      low = c.if-every-lt1.false;
      high = c.if-every-gt999.false;
      next_is = c.unadjusted-day.ensures.number;
      date_is = c.adjusted-date.ensures.moved;
      first_day = c.number.ensures.in_range;
      last_day = c.number-2.ensures.in_range;
      next_day = c.unadjusted-day.ensures.in_range;
      date_day = c.adjusted-date.ensures.in_range.1;
    } in
    let given : is_given (c.loop-first.period + 1) (unsigned_abs (day_number c.adjusted-date.result -ℤ day_number c.loop-first.before)) ≡ false = rw days at (sym c.is_given.ensures ∙ c.if-is_given.false) in
    next_not_given c.args.first c.args.last c.args.every c.args.unit c.args.rule c.loop-first.period c.loop-first.day c.loop-first.before c.unadjusted-day.result c.adjusted-date.result c.loop-first.rolls.items next given

pub returns-clause-rolled : goal.returns-clause-rolled
returns-clause-rolled c =
    let end : day_number c.args.last ≤ℤ day_number c.loop-first.day = is_not_before _ _ (sym c.lt.ensures ∙ c.loop-first-test.false) in
    all_rolls c.args.first c.args.last c.args.every c.args.unit c.args.rule c.loop-first.period c.loop-first.day c.loop-first.before c.loop-first.rolls.items c.loop-first.invariant
    c.number.ensures.in_range c.if-every-lt1.false c.loop-first.invariant.ordered end

pub returns-clause-within : goal.returns-clause-within
returns-clause-within c = ((c.loop-first.invariant.ordered, c.if-every-lt1.false, c.if-every-gt999.false), c.loop-first.invariant.few)
