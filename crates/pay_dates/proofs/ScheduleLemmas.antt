-- The dates of a schedule and of its rolls, in their order.
use Rattle.std.proofs.Common.{◌≡◌, ℕ, zero, suc, ◌+◌, ◌-◌, ◌*◌, ◌<◌, ◌≤◌, Bool, true, false, inl, inr, ℤ, pos, ◌+ℤ◌, ◌-ℤ◌, ◌<ℤ◌, ◌≤ℤ◌, unsigned_abs, List, [], ◌∷◌, ◌++◌, refl, ◌∙◌, arith}
use Rattle.std.specs.List.{All}
use Rattle.std.proofs.lemmas.Int.{by_lt_z}
use Rattle.std.proofs.lemmas.Bool.{cases_Bool}
use Rattle.std.proofs.lemmas.List.Elements.{All-nil, All-push, All-head, All-tail, All-weaker}
use Rattle.jiff_core.specs.Date.{weekday_of}
use Rattle.jiff_core.proofs.SignedLemmas.{signed_arith}
use Rattle.pay_dates.specs.Days.{Date, IsDay, IsNumberOfRange, day_number}
use Rattle.pay_dates.specs.Rolls.{unadjusted, units_after, adjusted, day_numbered, roll_at, is_given, with_roll, rolls_to, rolls_of, days_between}
use Rattle.pay_dates.specs.RollLaws.{IsSchedulable, DatesRise, RollsRise, UnadjustedRise, UnadjustedReachLast, NoWeekend, IsInMonthOf, ModifiedKeepsMonth}
use Rattle.pay_dates.specs.Steps.{IsStep}
use Rattle.pay_dates.specs.declared.roll.Roll.{Roll}
use Rattle.pay_dates.specs.declared.roll.Rule.{Rule}
use Rattle.pay_dates.specs.declared.roll.Rule.TheVariants.{Modified}
use Rattle.pay_dates.specs.declared.roll.Unit.{Unit}
use Rattle.pay_dates.specs.declared.roll.Unit.TheVariants.{Days, Weeks, Months, Years}
use Rattle.pay_dates.proofs.CountLemmas.{abs_is, day_numbered-number}
use Rattle.pay_dates.proofs.DayLemmas.{day_number-range}
use Rattle.pay_dates.proofs.MoveLemmas.{moved_in}
use Rattle.pay_dates.proofs.RollLemmas.{unadjusted-before, unadjusted-last, sum_of, plus_one, gives, rolls_to-next, with_roll-given, with_roll-not}
use Rattle.pay_dates.proofs.RuleLemmas.{off_weekends, keeps_month, moved_order}
use Rattle.pay_dates.proofs.StepLemmas.{no_units, units_from, units_grow, one_more_step}

-- the units that lead to a day of the range are counted
counted : (first last : Date) (unit : Unit) (n : ℕ) → IsDay first → IsDay last → units_after first unit n <ℤ day_number last → IsStep unit n
counted first last unit n h l lt =
    let same : n + 0 ≡ n = omega arith in
    rw same at (one_more_step first unit n 0 h (omega (arith, signed_arith, lt, day_number-range last l)) (omega arith))

fewer : (unit : Unit) (a b : ℕ) → a ≤ b → IsStep unit b → IsStep unit a
fewer Days a b h k = omega arith
fewer Weeks a b h k = omega arith
fewer Months a b h k = omega arith
fewer Years a b h k = omega arith

times_grow : (k later every : ℕ) → 1 ≤ every → k < later → k * every < later * every
times_grow k later every low lt =
    let more = later - suc k in
    let same : later ≡ k + suc more = omega arith in
    let sum : (k + suc more) * every ≡ k * every + (more * every + every) = omega arith in
    rw same (omega (arith, sum))

-- an unadjusted date lies from the first date to the last one
not_past : (first last : Date) (every : ℕ) (unit : Unit) (k : ℕ) → unadjusted first last every unit k ≤ℤ day_number last
not_past first last every unit k =
    by_lt_z (units_after first unit (k * every)) (day_number last)
    (λ before. omega (arith, signed_arith, before, unadjusted-before first last every unit k before))
    (λ past. omega (arith, signed_arith, unadjusted-last first last every unit k past))

not_before : (first last : Date) (every : ℕ) (unit : Unit) (k : ℕ) → IsSchedulable first last every → day_number first ≤ℤ unadjusted first last every unit k
not_before first last every unit k h =
    by_lt_z (units_after first unit (k * every)) (day_number last)
    (λ before. omega (arith, signed_arith, units_from first unit (k * every) h.0.0, unadjusted-before first last every unit k before))
    (λ past. omega (arith, signed_arith, h.1.0, unadjusted-last first last every unit k past))

unadjusted_in : (first last : Date) (every : ℕ) (unit : Unit) (k : ℕ) → IsSchedulable first last every → IsNumberOfRange (unadjusted first last every unit k)
unadjusted_in first last every unit k h =
    omega (arith, signed_arith, not_past first last every unit k, not_before first last every unit k h, day_number-range first h.0.0, day_number-range last h.0.1)

-- unadjusted dates rise until they reach the last date
pub unadjusted_rise : UnadjustedRise
unadjusted_rise first last every unit k later h lt below =
    let sum = sum_of first last every unit k (unadjusted first last every unit k) refl below in
    let step = counted first last unit (k * every) h.0.0 h.0.1 (omega (arith, signed_arith, sum, below)) in
    let grow = units_grow first unit (k * every) (later * every) h.0.0 step (times_grow k later every h.1.1 lt) in
    by_lt_z (units_after first unit (later * every)) (day_number last)
    (λ before. omega (arith, signed_arith, sum, grow, unadjusted-before first last every unit later before))
    (λ past. omega (arith, signed_arith, below, unadjusted-last first last every unit later past))

-- and stay there
unadjusted_order : (first last : Date) (every : ℕ) (unit : Unit) (k : ℕ) → IsSchedulable first last every
    → unadjusted first last every unit k ≤ℤ unadjusted first last every unit (k + 1)
unadjusted_order first last every unit k h =
    by_lt_z (unadjusted first last every unit k) (day_number last)
    (λ below. let rise = unadjusted_rise first last every unit k (k + 1) h (omega arith) below in omega (arith, signed_arith, rise))
    (λ reached.
    by_lt_z (units_after first unit ((k + 1) * every)) (day_number last)
    (λ before.
    let times = times_grow k (k + 1) every h.1.1 (omega arith) in
    let step = fewer unit (k * every) ((k + 1) * every) (omega (arith, times)) (counted first last unit ((k + 1) * every) h.0.0 h.0.1 before) in
    let grow = units_grow first unit (k * every) ((k + 1) * every) h.0.0 step times in
    let here = unadjusted-before first last every unit k (omega (arith, signed_arith, grow, before)) in
    absurd (omega (arith, signed_arith, here, grow, before, reached)))
    (λ past. omega (arith, signed_arith, not_past first last every unit k, unadjusted-last first last every unit (k + 1) past)))

-- a day at least for each period
day_each : (first last : Date) (every : ℕ) (unit : Unit) (k : ℕ) → IsSchedulable first last every → unadjusted first last every unit k <ℤ day_number last
    → (day_number first +ℤ pos k) ≤ℤ unadjusted first last every unit k
day_each first last every unit zero h below = omega (arith, signed_arith, not_before first last every unit 0 h)
day_each first last every unit (suc k) h below =
    let next = rw (plus_one k) at (unadjusted_order first last every unit k h) in
    let here : unadjusted first last every unit k <ℤ day_number last = omega (arith, signed_arith, next, below) in
    let rise = unadjusted_rise first last every unit k (suc k) h (omega arith) here in
    omega (arith, signed_arith, rise, day_each first last every unit k h here)

pub reach_last : UnadjustedReachLast
reach_last first last every unit h =
    let none : 0 * every ≡ 0 = omega arith in
    let zero : units_after first unit (0 * every) ≡ day_number first = rw none (no_units first unit) in
    let start = unadjusted-before first last every unit 0 (omega (arith, signed_arith, zero, h.1.0)) in
    let days = abs_is (day_number last -ℤ day_number first) (omega (arith, signed_arith, h.1.0)) in (
      start ∙ zero,
      by_lt_z (unadjusted first last every unit (days_between first last)) (day_number last)
          (λ below. absurd (omega (arith, signed_arith, below, days, day_each first last every unit (days_between first last) h below)))
          (λ reached. omega (arith, signed_arith, reached, not_past first last every unit (days_between first last))),
    )

-- adjusted dates in their order
adjusted_order : (first last : Date) (every : ℕ) (unit : Unit) (rule : Rule) (k : ℕ) → IsSchedulable first last every
    → adjusted first last every unit rule k ≤ℤ adjusted first last every unit rule (k + 1)
unfolding adjusted
adjusted_order first last every unit rule k h =
    let here = day_numbered-number (unadjusted first last every unit k) (unadjusted_in first last every unit k h) in
    let next = day_numbered-number (unadjusted first last every unit (k + 1)) (unadjusted_in first last every unit (k + 1) h) in
    moved_order rule _ _ (omega (arith, signed_arith, here.0, next.0, unadjusted_order first last every unit k h))

adjusted_in : (first last : Date) (every : ℕ) (unit : Unit) (rule : Rule) (k : ℕ) → IsSchedulable first last every
    → IsNumberOfRange (adjusted first last every unit rule k)
unfolding adjusted
adjusted_in first last every unit rule k h =
    moved_in (day_numbered (unadjusted first last every unit k)) rule
    (day_numbered-number (unadjusted first last every unit k) (unadjusted_in first last every unit k h)).1

-- the date and the days of a period's roll
roll_date : (first last : Date) (every : ℕ) (unit : Unit) (rule : Rule) (k : ℕ) → IsSchedulable first last every
    → day_number ((roll_at first last every unit rule k).date) ≡ adjusted first last every unit rule k
unfolding roll_at
roll_date first last every unit rule k h =
    (day_numbered-number (adjusted first last every unit rule k) (adjusted_in first last every unit rule k h)).0

roll_days : (first last : Date) (every : ℕ) (unit : Unit) (rule : Rule) (k : ℕ)
    → (roll_at first last every unit rule (k + 1)).days ≡ unsigned_abs (adjusted first last every unit rule (k + 1) -ℤ adjusted first last every unit rule k)
unfolding roll_at
roll_days first last every unit rule k = let back : k + 1 - 1 ≡ k = omega arith in rw back refl

roll_period : (first last : Date) (every : ℕ) (unit : Unit) (rule : Rule) (k : ℕ) → (roll_at first last every unit rule k).period ≡ k
unfolding roll_at
roll_period first last every unit rule k = refl

-- what holds of each period's roll holds of all rolls
with_roll-all : (P : Roll → Type 0) (rolls : List Roll) (roll : Roll) (given : Bool) → gives roll ≡ given → All P rolls → P roll → All P (with_roll rolls roll)
with_roll-all P rolls roll true e h p = rw (with_roll-given rolls roll e) (All-push P rolls roll h p)
with_roll-all P rolls roll false e h p = rw (with_roll-not rolls roll e) h

every_roll : (P : Roll → Type 0) (first last : Date) (every : ℕ) (unit : Unit) (rule : Rule)
    → ((k : ℕ) → P (roll_at first last every unit rule k)) → (k : ℕ) → All P (rolls_to first last every unit rule k)
unfolding rolls_to
every_roll P first last every unit rule f zero = All-nil P
every_roll P first last every unit rule f (suc k) =
    with_roll-all P (rolls_to first last every unit rule k) (roll_at first last every unit rule (suc k)) _ refl
    (every_roll P first last every unit rule f k) (f (suc k))

-- no roll falls on a weekend
pub no_weekend : NoWeekend
unfolding rolls_of adjusted
no_weekend first last every unit rule h moves =
    every_roll (λ roll. weekday_of roll.date < 5) first last every unit rule
    (λ k. rw (roll_date first last every unit rule k h) (off_weekends rule (day_numbered (unadjusted first last every unit k)) moves))
    (days_between first last)

-- modified following keeps the month
pub in_month : ModifiedKeepsMonth
unfolding rolls_of adjusted
in_month first last every unit h =
    every_roll (λ roll. IsInMonthOf roll.date (day_numbered (unadjusted first last every unit roll.period))) first last every unit Modified
    (λ k. rw (roll_period first last every unit Modified k) (keeps_month (day_numbered (unadjusted first last every unit k)) (roll_at first last every unit Modified k).date
    (roll_date first last every unit Modified k h)))
    (days_between first last)

-- one later roll
rise-push : (rolls : List Roll) (roll : Roll) → DatesRise rolls → All (λ before. day_number before.date <ℤ day_number roll.date) rolls → DatesRise (rolls ++ roll ∷ [])
rise-push [] roll h k = (All-nil _, tt)
rise-push (x ∷ xs) roll h k = (
  All-push (λ later. day_number x.date <ℤ day_number later.date) xs roll h.0 (All-head (λ before. day_number before.date <ℤ day_number roll.date) x xs k),
  rise-push xs roll h.1 (All-tail (λ before. day_number before.date <ℤ day_number roll.date) x xs k),
)

given_days : (period days : ℕ) → 2 ≤ period → is_given period days ≡ true → 0 < days
given_days period days h e = grind arith

apart : (a b : ℤ) → a ≤ℤ b → 0 < unsigned_abs (b -ℤ a) → a <ℤ b
apart a b h days =
    by_lt_z a b (λ lt. lt) (λ le. let none : b -ℤ a ≡ pos 0 = omega (arith, signed_arith) in absurd (omega (arith, rw none at days)))

-- after k periods: the dates rise, and none is past the k-th adjusted date
abbrev IsRisen : Date → Date → ℕ → Unit → Rule → ℕ → Type 0
IsRisen first last every unit rule k =
    DatesRise (rolls_to first last every unit rule k)
    × All (λ roll. day_number roll.date ≤ℤ adjusted first last every unit rule k) (rolls_to first last every unit rule k)

-- so they lie before that of the next roll
all_before : (first last : Date) (every : ℕ) (unit : Unit) (rule : Rule) (k : ℕ) → IsSchedulable first last every
    → gives (roll_at first last every unit rule (k + 1)) ≡ true
    → All (λ roll. day_number roll.date ≤ℤ adjusted first last every unit rule k) (rolls_to first last every unit rule k)
    → All (λ roll. day_number roll.date <ℤ day_number ((roll_at first last every unit rule (k + 1)).date)) (rolls_to first last every unit rule k)
unfolding rolls_to
all_before first last every unit rule zero h given so_far = All-nil _
all_before first last every unit rule (suc k) h given so_far =
    let next = roll_at first last every unit rule (suc k + 1) in
    let days : 0 < next.days = given_days next.period next.days (omega (arith, roll_period first last every unit rule (suc k + 1))) given in
    let later = apart _ _ (adjusted_order first last every unit rule (suc k) h) (rw (roll_days first last every unit rule (suc k)) at days) in
    let date = roll_date first last every unit rule (suc k + 1) h in
    All-weaker (λ roll. day_number roll.date ≤ℤ adjusted first last every unit rule (suc k)) (λ roll. day_number roll.date <ℤ day_number next.date)
    (λ roll le. omega (arith, signed_arith, le, later, date)) (rolls_to first last every unit rule (suc k)) so_far

risen_next : (first last : Date) (every : ℕ) (unit : Unit) (rule : Rule) (k : ℕ) → IsSchedulable first last every
    → IsRisen first last every unit rule k → IsRisen first last every unit rule (k + 1)
risen_next first last every unit rule k h so_far =
    let rolls = rolls_to first last every unit rule k in
    let next = roll_at first last every unit rule (k + 1) in
    let order = adjusted_order first last every unit rule k h in
    let date = roll_date first last every unit rule (k + 1) h in
    let below : All (λ roll. day_number roll.date ≤ℤ adjusted first last every unit rule (k + 1)) rolls =
    All-weaker (λ roll. day_number roll.date ≤ℤ adjusted first last every unit rule k) (λ roll. day_number roll.date ≤ℤ adjusted first last every unit rule (k + 1))
    (λ roll le. omega (arith, signed_arith, le, order)) rolls so_far.1 in
    elim (cases_Bool (gives next)) [
      | inl t ↦
          rw (rolls_to-next first last every unit rule k, with_roll-given rolls next t) (
            rise-push rolls next so_far.0 (all_before first last every unit rule k h t so_far.1),
            All-push (λ roll. day_number roll.date ≤ℤ adjusted first last every unit rule (k + 1)) rolls next below (omega (arith, signed_arith, date)),
          )
      | inr f ↦ rw (rolls_to-next first last every unit rule k, with_roll-not rolls next f) (so_far.0, below)
    ]

risen : (first last : Date) (every : ℕ) (unit : Unit) (rule : Rule) (k : ℕ) → IsSchedulable first last every → IsRisen first last every unit rule k
unfolding rolls_to
risen first last every unit rule zero h = (tt, All-nil _)
risen first last every unit rule (suc k) h =
    rw (plus_one k) at (risen_next first last every unit rule k h (risen first last every unit rule k h))

-- the dates of a schedule's rolls rise
pub rolls_rise : RollsRise
unfolding rolls_of
rolls_rise first last every unit rule h = (risen first last every unit rule (days_between first last) h).0
