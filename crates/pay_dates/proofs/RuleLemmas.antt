-- What a rule does to a day: it leaves weekends, it keeps the order of days, and modified following keeps the month.
use Rattle.std.proofs.Common.{◌≡◌, ℕ, ◌+◌, ◌-◌, ◌%◌, ◌<◌, ◌≤◌, Bool, true, false, inl, inr, ◌≢◌, if◌then◌else◌, ℤ, pos, unsigned_abs, ◌+ℤ◌, ◌-ℤ◌, ◌≤ℤ◌, refl, ap, ◌∙◌, arith}
use Rattle.std.proofs.lemmas.Bool.{cases_Bool, cases_lt, leb-true, leb-false}
use Rattle.jiff_core.specs.Calendar.{weekday_number}
use Rattle.jiff_core.specs.Date.{weekday_of, month_length}
use Rattle.jiff_core.proofs.SignedLemmas.{signed_arith}
use Rattle.jiff_core.proofs.CalendarLemmas.{weekday_number-add, weekday_number_bound, days_in_month_bounds}
use Rattle.jiff.proofs.Family.{days_from_civil-day}
use Rattle.pay_dates.specs.Days.{Date, day_number}
use Rattle.pay_dates.specs.Rolls.{days_to_monday, days_to_friday, following, preceding, moved, stays_in_month}
use Rattle.pay_dates.specs.RollLaws.{IsInMonthOf}
use Rattle.pay_dates.specs.declared.roll.Rule.{Rule}
use Rattle.pay_dates.specs.declared.roll.Rule.TheVariants.{Stay, Following, Preceding, Modified}
use Rattle.pay_dates.proofs.CountLemmas.{abs_is}
use Rattle.pay_dates.proofs.DayLemmas.{same_day}

-- weekdays, where v is the weekday n days after w
monday_is : (w v : ℕ) → w < 7 → v ≡ (w + days_to_monday w) % 7 → v < 5
monday_is w v h e = grind arith

friday_is : (w v : ℕ) → v < 7 → w ≡ (v + days_to_friday w) % 7 → v < 5
friday_is w v h e = grind arith

monday_order : (w v n : ℕ) → w < 7 → v ≡ (w + n) % 7 → days_to_monday w ≤ n + days_to_monday v
monday_order w v n h e = grind arith

friday_order : (w v n : ℕ) → w < 7 → v ≡ (w + n) % 7 → days_to_friday v ≤ n + days_to_friday w
friday_order w v n h e = grind arith

past_monday : (w v n : ℕ) → w < 7 → v ≡ (w + n) % 7 → days_to_monday w ≤ n → days_to_monday w + days_to_friday v ≤ n
past_monday w v n h e k = grind arith

same_monday : (w v n : ℕ) → w < 7 → v ≡ (w + n) % 7 → n < days_to_monday w → n + days_to_monday v ≡ days_to_monday w
same_monday w v n h e k = grind arith

monday_small : (w : ℕ) → days_to_monday w ≤ 2
monday_small w = grind arith

friday_small : (w : ℕ) → days_to_friday w ≤ 2
friday_small w = grind arith

days_ahead : (a b : ℤ) → a ≤ℤ b → (n : ℕ) × (b ≡ a +ℤ pos n)
days_ahead a b h = (unsigned_abs (b -ℤ a), omega (arith, signed_arith, abs_is (b -ℤ a) (omega (arith, signed_arith))))

-- no rule that moves a day leaves it on a weekend
off_following : (z : ℤ) → weekday_number (z +ℤ pos (days_to_monday (weekday_number z))) < 5
off_following z =
    monday_is (weekday_number z) _ (weekday_number_bound z)
    (weekday_number-add z (z +ℤ pos (days_to_monday (weekday_number z))) (days_to_monday (weekday_number z)) refl)

off_preceding : (z : ℤ) → weekday_number (z -ℤ pos (days_to_friday (weekday_number z))) < 5
off_preceding z =
    let back = z -ℤ pos (days_to_friday (weekday_number z)) in
    friday_is (weekday_number z) (weekday_number back) (weekday_number_bound back)
    (weekday_number-add back z (days_to_friday (weekday_number z)) (omega (arith, signed_arith)))

either_off : (t : Bool) (a b : ℤ) → weekday_number a < 5 → weekday_number b < 5 → weekday_number (if t then a else b) < 5
either_off true a b h k = h
either_off false a b h k = k

pub off_weekends : (rule : Rule) (d : Date) → rule ≢ Stay → weekday_number (moved rule d) < 5
off_weekends Stay d h = absurd (h refl)
off_weekends Following d h = off_following (day_number d)
off_weekends Preceding d h = off_preceding (day_number d)
off_weekends Modified d h = either_off (stays_in_month d) _ _ (off_following (day_number d)) (off_preceding (day_number d))

-- the date of a month with another day
other_day : (a b : Date) (n : ℕ) → 1 ≤ n → n ≤ month_length a → day_number b +ℤ pos a.day ≡ day_number a +ℤ pos n
    → IsInMonthOf b a × (b.day ≡ n)
other_day a b n low high e =
    let there : Date = record { year = a.year; month = a.month; day = n; year_in = a.year_in; month_in = a.month_in; day_in = (low, high) } in
    let same : b ≡ there = same_day b there (omega (arith, signed_arith, e, days_from_civil-day a.year a.month a.day n a.day_in.0 low)) in
    ((ap (λ (x : Date). x.year) same, ap (λ (x : Date). x.month) same), ap (λ (x : Date). x.day) same)

stays : (d : Date) → stays_in_month d ≡ true → d.day + days_to_monday (weekday_of d) ≤ month_length d
stays d e = leb-true _ _ e

leaves : (d : Date) → stays_in_month d ≡ false → month_length d < d.day + days_to_monday (weekday_of d)
leaves d e = leb-false _ _ e

modified-stays : (d : Date) → stays_in_month d ≡ true → moved Modified d ≡ following d
modified-stays d e = rw e refl

modified-leaves : (d : Date) → stays_in_month d ≡ false → moved Modified d ≡ preceding d
modified-leaves d e = rw e refl

-- modified following keeps the month
pub keeps_month : (d to : Date) → day_number to ≡ moved Modified d → IsInMonthOf to d
keeps_month d to e = elim (cases_Bool (stays_in_month d)) [
  | inl t ↦
      let ahead = e ∙ modified-stays d t in
      (other_day d to (d.day + days_to_monday (weekday_of d)) (omega (arith, d.day_in)) (stays d t) (omega (arith, signed_arith, ahead))).0
  | inr f ↦
      let back = e ∙ modified-leaves d f in
      let late : days_to_friday (weekday_of d) < d.day =
      omega (arith, leaves d f, monday_small (weekday_of d), friday_small (weekday_of d), days_in_month_bounds d.year d.month) in
      (other_day d to (d.day - days_to_friday (weekday_of d)) (omega (arith, late)) (omega (arith, d.day_in)) (omega (arith, signed_arith, back, late))).0
]

following_order : (a b : Date) (n : ℕ) → day_number b ≡ day_number a +ℤ pos n → following a ≤ℤ following b
following_order a b n e =
    let week = weekday_number-add (day_number a) (day_number b) n e in
    omega (arith, signed_arith, e, monday_order (weekday_of a) (weekday_of b) n (weekday_number_bound (day_number a)) week)

preceding_order : (a b : Date) (n : ℕ) → day_number b ≡ day_number a +ℤ pos n → preceding a ≤ℤ preceding b
preceding_order a b n e =
    let week = weekday_number-add (day_number a) (day_number b) n e in
    omega (arith, signed_arith, e, friday_order (weekday_of a) (weekday_of b) n (weekday_number_bound (day_number a)) week)

-- where the first day moves forward within its month and the second one back, a Friday lies between them
between : (a b : Date) (n : ℕ) → day_number b ≡ day_number a +ℤ pos n → stays_in_month a ≡ true → stays_in_month b ≡ false → following a ≤ℤ preceding b
between a b n e t f =
    let week = weekday_number-add (day_number a) (day_number b) n e in
    let bound = weekday_number_bound (day_number a) in
    elim (cases_lt n (days_to_monday (weekday_of a))) [
      | inl lt ↦
          let same = same_monday (weekday_of a) (weekday_of b) n bound week lt in
          let room = stays a t in
          let there = other_day a b (a.day + n) (omega (arith, a.day_in)) (omega (arith, room, lt)) (omega (arith, signed_arith, e)) in
          let long : month_length b ≡ month_length a = rw (there.0.0, there.0.1) refl in
          absurd (omega (arith, leaves b f, there.1, long, room, same))
      | inr ge ↦ omega (arith, signed_arith, e, past_monday (weekday_of a) (weekday_of b) n bound week ge)
    ]

preceding_is_back : (d : Date) → preceding d ≤ℤ day_number d
preceding_is_back d = omega (arith, signed_arith)

following_is_ahead : (d : Date) → day_number d ≤ℤ following d
following_is_ahead d = omega (arith, signed_arith)

modified_order : (a b : Date) (n : ℕ) (s t : Bool) → day_number b ≡ day_number a +ℤ pos n → stays_in_month a ≡ s → stays_in_month b ≡ t
    → moved Modified a ≤ℤ moved Modified b
modified_order a b n true true e h k = rw (modified-stays a h, modified-stays b k) (following_order a b n e)
modified_order a b n true false e h k = rw (modified-stays a h, modified-leaves b k) (between a b n e h k)
modified_order a b n false true e h k =
    rw (modified-leaves a h, modified-stays b k) (omega (arith, signed_arith, e, preceding_is_back a, following_is_ahead b))
modified_order a b n false false e h k = rw (modified-leaves a h, modified-leaves b k) (preceding_order a b n e)

-- a rule keeps the order of days
pub moved_order : (rule : Rule) (a b : Date) → day_number a ≤ℤ day_number b → moved rule a ≤ℤ moved rule b
moved_order Stay a b h = h
moved_order Following a b h = let n = days_ahead _ _ h in following_order a b n.0 n.1
moved_order Preceding a b h = let n = days_ahead _ _ h in preceding_order a b n.0 n.1
moved_order Modified a b h = let n = days_ahead _ _ h in modified_order a b n.0 _ _ n.1 refl refl
