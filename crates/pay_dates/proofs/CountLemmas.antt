-- Days counted from 1 January 1900: the day with a number has that number.
use Rattle.std.proofs.Common.{◌≡◌, ℕ, zero, suc, ◌+◌, ◌≤◌, Bool, true, false, inl, inr, ℤ, pos, negsuc, neg_ℤ, ◌+ℤ◌, ◌<ℤ◌, ◌≤ℤ◌, Option, Some, None, refl, sym, ◌∙◌, arith, unsigned_abs}
use Rattle.std.specs.Prelude.{is_some}
use Rattle.std.proofs.lemmas.Bool.{cases_Bool, cases_lt, false≢true}
use Rattle.jiff_core.specs.Calendar.{days_in_month}
use Rattle.jiff_core.proofs.SignedLemmas.{signed_arith}
use Rattle.jiff_core.proofs.CalendarLemmas.{days_in_month_bounds}
use Rattle.pay_dates.specs.Days.{Date, IsDay, IsNumberOfRange, day_number, day_of, day_if, is_day_of}
use Rattle.pay_dates.specs.Rolls.{next_day, days_after_first, day_numbered}
use Rattle.pay_dates.proofs.DayLemmas.{same_day, year_of, day_of-is, day_of-none, next_is_one_more, day_number-range}
use Rattle.pay_dates.proofs.PartsLemmas.{is_day_of-parts, year_low, year_high}
use Rattle.pay_dates.proofs.StepLemmas.{first_number, last_number}

day_if-made : (y m d : ℕ) (test : Bool) (e : is_day_of y m d ≡ test) → test ≡ true → is_some (day_if y m d test e) ≡ true
day_if-made y m d true e h = refl
day_if-made y m d false e h = absurd (false≢true h)

day_of-made : (y m d : ℕ) → is_day_of y m d ≡ true → is_some (day_of y m d) ≡ true
unfolding day_of
day_of-made y m d h = day_if-made y m d (is_day_of y m d) refl h

some_is : (o : Option Date) → is_some o ≡ true → (a : Date) × (o ≡ Some a)
some_is (Some a) h = (a, refl)
some_is None h = absurd (false≢true h)

-- where the calendar has the day with these numbers, it is this one
found : (y m d : ℕ) → is_day_of y m d ≡ true → (a : Date) × ((day_of y m d ≡ Some a) × (a.year ≡ pos y) × (a.month ≡ m) × (a.day ≡ d))
found y m d h =
    let s = some_is (day_of y m d) (day_of-made y m d h) in
    let parts = day_of-is y m d s.0 s.1 in
    (s.0, (s.1, parts.1, parts.2, parts.3))

day_of_parts : (y m d : ℕ) (a : Date) → is_day_of y m d ≡ true → a.year ≡ pos y → IsDay a
day_of_parts y m d a h e =
    let low = year_low y m d h in
    let high = year_high y m d h in
    rw e (omega (arith, signed_arith), omega (arith, signed_arith))

-- the parts of the day after
next_parts : (d : Date) (y : ℕ) → d.year ≡ pos y → 1900 ≤ y → y ≤ 2199 → day_number d <ℤ pos 84_005
    → (day_number (next_day d) ≡ day_number d +ℤ pos 1) × IsDay (next_day d)
unfolding next_day
next_parts d y e low high before =
    let abs : unsigned_abs d.year ≡ y = rw e refl in
    let inside = rw e at d.day_in in
    let month = d.month_in in
    elim (cases_Bool (is_day_of y d.month (d.day + 1))) [
      | inl t ↦
          let a = found y d.month (d.day + 1) t in
          rw (abs, a.1.0) (
            next_is_one_more d a.0 (inl (a.1.1 ∙ sym e, a.1.2, a.1.3)),
            day_of_parts y d.month (d.day + 1) a.0 t a.1.1,
          )
      | inr f ↦
          let long : d.day ≡ days_in_month (pos y) d.month = elim (cases_lt d.day (days_in_month (pos y) d.month)) [
            | inl lt ↦ absurd (false≢true (sym f ∙ is_day_of-parts y d.month (d.day + 1) low high month (omega arith, omega arith)))
            | inr ge ↦ omega (arith, inside)
          ] in
          let full : d.day ≡ days_in_month d.year d.month = rw e long in
          elim (cases_Bool (is_day_of y (d.month + 1) 1)) [
            | inl t ↦
                let a = found y (d.month + 1) 1 t in
                rw (abs, day_of-none y d.month (d.day + 1) f, a.1.0) (
                  next_is_one_more d a.0 (inr (inl (a.1.1 ∙ sym e, a.1.2, a.1.3, full))),
                  day_of_parts y (d.month + 1) 1 a.0 t a.1.1,
                )
            | inr g ↦
                let last : d.month ≡ 12 = elim (cases_lt d.month 12) [
                  | inl lt ↦ absurd (false≢true (sym g ∙ is_day_of-parts y (d.month + 1) 1 low high (omega arith, omega arith) (omega arith, omega (arith, days_in_month_bounds (pos y) (d.month + 1)))))
                  | inr ge ↦ omega arith
                ] in
                let end : d.day ≡ 31 = long ∙ rw last refl in
                elim (cases_Bool (is_day_of (y + 1) 1 1)) [
                  | inl t ↦
                      let a = found (y + 1) 1 1 t in
                      rw (abs, day_of-none y d.month (d.day + 1) f, day_of-none y (d.month + 1) 1 g, a.1.0) (
                        next_is_one_more d a.0 (inr (inr (a.1.1 ∙ rw e (omega (arith, signed_arith)), last, end, a.1.2, a.1.3))),
                        day_of_parts (y + 1) 1 1 a.0 t a.1.1,
                      )
                  | inr k ↦
                      let there : y ≡ 2199 = elim (cases_lt y 2199) [
                        | inl lt ↦ absurd (false≢true (sym k ∙ is_day_of-parts (y + 1) 1 1 (omega arith) (omega arith) (omega arith, omega arith) (omega arith, omega (arith, days_in_month_bounds (pos (y + 1)) 1))))
                        | inr ge ↦ omega arith
                      ] in
                      let same : day_number d ≡ pos 84_005 = rw (e, there, last, end) last_number in
                      absurd (omega (arith, signed_arith, same, before))
                ]
          ]
    ]

-- the day after has the next number
pub next_day-number : (d : Date) → IsDay d → day_number d <ℤ pos 84_005 → (day_number (next_day d) ≡ day_number d +ℤ pos 1) × IsDay (next_day d)
next_day-number d h before =
    let y = year_of d h in
    next_parts d y.0 y.1.0 y.1.1 y.1.2 before

-- the day n days after the first
after_first : (n : ℕ) → n ≤ 109_572 → (day_number (days_after_first n) ≡ neg_ℤ (pos 25_567) +ℤ pos n) × IsDay (days_after_first n)
unfolding days_after_first
after_first zero h = (first_number, (omega (arith, signed_arith), omega (arith, signed_arith)))
after_first (suc n) h =
    let so_far = after_first n (omega arith) in
    let next = next_day-number (days_after_first n) so_far.1 (omega (arith, signed_arith, so_far.0)) in
    (omega (arith, signed_arith, next.0, so_far.0), next.1)

pub abs_is : (z : ℤ) → pos 0 ≤ℤ z → pos (unsigned_abs z) ≡ z
abs_is (pos n) h = refl
abs_is (negsuc n) h = absurd (omega (arith, signed_arith, h))

-- the day with a number has that number
pub day_numbered-number : (z : ℤ) → IsNumberOfRange z → (day_number (day_numbered z) ≡ z) × IsDay (day_numbered z)
unfolding day_numbered
day_numbered-number z h =
    let same = abs_is (z +ℤ pos 25_567) (omega (arith, signed_arith)) in
    let n = after_first (unsigned_abs (z +ℤ pos 25_567)) (omega (arith, signed_arith, same)) in
    (omega (arith, signed_arith, n.0, same), n.1)

-- and a day is the day with its number
pub day_numbered-day : (d : Date) → IsDay d → day_numbered (day_number d) ≡ d
day_numbered-day d h = same_day (day_numbered (day_number d)) d (day_numbered-number (day_number d) (day_number-range d h)).0
