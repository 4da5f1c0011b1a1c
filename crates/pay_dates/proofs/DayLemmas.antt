-- Lemmas on the texts and numbers of days, for the crates above too.
use Rattle.std.proofs.Common.{◌≡◌, ℕ, ◌+◌, ◌-◌, ◌*◌, ◌/◌, ◌%◌, ◌<◌, ◌≤◌, ℤ, pos, negsuc, neg_ℤ, ◌+ℤ◌, ◌≤ℤ◌, Bool, true, false, List, [], ◌∷◌}
use Rattle.std.proofs.Common.{length, slice_index, Option, Some, None, refl, sym, ap, ◌∙◌, arith, ◌&&◌, drop, ◌⊎◌, inl, inr, eqb-true}
use Rattle.std.specs.Prelude.{IsSome, IfSome, ◌↔◌}
use Rattle.std.proofs.lemmas.Bool.{cases_Bool, false≢true, and_parts}
use Rattle.std.proofs.lemmas.Option.{same_Some}
use Rattle.std.proofs.lemmas.Bool.Decides.{nat_tests}
use Rattle.jiff_core.proofs.SignedLemmas.{signed_arith}
use Rattle.jiff_core.specs.Calendar.{IsCivilDate, day_count, days_from_civil}
use Rattle.jiff_core.proofs.CalendarLemmas.{days_in_month_bounds, day_count-epoch, days_from_civil-day_count, day_count-lt_year}
use Rattle.jiff_core.proofs.CalendarLemmas.{day_count-later_year, day_count-day_of_year}
use Rattle.jiff_core.proofs.MarchLemmas.{day_count-early}
use Rattle.std.proofs.lemmas.Int.{by_lt_z}
use Rattle.jiff.proofs.Family.{same_date, epoch_day_same, epoch_day-lt, days_from_civil-day, days_from_civil-next_month, days_from_civil-next_year}
use Rattle.pay_dates.specs.Days.{Date, IsDay, IsNumberOfRange, day_text, day_number, day_in, day_of, day_if, is_day_of, IsDayOf, has_form, two_at}
use Rattle.pay_dates.specs.Days.{year_at, IsYearOfRange}
use Rattle.std.specs.List.{All, AllByRecursion as ByRecursion}
use Rattle.std.proofs.lemmas.List.Elements.{All-same, All-from_recursion}
use Rattle.pay_dates.specs.Parts.{is_digit, in_range}
use Rattle.std.proofs.Math.Seq.{drop-cons, drop-length}
use Rattle.pay_dates.specs.Laws.{TextHasTenBytes, TextReadsBack, ReadingIsText, NumberNamesDay, EarlierIsSmaller, EpochIsZero, IsNextOfMonth}
use Rattle.pay_dates.specs.Laws.{BeginsNextMonth, BeginsNextYear, NextIsOneMore}
use Rattle.pay_dates.proofs.PartsLemmas.{is_day_of-true, IsDayOf-test, is_day_of-parts, year_low, year_high}

-- dates with one number are one date
pub same_day : NumberNamesDay
same_day a b e = same_date a b e

-- dates with the same parts are one date
pub same_parts : (a b : Date) → a.year ≡ b.year → a.month ≡ b.month → a.day ≡ b.day → a ≡ b
same_parts a b y m d = same_date a b (epoch_day_same a b y m d)

-- the numbers of the range: 1900-01-01 to 2199-12-31
pub day_number-range : (d : Date) → IsDay d → IsNumberOfRange (day_number d)
day_number-range d h =
    let civil : IsCivilDate d.year d.month d.day = (d.year_in, d.month_in, d.day_in) in
    let first : day_count (pos 1900) 1 1 ≡ 4_346_386 = day_count-early (pos 1900) 11899 1 1 refl (omega arith) (omega arith) (omega arith) in
    let past : day_count (pos 2200) 1 1 ≡ 4_455_959 = day_count-early (pos 2200) 12199 1 1 refl (omega arith) (omega arith) (omega arith) in
    let before : day_count d.year d.month d.day < day_count (pos 2200) 1 1 = day_count-lt_year d.year d.month d.day (pos 2200) 1 1 civil (omega arith) (omega (arith, signed_arith)) in
    let after = day_count-day_of_year d.year d.month d.day d.day_in.0 in
    let start : 4_346_386 ≤ day_count d.year 1 1 =
    by_lt_z (pos 1900) d.year
    (λ lt. omega (arith, first, day_count-later_year (pos 1900) d.year (omega (arith, signed_arith)) lt))
    (λ le. let e : d.year ≡ pos 1900 = omega (arith, signed_arith) in rw e (omega (arith, first))) in
    omega (arith, signed_arith, days_from_civil-day_count, before, after, start, past, d.day_in)

-- an earlier date has a smaller number
pub earlier_is_smaller : EarlierIsSmaller
earlier_is_smaller a b h = epoch_day-lt a b h

-- 1 January 1970 has the number 0
pub epoch_is_zero : EpochIsZero
epoch_is_zero d year month day =
    let same : days_from_civil d.year d.month d.day ≡ days_from_civil (pos 1970) 1 1 = rw (year, month, day) in
    let zero : days_from_civil (pos 1970) 1 1 ≡ pos 0 = omega (arith, signed_arith, days_from_civil-day_count (pos 1970) 1 1, day_count-epoch) in
    same ∙ zero

next_of_month : (a b : Date) → IsNextOfMonth a b → day_number b ≡ day_number a +ℤ pos 1
next_of_month a b e =
    let here : days_from_civil b.year b.month b.day ≡ days_from_civil a.year a.month b.day = rw (e.0, e.1) in
    let step = days_from_civil-day a.year a.month a.day b.day a.day_in.0 b.day_in.0 in
    omega (arith, signed_arith, here, e.2, step)

begins_next_month : (a b : Date) → BeginsNextMonth a b → day_number b ≡ day_number a +ℤ pos 1
begins_next_month a b e =
    let here : days_from_civil b.year b.month b.day ≡ days_from_civil a.year (a.month + 1) 1 = rw (e.0, e.1, e.2) in
    here ∙ days_from_civil-next_month a.year a.month a.day a.month_in.0 e.3

begins_next_year : (a b : Date) → BeginsNextYear a b → day_number b ≡ day_number a +ℤ pos 1
begins_next_year a b e =
    let here : days_from_civil b.year b.month b.day ≡ days_from_civil b.year 1 1 = rw (e.3, e.4) in
    let there : days_from_civil a.year a.month a.day ≡ days_from_civil a.year 12 31 = rw (e.1, e.2) in
    let low : neg_ℤ (pos 10000) ≤ℤ a.year = omega (arith, signed_arith, a.year_in.0) in
    here ∙ days_from_civil-next_year a.year b.year low e.0 ∙ ap (λ z. z +ℤ pos 1) (sym there)

-- the day after a day has the next number
pub next_is_one_more : NextIsOneMore
next_is_one_more a b (inl e) = next_of_month a b e
next_is_one_more a b (inr (inl e)) = begins_next_month a b e
next_is_one_more a b (inr (inr e)) = begins_next_year a b e

day_if-some : (y m d : ℕ) (a : Date) (test : Bool) (e : is_day_of y m d ≡ test) → is_day_of y m d ≡ true → a.year ≡ pos y → a.month ≡ m → a.day ≡ d → day_if y m d test e ≡ Some a
day_if-some y m d a true e h year month day = ap (λ (x : Date). Some x) (same_parts _ a (sym year) (sym month) (sym day))
day_if-some y m d a false e h year month day = absurd (false≢true (sym e ∙ h))

day_if-none : (y m d : ℕ) (test : Bool) (e : is_day_of y m d ≡ test) → is_day_of y m d ≡ false → day_if y m d test e ≡ None
day_if-none y m d false e h = refl
day_if-none y m d true e h = absurd (false≢true (sym h ∙ e))

day_if-is : (y m d : ℕ) (a : Date) (test : Bool) (e : is_day_of y m d ≡ test) → day_if y m d test e ≡ Some a → (is_day_of y m d ≡ true) × (a.year ≡ pos y) × (a.month ≡ m) × (a.day ≡ d)
day_if-is y m d a true e h =
    let same = sym (same_Some _ _ h) in
    (e, ap (λ (x : Date). x.year) same, ap (λ (x : Date). x.month) same, ap (λ (x : Date). x.day) same)
day_if-is y m d a false e h = cc

-- the day with these numbers is the date that has them
pub day_of-some : (y m d : ℕ) (a : Date) → is_day_of y m d ≡ true → a.year ≡ pos y → a.month ≡ m → a.day ≡ d → day_of y m d ≡ Some a
unfolding day_of
day_of-some y m d a h year month day = day_if-some y m d a (is_day_of y m d) refl h year month day

-- and there is none where the test fails
pub day_of-none : (y m d : ℕ) → is_day_of y m d ≡ false → day_of y m d ≡ None
unfolding day_of
day_of-none y m d h = day_if-none y m d (is_day_of y m d) refl h

pub day_of-is : (y m d : ℕ) (a : Date) → day_of y m d ≡ Some a → (is_day_of y m d ≡ true) × (a.year ≡ pos y) × (a.month ≡ m) × (a.day ≡ d)
unfolding day_of
day_of-is y m d a h = day_if-is y m d a (is_day_of y m d) refl h

-- so it is what a call returns that finds the day with these numbers exactly where there is one
pub day_of-only : (y m d : ℕ) (r : Option Date) → (IsSome r ↔ IsDayOf y m d) → IfSome r (λ a. (a.year ≡ pos y) × (a.month ≡ m) × (a.day ≡ d)) → r ≡ day_of y m d
day_of-only y m d (Some a) s p = sym (day_of-some y m d a (is_day_of-true y m d (s.0 refl)) p.0 p.1 p.2)
day_of-only y m d None s p =
    elim (cases_Bool (is_day_of y m d)) [
      | inl day ↦ absurd (false≢true (s.1 (IsDayOf-test y m d day)))
      | inr none ↦ sym (day_of-none y m d none)
    ]

-- a text of another form is no day
pub day_in-no_form : (xs : List ℕ) → has_form xs ≡ false → day_in xs ≡ None
unfolding day_in
day_in-no_form xs h = rw h

pub day_in-form : (xs : List ℕ) → has_form xs ≡ true → day_in xs ≡ day_of (year_at xs) (two_at 5 xs) (two_at 8 xs)
unfolding day_in
day_in-form xs h = rw h

-- ten bytes for these numbers
abbrev pub spelled : ℕ → ℕ → ℕ → List ℕ
spelled y m d =
    (48 + y / 100 / 10) ∷ (48 + y / 100 % 10) ∷ (48 + y % 100 / 10) ∷ (48 + y % 100 % 10) ∷ 45
    ∷ (48 + m / 10) ∷ (48 + m % 10) ∷ 45 ∷ (48 + d / 10) ∷ (48 + d % 10) ∷ []

pub day_text-spelled : (d : Date) (y : ℕ) → d.year ≡ pos y → day_text d ≡ spelled y d.month d.day
day_text-spelled d y e = rw e refl

-- the year of a day as a natural number
year_cases : (z : ℤ) → IsYearOfRange z → (y : ℕ) × ((z ≡ pos y) × (1900 ≤ y) × (y ≤ 2199))
year_cases (pos n) h = (n, (refl, omega (arith, signed_arith, h.0), omega (arith, signed_arith, h.1)))
year_cases (negsuc n) h = absurd (omega (arith, signed_arith, h.0))

pub year_of : (d : Date) → IsDay d → (y : ℕ) × ((d.year ≡ pos y) × (1900 ≤ y) × (y ≤ 2199))
year_of d h = year_cases d.year h

has_form-spelled : (y m d : ℕ) → y < 10_000 → m < 100 → d < 100 → has_form (spelled y m d) ≡ true
has_form-spelled y m d a b c = grind (arith, nat_tests)

year_at-spelled : (y m d : ℕ) → year_at (spelled y m d) ≡ y
year_at-spelled y m d = omega arith

month_at-spelled : (y m d : ℕ) → two_at 5 (spelled y m d) ≡ m
month_at-spelled y m d = omega arith

day_at-spelled : (y m d : ℕ) → two_at 8 (spelled y m d) ≡ d
day_at-spelled y m d = omega arith

-- the text of a day has ten bytes
pub day_text-length : TextHasTenBytes
day_text-length d h =
    let y = year_of d h in
    rw (day_text-spelled d y.0 y.1.0) refl

-- the numbers of a day pass the test
pub is_day_of-day : (d : Date) (y : ℕ) → d.year ≡ pos y → 1900 ≤ y → y ≤ 2199 → is_day_of y d.month d.day ≡ true
is_day_of-day d y e low high =
    is_day_of-parts y d.month d.day low high d.month_in (rw e at d.day_in)

-- the month and the day of the month have two digits
pub two_digits : (d : Date) → (d.month < 100) × (d.day < 100)
two_digits d = (omega (arith, d.month_in), omega (arith, d.day_in, (days_in_month_bounds d.year d.month).0))

-- the text of a day reads as that day
pub day_in-day_text : TextReadsBack
day_in-day_text d h =
    let y = year_of d h in
    let small = two_digits d in
    let form = has_form-spelled y.0 d.month d.day (omega (arith, y.1.2)) small.0 small.1 in
    let test = is_day_of-day d y.0 y.1.0 y.1.1 y.1.2 in
    let found = day_of-some y.0 d.month d.day d test y.1.0 refl refl in
    let shape : day_of (year_at (spelled y.0 d.month d.day)) (two_at 5 (spelled y.0 d.month d.day)) (two_at 8 (spelled y.0 d.month d.day)) ≡ Some d =
    rw (year_at-spelled y.0 d.month d.day, month_at-spelled y.0 d.month d.day, day_at-spelled y.0 d.month d.day) found in
    rw (day_text-spelled d y.0 y.1.0) (day_in-form (spelled y.0 d.month d.day) form ∙ shape)

-- two digits and the number that they write
two_back : (a b : ℕ) → (is_digit a && is_digit b) ≡ true → (48 + (10 * (a - 48) + (b - 48)) / 10 ≡ a) × (48 + (10 * (a - 48) + (b - 48)) % 10 ≡ b) × (10 * (a - 48) + (b - 48) < 100)
two_back a b h =
    let p = and_parts _ _ h in
    let x = in_range 48 57 a p.0 in
    let y = in_range 48 57 b p.1 in
    (omega (arith, x, y), omega (arith, x, y), omega (arith, x, y))

halves : (p q : ℕ) → q < 100 → ((100 * p + q) / 100 ≡ p) × ((100 * p + q) % 100 ≡ q)
halves p q h = (omega arith, omega arith)

-- a list of ten is its ten elements
ten_elements : (xs : List ℕ) → length xs ≡ 10
    → xs ≡ slice_index xs 0 ∷ slice_index xs 1 ∷ slice_index xs 2 ∷ slice_index xs 3 ∷ slice_index xs 4 ∷ slice_index xs 5 ∷ slice_index xs 6 ∷ slice_index xs 7 ∷ slice_index xs 8 ∷ slice_index xs 9 ∷ []
ten_elements xs h =
    let s0 = drop-cons xs 0 0 (omega arith) in
    let s1 = drop-cons xs 1 0 (omega arith) in
    let s2 = drop-cons xs 2 0 (omega arith) in
    let s3 = drop-cons xs 3 0 (omega arith) in
    let s4 = drop-cons xs 4 0 (omega arith) in
    let s5 = drop-cons xs 5 0 (omega arith) in
    let s6 = drop-cons xs 6 0 (omega arith) in
    let s7 = drop-cons xs 7 0 (omega arith) in
    let s8 = drop-cons xs 8 0 (omega arith) in
    let s9 = drop-cons xs 9 0 (omega arith) in
    let none : drop (length xs) xs ≡ [] = drop-length xs in
    let end : drop 10 xs ≡ [] = rw h at none in
    cc

-- the text that its own numbers spell is the text
pub spelled-form : (xs : List ℕ) → has_form xs ≡ true → spelled (year_at xs) (two_at 5 xs) (two_at 8 xs) ≡ xs
spelled-form xs h =
    let p8 = and_parts _ _ h in
    let p7 = and_parts _ _ p8.0 in
    let p5 = and_parts _ _ p7.0 in
    let p4 = and_parts _ _ p5.0 in
    let p2 = and_parts _ _ p4.0 in
    let p0 = and_parts _ _ p2.0 in
    let ten : length xs ≡ 10 = eqb-true (length xs) 10 p0.0 in
    let a = two_back (slice_index xs 0) (slice_index xs 1) p0.1 in
    let b = two_back (slice_index xs 2) (slice_index xs 3) p2.1 in
    let c = two_back (slice_index xs 5) (slice_index xs 6) p5.1 in
    let d = two_back (slice_index xs 8) (slice_index xs 9) p8.1 in
    let dash : slice_index xs 4 ≡ 45 = eqb-true (slice_index xs 4) 45 p4.1 in
    let dash_too : slice_index xs 7 ≡ 45 = eqb-true (slice_index xs 7) 45 p7.1 in
    let y = halves (two_at 0 xs) (two_at 2 xs) b.2 in
    let e = ten_elements xs ten in
    rw (y.0, y.1, a.0, a.1, b.0, b.1, c.0, c.1, d.0, d.1) (rw (dash, dash_too) at (sym e))

-- what reads as a day is that day's text
pub day_text-day_in : ReadingIsText
day_text-day_in xs d e =
    elim (cases_Bool (has_form xs)) [
      | inr other ↦ let none = day_in-no_form xs other in cc
      | inl form ↦
          let found = day_of-is (year_at xs) (two_at 5 xs) (two_at 8 xs) d (sym (day_in-form xs form) ∙ e) in
          let low : 1900 ≤ year_at xs = year_low (year_at xs) (two_at 5 xs) (two_at 8 xs) found.0 in
          let high : year_at xs ≤ 2199 = year_high (year_at xs) (two_at 5 xs) (two_at 8 xs) found.0 in
          let year : IsYearOfRange (pos (year_at xs)) = (omega (arith, signed_arith), omega (arith, signed_arith)) in
          (rw found.1 year, day_text-spelled d (year_at xs) found.1 ∙ rw (found.2, found.3) (spelled-form xs form))
    ]

-- a byte that the text of a day may have: a `-` or a digit
abbrev pub IsDayByte : ℕ → Type 0
IsDayByte b = (b ≡ 45) ⊎ ((48 ≤ b) × (b ≤ 57))

-- each byte of the text is one
bytes-spelled : (y m d : ℕ) → y < 10_000 → m < 100 → d < 100 → ByRecursion IsDayByte (spelled y m d)
bytes-spelled y m d a b c =
    (inr (omega arith, omega arith), (inr (omega arith, omega arith), (inr (omega arith, omega arith), (inr (omega arith, omega arith), (inl refl, (inr (omega arith, omega arith), (inr (omega arith, omega arith), (inl refl, (inr (omega arith, omega arith), (inr (omega arith, omega arith), tt))))))))))

pub day_text-bytes : (d : Date) → IsDay d → All IsDayByte (day_text d)
day_text-bytes d h =
    let y = year_of d h in
    let small = two_digits d in
    All-same IsDayByte (day_text d) (spelled y.0 d.month d.day) (day_text-spelled d y.0 y.1.0)
    (All-from_recursion IsDayByte (spelled y.0 d.month d.day) (bytes-spelled y.0 d.month d.day (omega (arith, y.1.2)) small.0 small.1))
