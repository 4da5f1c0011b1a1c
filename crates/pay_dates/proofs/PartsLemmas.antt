-- What the test of a day's numbers says.
use Rattle.std.proofs.Common.{◌≡◌, ℕ, ◌≤◌, pos, true, arith}
use Rattle.std.proofs.lemmas.Bool.Decides.{nat_tests}
use Rattle.std.specs.Int.{IsInRange}
use Rattle.jiff_core.specs.Calendar.{days_in_month}
use Rattle.jiff_core.proofs.SignedLemmas.{signed_arith}
use Rattle.pay_dates.specs.Parts.{IsDayOf, is_day_of, month_in, day_in_month}

pub year_low : (y m d : ℕ) → is_day_of y m d ≡ true → 1900 ≤ y
year_low y m d e = grind (arith, nat_tests)

pub year_high : (y m d : ℕ) → is_day_of y m d ≡ true → y ≤ 2199
year_high y m d e = grind (arith, nat_tests)

-- numbers within these bounds pass the test
pub is_day_of-parts : (y m d : ℕ) → 1900 ≤ y → y ≤ 2199 → IsInRange 1 12 m → IsInRange 1 (days_in_month (pos y) m) d → is_day_of y m d ≡ true
is_day_of-parts y m d low high month day = grind (arith, nat_tests)

-- numbers that pass the test are a day
pub IsDayOf-test : (y m d : ℕ) → is_day_of y m d ≡ true → IsDayOf y m d
IsDayOf-test y m d e =
    let low = year_low y m d e in
    let high = year_high y m d e in
    let month = month_in y m d e in
    let day = day_in_month y m d e in
    omega (arith, signed_arith)

-- and the numbers of a day pass it
pub is_day_of-true : (y m d : ℕ) → IsDayOf y m d → is_day_of y m d ≡ true
is_day_of-true y m d h = is_day_of-parts y m d (omega (arith, signed_arith)) (omega (arith, signed_arith)) (omega (arith, signed_arith)) (omega (arith, signed_arith))
