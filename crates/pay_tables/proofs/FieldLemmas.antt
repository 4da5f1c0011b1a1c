-- What a field of another length than a date's says.
use Rattle.std.proofs.Common.{◌≢◌, ◌≡◌, ℕ, List, length, Option, Some, None, refl, sym, ap, ◌∙◌}
use Rattle.pay_dates.specs.Days.{day_in}
use Rattle.pay_dates.specs.declared.day.Day.{Day}
use Rattle.pay_dates.proofs.DayLemmas.{day_text-day_in, day_text-length}

-- a text of another length than ten is no day
pub day_in-other : (text : List ℕ) → length text ≢ 10 → day_in text ≡ None
day_in-other text other = at (day_in text) refl
  where
    at : (read : Option Day) → day_in text ≡ read → read ≡ None
    at None is = refl
    at (Some day) is =
        let p = day_text-day_in text day is in
        absurd (other (ap length (sym p.1) ∙ day_text-length day p.0))
