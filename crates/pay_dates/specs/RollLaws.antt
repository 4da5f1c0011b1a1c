-- The law of schedules: what the rolls of `rolls_of` are, whatever the dates, the step and the rule.
use Rattle.std.specs.Prelude.{◌≡◌, ℕ, ◌<◌, ◌≢◌, ◌<ℤ◌, List, [], ◌∷◌, ⊤}
use Rattle.std.specs.List.{All}
use Rattle.jiff_core.specs.Date.{weekday_of}
use Rattle.pay_dates.specs.Days.{Date, IsDay, day_number}
use Rattle.pay_dates.specs.Rolls.{IsSchedule, day_numbered, days_between, rolls_of, unadjusted}
use Rattle.pay_dates.specs.declared.roll.Roll.{Roll}
use Rattle.pay_dates.specs.declared.roll.Rule.{Rule}
use Rattle.pay_dates.specs.declared.roll.Rule.TheVariants.{Stay, Modified}
use Rattle.pay_dates.specs.declared.roll.Unit.{Unit}

-- a schedule from one day of the range to another
abbrev pub IsSchedulable : Date → Date → ℕ → Type 0
IsSchedulable first last every = (IsDay first × IsDay last) × IsSchedule first last every

-- the date of each roll comes before the dates of all rolls after it
abbrev pub DatesRise : List Roll → Type 0
DatesRise [] = ⊤
DatesRise (roll ∷ rolls) = All (λ later. day_number roll.date <ℤ day_number later.date) rolls × DatesRise rolls

-- the dates of a schedule's rolls rise
abbrev pub RollsRise : Type 0
RollsRise =
    (first last : Date) (every : ℕ) (unit : Unit) (rule : Rule) → IsSchedulable first last every
    → DatesRise (rolls_of first last every unit rule)

-- unadjusted dates rise until they reach the last date
abbrev pub UnadjustedRise : Type 0
UnadjustedRise =
    (first last : Date) (every : ℕ) (unit : Unit) (k later : ℕ) → IsSchedulable first last every → k < later
    → unadjusted first last every unit k <ℤ day_number last
    → unadjusted first last every unit k <ℤ unadjusted first last every unit later

-- the first of them is the first date, and the one after as many periods as there are days is the last date
abbrev pub UnadjustedReachLast : Type 0
UnadjustedReachLast =
    (first last : Date) (every : ℕ) (unit : Unit) → IsSchedulable first last every
    → (unadjusted first last every unit 0 ≡ day_number first)
    × (unadjusted first last every unit (days_between first last) ≡ day_number last)

-- a rule that moves leaves no roll on a Saturday or a Sunday
abbrev pub NoWeekend : Type 0
NoWeekend =
    (first last : Date) (every : ℕ) (unit : Unit) (rule : Rule) → IsSchedulable first last every → rule ≢ Stay
    → All (λ roll. weekday_of roll.date < 5) (rolls_of first last every unit rule)

-- the first date lies in the year and the month of the second
abbrev pub IsInMonthOf : Date → Date → Type 0
IsInMonthOf a b = (a.year ≡ b.year) × (a.month ≡ b.month)

-- modified following leaves each roll in the month of its unadjusted date
abbrev pub ModifiedKeepsMonth : Type 0
ModifiedKeepsMonth =
    (first last : Date) (every : ℕ) (unit : Unit) → IsSchedulable first last every
    → All (λ roll. IsInMonthOf roll.date (day_numbered (unadjusted first last every unit roll.period)))
    (rolls_of first last every unit Modified)
