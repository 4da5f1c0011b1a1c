-- What a script means: the payments that its events make in one scenario.
use Rattle.std.specs.Prelude.{ℕ, ◌*◌, ℤ, pos, neg_ℤ, ◌+ℤ◌, ◌-ℤ◌, int_le, int_lt, unsigned_abs, Bool, true, false, not, List, [], ◌∷◌, ◌++◌}
use Rattle.std.specs.Prelude.{Option, Some, None, Result, Ok, Err, unwrap_or}
use Rattle.std.specs.List.{filter}
use Rattle.std.specs.Ordering.{nat_cmp, int_cmp, int_eq}
use Rattle.std.specs.Cmp.Lexicographic.{slice_cmp}
use Rattle.std.specs.FinMap.{FinMap, empty, get, insert}
use Rattle.std.specs.Int.{int_min, int_max}
use Rattle.pay_fixed.specs.Round.{limited, product, quotient}
use Rattle.pay_dates.specs.Days.{day_number}
use Rattle.pay_dates.specs.declared.day.Day.{Day}
use Rattle.pay_meaning.specs.Language.{Operator, add, subtract, multiply, divide, least, greatest, Number, literal, variable, spot, period, days}
use Rattle.pay_meaning.specs.Language.{negative, absolute, binary, Comparison, less, at_most, greater, at_least, equals, differs}
use Rattle.pay_meaning.specs.Language.{Condition, compare, negation, conjunction, disjunction, settled, sure}
use Rattle.pay_meaning.specs.Language.{Statement, assign, pay, choose, group, Body, done, next, Event}
use Rattle.pay_meaning.specs.declared.fault.FaultKind.{FaultKind}
use Rattle.pay_meaning.specs.declared.fault.FaultKind.TheVariants.{Overflow, ZeroDivisor, MissingFixing}

-- the raws of the variables that were assigned, by name
abbrev pub Variables : Type 0
Variables = FinMap (slice_cmp nat_cmp) ℤ

-- the raws of the fixings that there are, by the numbers of their dates
abbrev pub Fixings : Type 0
Fixings = FinMap int_cmp ℤ

-- the value of a variable; one that was never assigned is 0
abbrev pub lookup : Variables → List ℕ → ℤ
lookup variables name = unwrap_or (get variables name) (pos 0)

-- the fixing at a date, if there is one
abbrev pub fixing_at : Fixings → Day → Option ℤ
fixing_at fixings date = get fixings (day_number date)

-- what the statements of an event can read of it: its date, the fixing there, its period and its days
pub record Moment : Type 0 where
  pub date : Day
  pub fixing : Option ℤ
  pub period : ℕ
  pub days : ℕ

abbrev pub moment_of : Event → Fixings → Moment
moment_of event fixings = record { date = event.date; fixing = fixing_at fixings event.date; period = event.period; days = event.days }

-- the raw of two raws under an operator: ZeroDivisor for a quotient by zero, else Overflow where it is beyond the limit
abbrev pub calculated : Operator → ℤ → ℤ → Result ℤ FaultKind
calculated add a b = limited Overflow (a +ℤ b)
calculated subtract a b = limited Overflow (a -ℤ b)
calculated multiply a b = product Overflow a b
calculated divide a b = quotient Overflow ZeroDivisor a b
calculated least a b = Ok (int_min a b)
calculated greatest a b = Ok (int_max a b)

-- a fixing, or the fault that it is missing
abbrev pub known : Option ℤ → Result ℤ FaultKind
known None = Err MissingFixing
known (Some raw) = Ok raw

-- the raw of a whole number: there are ten thousand to one
abbrev pub whole : ℕ → ℤ
whole n = pos (n * 10_000)

-- the fault of one side, else the answer of it
abbrev pub one : {A : Type 0} → (A → A) → Result A FaultKind → Result A FaultKind
one f (Err fault) = Err fault
one f (Ok a) = Ok (f a)

-- the left fault, else the right fault, else the answer of both
abbrev pub both : {A B : Type 0} → (A → A → Result B FaultKind) → Result A FaultKind → Result A FaultKind → Result B FaultKind
both f (Err fault) right = Err fault
both f (Ok a) (Err fault) = Err fault
both f (Ok a) (Ok b) = f a b

-- the value of a number: a raw, or the first fault from left to right
abbrev pub value : Number → Variables → Moment → Result ℤ FaultKind
value (literal raw) variables at = Ok raw
value (variable name) variables at = Ok (lookup variables name)
value spot variables at = known at.fixing
value period variables at = Ok (whole at.period)
value days variables at = Ok (whole at.days)
value (negative a) variables at = one neg_ℤ (value a variables at)
value (absolute a) variables at = one (λ raw. pos (unsigned_abs raw)) (value a variables at)
value (binary op left right) variables at = both (calculated op) (value left variables at) (value right variables at)

-- whether two raws compare so
abbrev pub compared : Comparison → ℤ → ℤ → Bool
compared less a b = int_lt a b
compared at_most a b = int_le a b
compared greater a b = int_lt b a
compared at_least a b = int_le b a
compared equals a b = int_eq a b
compared differs a b = not (int_eq a b)

-- `and`: false after a false left side, else as the right side
abbrev pub both_hold : Result Bool FaultKind → Result Bool FaultKind → Result Bool FaultKind
both_hold (Err fault) right = Err fault
both_hold (Ok true) right = right
both_hold (Ok false) right = Ok false

-- `or`: true after a true left side, else as the right side
abbrev pub either_holds : Result Bool FaultKind → Result Bool FaultKind → Result Bool FaultKind
either_holds (Err fault) right = Err fault
either_holds (Ok true) right = Ok true
either_holds (Ok false) right = right

-- the truth of a condition, or the first fault from left to right; the skipped right side of `and` or `or` has none
abbrev pub truth : Condition → Variables → Moment → Result Bool FaultKind
truth (compare op left right note) variables at = both (λ a b. Ok (compared op a b)) (value left variables at) (value right variables at)
truth (negation side) variables at = one not (truth side variables at)
truth (conjunction left right) variables at = both_hold (truth left variables at) (truth right variables at)
truth (disjunction left right) variables at = either_holds (truth left variables at) (truth right variables at)
truth (settled answer) variables at = Ok answer
truth (sure answer side) variables at = one (λ other. answer) (truth side variables at)

-- an amount that a leg is paid at a date
pub record Payment : Type 0 where
  pub date : Day
  pub leg : List ℕ
  pub amount : ℤ

-- what statements leave: the variables, and the payments in order
pub record Effect : Type 0 where
  pub variables : Variables
  pub payments : List Payment

-- a variable gets this value, unless it faulted
abbrev pub assigned : Variables → List ℕ → Result ℤ FaultKind → Result Effect FaultKind
assigned variables name (Err fault) = Err fault
assigned variables name (Ok raw) = Ok (record { variables = insert variables name raw; payments = [] })

-- a leg is paid this amount, unless it faulted
abbrev pub paid : Variables → Day → List ℕ → Result ℤ FaultKind → Result Effect FaultKind
paid variables date leg (Err fault) = Err fault
paid variables date leg (Ok raw) = Ok (record { variables = variables; payments = record { date = date; leg = leg; amount = raw } ∷ [] })

-- payments made before those of an effect
abbrev pub after_payments : List Payment → Result Effect FaultKind → Result Effect FaultKind
after_payments before (Err fault) = Err fault
after_payments before (Ok effect) = Ok (record { variables = effect.variables; payments = before ++ effect.payments })

-- an effect, and then what follows from its variables
abbrev pub followed_by : Result Effect FaultKind → (Variables → Result Effect FaultKind) → Result Effect FaultKind
followed_by (Err fault) rest = Err fault
followed_by (Ok effect) rest = after_payments effect.payments (rest effect.variables)

-- the branch that a condition chooses
abbrev pub chosen : Result Bool FaultKind → Result Effect FaultKind → Result Effect FaultKind → Result Effect FaultKind
chosen (Err fault) yes_part no_part = Err fault
chosen (Ok true) yes_part no_part = yes_part
chosen (Ok false) yes_part no_part = no_part

abbrev mutual
  -- the effect of a statement; of an `if` it is that of one branch
  pub effect_of : Statement → Variables → Moment → Result Effect FaultKind
  effect_of (assign name number) variables at = assigned variables name (value number variables at)
  effect_of (pay leg number) variables at = paid variables at.date leg (value number variables at)
  effect_of (choose condition yes_part no_part) variables at =
      chosen (truth condition variables at) (effect yes_part variables at) (effect no_part variables at)
  effect_of (group body) variables at = effect body variables at

  -- the effect of statements in order; the first fault is the fault of them all, and then there is no payment
  pub effect : Body → Variables → Moment → Result Effect FaultKind
  effect done variables at = Ok (record { variables = variables; payments = [] })
  effect (next statement rest) variables at = followed_by (effect_of statement variables at) (λ after. effect rest after at)

-- how a scenario ends: all events ran, and these are the last variables; or the event of this date faulted
pub data End : Type 0 where
  finished : Variables → End
  faulted : Day → FaultKind → End

-- the payments of a scenario in order, and how it ends
pub record Meaning : Type 0 where
  pub payments : List Payment
  pub end : End

-- payments made before those of a meaning
abbrev pub after_earlier : List Payment → Meaning → Meaning
after_earlier before m = record { payments = before ++ m.payments; end = m.end }

-- an event that faults pays nothing and ends the scenario; otherwise the rest follows from its variables
abbrev pub event_then : Day → Result Effect FaultKind → (Variables → Meaning) → Meaning
event_then date (Err fault) rest = record { payments = []; end = faulted date fault }
event_then date (Ok effect) rest = after_earlier effect.payments (rest effect.variables)

-- how the statements of one event run: what they leave, from these variables at this moment
abbrev pub EventRun : Type 0
EventRun = Body → Variables → Moment → Result Effect FaultKind

-- the meaning of events in their order, each run so, from these variables, under these fixings
abbrev pub meaning_by : EventRun → List Event → Variables → Fixings → Meaning
meaning_by run [] variables fixings = record { payments = []; end = finished variables }
meaning_by run (event ∷ rest) variables fixings =
    event_then event.date (run event.body variables (moment_of event fixings)) (λ after. meaning_by run rest after fixings)

-- the direct meaning of events in their order, from these variables, under these fixings
abbrev pub meaning : List Event → Variables → Fixings → Meaning
meaning events variables fixings = meaning_by effect events variables fixings

-- no variable was assigned yet
abbrev pub no_variables : Variables
no_variables = empty

-- cells by date: a raw, or nothing where a cell is empty
abbrev pub Cells : Type 0
Cells = List (Day × Option ℤ)

-- the fixings with one more cell; an empty one is no fixing
abbrev pub with_cell : Day → Option ℤ → Fixings → Fixings
with_cell date None fixings = fixings
with_cell date (Some raw) fixings = insert fixings (day_number date) raw

-- the fixings that cells are
abbrev pub fixings_in : Cells → Fixings
fixings_in [] = empty
fixings_in (cell ∷ rest) = with_cell cell.0 cell.1 (fixings_in rest)

-- past fixings, and the as-of date up to which a run takes them
pub record Past : Type 0 where
  pub asof : Day
  pub cells : Cells

-- a date that isn't after the as-of date
abbrev pub is_past : Day → Day → Bool
is_past asof date = int_le (day_number date) (day_number asof)

-- the fixings of a run over a row: the past ones at dates that aren't after the as-of date, and the row's after it; without a past the row's
abbrev pub fixings_of : Option Past → Cells → Fixings
fixings_of None row = fixings_in row
fixings_of (Some past) row =
    fixings_in (filter (λ cell. is_past past.asof cell.0) past.cells ++ filter (λ cell. not (is_past past.asof cell.0)) row)
