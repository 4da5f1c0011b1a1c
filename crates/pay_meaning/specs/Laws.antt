-- Laws that show that the definitions are the ones meant.
use Rattle.std.specs.Prelude.{◌≡◌, ℕ, true, false, List, [], ◌∷◌, ◌++◌, Some, None, ℤ, ◌≤ℤ◌, ◌<ℤ◌, Result, Ok, Err, IfOk, if◌then◌else◌}
use Rattle.std.specs.Bool.{Decides}
use Rattle.pay_dates.specs.declared.day.Day.{Day}
use Rattle.pay_meaning.specs.Language.{Event, Body, Statement, choose, and_then, Comparison, less, at_most, greater, at_least, equals, differs}
use Rattle.pay_meaning.specs.Language.{Number, Note, Condition, compare, negation, conjunction, disjunction}
use Rattle.pay_meaning.specs.Parts.{as_variable, body_parts, names_in}
use Rattle.pay_meaning.specs.declared.fault.FaultKind.{FaultKind}
use Rattle.pay_meaning.specs.Meaning.{Variables, Fixings, fixing_at, Payment, Meaning, End, finished, faulted, meaning_by, EventRun, after_earlier}
use Rattle.pay_meaning.specs.Meaning.{Past, Cells, is_past, fixings_in, fixings_of}
use Rattle.pay_meaning.specs.Meaning.{Moment, Effect, effect, lookup, value, compared, truth, effect_of, followed_by}
use Rattle.pay_meaning.specs.Events.{number_of, events_at, in_order, shared_date, IsEarliestShared, IsShared}

-- a meaning, and then the rest from its last variables; what faulted has no rest
abbrev pub and_from_end : List Payment → End → (Variables → Meaning) → Meaning
and_from_end payments (finished variables) rest = after_earlier payments (rest variables)
and_from_end payments (faulted date fault) rest = record { payments = payments; end = faulted date fault }

-- the meaning of a list of events is that of its front, and then that of the rest from the front's last variables, however one event runs
abbrev pub MeaningOfParts : Type 0
MeaningOfParts = (run : EventRun) (front rest : List Event) (variables : Variables) (fixings : Fixings) →
    meaning_by run (front ++ rest) variables fixings
    ≡ and_from_end (meaning_by run front variables fixings).payments (meaning_by run front variables fixings).end (λ after. meaning_by run rest after fixings)

-- two lists of fixings have the same at each event's date
abbrev pub AgreeOn : List Event → Fixings → Fixings → Type 0
AgreeOn [] a b = Unit {0}
AgreeOn (event ∷ rest) a b = (fixing_at a event.date ≡ fixing_at b event.date) × AgreeOn rest a b

-- a meaning reads the fixings at its events' dates alone, however one event runs
abbrev pub MeaningReadsOwnDates : Type 0
MeaningReadsOwnDates = (run : EventRun) (events : List Event) (variables : Variables) (a b : Fixings) → AgreeOn events a b
    → meaning_by run events variables a ≡ meaning_by run events variables b

-- The fixing of a run at a date that isn't after the as-of date is the past one, and there is none where the past has none, whatever the row has;
-- at each later date it is the row's, whatever the past has.
abbrev pub FixingIsPastOrTheRows : Type 0
FixingIsPastOrTheRows = (past : Past) (row : Cells) (date : Day) →
    fixing_at (fixings_of (Some past) row) date
    ≡ (if is_past past.asof date then fixing_at (fixings_in past.cells) date else fixing_at (fixings_in row) date)

-- two maps of variables have the same value for each of these names
abbrev pub AgreeAt : List (List ℕ) → Variables → Variables → Type 0
AgreeAt [] a b = Unit {0}
AgreeAt (name ∷ rest) a b = (lookup a name ≡ lookup b name) × AgreeAt rest a b

-- two effects are alike: they are the same fault; or their payments are the same, and their variables have the same values for these names
abbrev pub AreAlike : List (List ℕ) → Result Effect FaultKind → Result Effect FaultKind → Type 0
AreAlike names (Err fault) (Err other) = fault ≡ other
AreAlike names (Ok effect) (Ok other) = (effect.payments ≡ other.payments) × AgreeAt names effect.variables other.variables
AreAlike names (Err fault) (Ok other) = ⊥
AreAlike names (Ok effect) (Err other) = ⊥

-- a name is none of these
abbrev pub IsNoneOf : List (List ℕ) → List ℕ → Type 0
IsNoneOf [] name = Unit {0}
IsNoneOf (first ∷ rest) name = ¬ (first ≡ name) × IsNoneOf rest name

-- the variables that statements name
abbrev pub variables_in : Body → List (List ℕ)
variables_in body = names_in as_variable (body_parts body)

-- an effect reads no more than its moment and the variables that its statements name, and changes no others
pub record EffectReadsOwnVariables : Type 0 where
  pub reads : (body : Body) (a b : Variables) (at : Moment) → AgreeAt (variables_in body) a b
      → AreAlike (variables_in body) (effect body a at) (effect body b at)
  pub others : (body : Body) (variables : Variables) (at : Moment) (name : List ℕ) → IsNoneOf (variables_in body) name
      → IfOk (effect body variables at) (λ after. lookup after.variables name ≡ lookup variables name)

-- what a comparison says of two raws
abbrev pub Says : Comparison → ℤ → ℤ → Type 0
Says less a b = a <ℤ b
Says at_most a b = a ≤ℤ b
Says greater a b = b <ℤ a
Says at_least a b = b ≤ℤ a
Says equals a b = a ≡ b
Says differs a b = ¬ (a ≡ b)

-- a comparison is true of two raws exactly where what it says holds
abbrev pub ComparisonIsTrueWhereItHolds : Type 0
ComparisonIsTrueWhereItHolds = (op : Comparison) (a b : ℤ) → Decides (compared op a b) (Says op a b)

-- `and` and `or` skip the right side, whatever fault it has, where the left one settles them, and else have its truth or fault; a fault of the
-- left side comes first, in a comparison too; and `not` of one of them is the other one of the two sides under `not`, with the same fault
pub record TruthOfSides : Type 0 where
  pub and_skips : (left right : Condition) (variables : Variables) (at : Moment)
      → truth left variables at ≡ Ok false → truth (conjunction left right) variables at ≡ Ok false
  pub and_goes_on : (left right : Condition) (variables : Variables) (at : Moment)
      → truth left variables at ≡ Ok true → truth (conjunction left right) variables at ≡ truth right variables at
  pub or_skips : (left right : Condition) (variables : Variables) (at : Moment)
      → truth left variables at ≡ Ok true → truth (disjunction left right) variables at ≡ Ok true
  pub or_goes_on : (left right : Condition) (variables : Variables) (at : Moment)
      → truth left variables at ≡ Ok false → truth (disjunction left right) variables at ≡ truth right variables at
  pub and_faults : (left right : Condition) (variables : Variables) (at : Moment) (fault : FaultKind)
      → truth left variables at ≡ Err fault → truth (conjunction left right) variables at ≡ Err fault
  pub or_faults : (left right : Condition) (variables : Variables) (at : Moment) (fault : FaultKind)
      → truth left variables at ≡ Err fault → truth (disjunction left right) variables at ≡ Err fault
  pub comparison_faults : (op : Comparison) (left right : Number) (note : Note) (variables : Variables) (at : Moment) (fault : FaultKind)
      → value left variables at ≡ Err fault → truth (compare op left right note) variables at ≡ Err fault
  pub not_and : (left right : Condition) (variables : Variables) (at : Moment)
      → truth (negation (conjunction left right)) variables at ≡ truth (disjunction (negation left) (negation right)) variables at
  pub not_or : (left right : Condition) (variables : Variables) (at : Moment)
      → truth (negation (disjunction left right)) variables at ≡ truth (conjunction (negation left) (negation right)) variables at
  pub not_not : (side : Condition) (variables : Variables) (at : Moment) → truth (negation (negation side)) variables at ≡ truth side variables at

-- an `if` is the branch that its condition chooses, and the other branch does not matter; a condition that faults is the fault of the `if`
pub record ChoiceIsOneBranch : Type 0 where
  pub chosen_yes : (condition : Condition) (yes_part no_part : Body) (variables : Variables) (at : Moment)
      → truth condition variables at ≡ Ok true → effect_of (choose condition yes_part no_part) variables at ≡ effect yes_part variables at
  pub chosen_no : (condition : Condition) (yes_part no_part : Body) (variables : Variables) (at : Moment)
      → truth condition variables at ≡ Ok false → effect_of (choose condition yes_part no_part) variables at ≡ effect no_part variables at
  pub neither : (condition : Condition) (yes_part no_part : Body) (variables : Variables) (at : Moment) (fault : FaultKind)
      → truth condition variables at ≡ Err fault → effect_of (choose condition yes_part no_part) variables at ≡ Err fault

-- one statement more after others follows from the variables that they leave
abbrev pub LastStatementFollows : Type 0
LastStatementFollows = (body : Body) (last : Statement) (variables : Variables) (at : Moment)
    → effect (and_then body last) variables at ≡ followed_by (effect body variables at) (λ after. effect_of last after at)

-- each of these events is on the date of this number or a later one
abbrev pub AreFrom : ℤ → List Event → Type 0
AreFrom number [] = Unit {0}
AreFrom number (event ∷ rest) = (number ≤ℤ number_of event) × AreFrom number rest

-- no event is later than one after it
abbrev pub IsRising : List Event → Type 0
IsRising [] = Unit {0}
IsRising (event ∷ rest) = AreFrom (number_of event) rest × IsRising rest

-- events in order rise, and at each date they are those of the list, in its order
pub record IsOrdered (events ordered : List Event) : Type 0 where
  pub rising : IsRising ordered
  pub same : (number : ℤ) → events_at number ordered ≡ events_at number events

-- `in_order` puts events in order, and there is one such order
pub record OrderIsUnique : Type 0 where
  pub ordered : (events : List Event) → IsOrdered events (in_order events)
  pub unique : (events ordered : List Event) → IsOrdered events ordered → ordered ≡ in_order events

-- the date that is found is the earliest that two events share, and where none is found none is shared
pub record SharedDateIsEarliest : Type 0 where
  pub found : (events : List Event) (date : Day) → shared_date (in_order events) ≡ Some date → IsEarliestShared events date
  pub none : (events : List Event) → shared_date (in_order events) ≡ None → (number : ℤ) → ¬ IsShared number events
