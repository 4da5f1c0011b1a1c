-- Events mean the same where `period()` and `days()` are literals in them.
use Rattle.std.proofs.Common.{◌≡◌, [], ◌∷◌, map, Result, Ok, Err, refl, ap, ◌∙◌}
use Rattle.pay_meaning.specs.declared.fault.FaultKind.{FaultKind}
use Rattle.pay_dates.specs.declared.day.Day.{Day}
use Rattle.pay_meaning.specs.Language.{Number, literal, variable, spot, period, days, negative, absolute, binary, Condition, compare, negation}
use Rattle.pay_meaning.specs.Language.{conjunction, disjunction, settled, sure, Statement, assign, pay, choose, group, Body, done, next}
use Rattle.pay_meaning.specs.Meaning.{Variables, Moment, moment_of, Effect, value, truth, effect_of, effect, followed_by, after_payments}
use Rattle.pay_meaning.specs.Meaning.{Meaning, event_then, after_earlier, meaning}
use Rattle.pay_passes.specs.Terms.{number_at, condition_at, statement_at, body_at, at_own_terms}
use Rattle.pay_passes.specs.PassLaws.{TermsKeepMeaning}

-- a number has the same value at a moment with this period and these days
number-same : (number : Number) (variables : Variables) (at : Moment) → value (number_at at.period at.days number) variables at ≡ value number variables at
number-same (literal raw) variables at = refl
number-same (variable name) variables at = refl
number-same spot variables at = refl
number-same period variables at = refl
number-same days variables at = refl
number-same (negative side) variables at = rw (number-same side variables at) refl
number-same (absolute side) variables at = rw (number-same side variables at) refl
number-same (binary op left right) variables at = rw (number-same left variables at, number-same right variables at) refl

-- a condition has the same truth
condition-same : (condition : Condition) (variables : Variables) (at : Moment)
    → truth (condition_at at.period at.days condition) variables at ≡ truth condition variables at
condition-same (compare op left right note) variables at = rw (number-same left variables at, number-same right variables at) refl
condition-same (negation side) variables at = rw (condition-same side variables at) refl
condition-same (conjunction left right) variables at = rw (condition-same left variables at, condition-same right variables at) refl
condition-same (disjunction left right) variables at = rw (condition-same left variables at, condition-same right variables at) refl
condition-same (settled answer) variables at = refl
condition-same (sure answer side) variables at = rw (condition-same side variables at) refl

-- what follows an effect is the same where it is so from any variables
follows-same : (one : Result Effect FaultKind) (rest more : Variables → Result Effect FaultKind) → ((after : Variables) → rest after ≡ more after)
    → followed_by one rest ≡ followed_by one more
follows-same (Err fault) rest more same = refl
follows-same (Ok one) rest more same = ap (after_payments one.payments) (same one.variables)

mutual
  -- a statement has the same effect
  statement-same : (statement : Statement) (variables : Variables) (at : Moment)
      → effect_of (statement_at at.period at.days statement) variables at ≡ effect_of statement variables at
  statement-same (assign name number) variables at = rw (number-same number variables at) refl
  statement-same (pay leg number) variables at = rw (number-same number variables at) refl
  statement-same (choose condition yes_part no_part) variables at =
      rw (condition-same condition variables at, body-same yes_part variables at, body-same no_part variables at) refl
  statement-same (group body) variables at = body-same body variables at

  -- and so has a body
  body-same : (body : Body) (variables : Variables) (at : Moment) → effect (body_at at.period at.days body) variables at ≡ effect body variables at
  body-same done variables at = refl
  body-same (next statement rest) variables at =
      ap (λ one. followed_by one (λ after. effect (body_at at.period at.days rest) after at)) (statement-same statement variables at)
      ∙ follows-same (effect_of statement variables at) (λ after. effect (body_at at.period at.days rest) after at) (λ after. effect rest after at)
      (λ after. body-same rest after at)

-- what follows an event is the same where it is so from any variables
event-then-same : (date : Day) (one : Result Effect FaultKind) (rest more : Variables → Meaning) → ((after : Variables) → rest after ≡ more after)
    → event_then date one rest ≡ event_then date one more
event-then-same date (Err fault) rest more same = refl
event-then-same date (Ok one) rest more same = ap (after_earlier one.payments) (same one.variables)

pub terms-keep : TermsKeepMeaning
terms-keep [] variables fixings = refl
terms-keep (event ∷ events) variables fixings =
    ap (λ one. event_then event.date one (λ after. meaning (map at_own_terms events) after fixings)) (body-same event.body variables (moment_of event fixings))
    ∙ event-then-same event.date (effect event.body variables (moment_of event fixings)) (λ after. meaning (map at_own_terms events) after fixings)
    (λ after. meaning events after fixings) (λ after. terms-keep events after fixings)
