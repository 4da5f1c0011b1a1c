-- The meaning of a list in two parts, and the fixings that it reads.
use Rattle.std.proofs.Common.{◌≡◌, List, [], ◌∷◌, ◌++◌, Option, Result, Ok, Err, refl, sym, ap, ◌∙◌, append_assoc, ℤ}
use Rattle.pay_dates.specs.declared.day.Day.{Day}
use Rattle.pay_meaning.specs.declared.fault.FaultKind.{FaultKind}
use Rattle.pay_meaning.specs.Language.{Event}
use Rattle.pay_meaning.specs.Meaning.{Variables, fixing_at, Moment, moment_of, Effect, Payment, Meaning, End, finished, faulted, meaning_by}
use Rattle.pay_meaning.specs.Meaning.{event_then, after_earlier}
use Rattle.pay_meaning.specs.Laws.{and_from_end, MeaningOfParts, MeaningReadsOwnDates}

after-and : (p q : List Payment) (end : End) (rest : Variables → Meaning) → after_earlier p (and_from_end q end rest) ≡ and_from_end (p ++ q) end rest
after-and p q (finished variables) rest = ap (λ (xs : List Payment). let m : Meaning = record { payments = xs; end = (rest variables).end } in m) (sym (append_assoc p q (rest variables).payments))
after-and p q (faulted date fault) rest = refl

event-and : (date : Day) (e : Result Effect FaultKind) (whole front : Variables → Meaning) (rest : Variables → Meaning)
    → ((v : Variables) → whole v ≡ and_from_end (front v).payments (front v).end rest)
    → event_then date e whole ≡ and_from_end (event_then date e front).payments (event_then date e front).end rest
event-and date (Err fault) whole front rest same = refl
event-and date (Ok done) whole front rest same = ap (after_earlier done.payments) (same done.variables) ∙ after-and done.payments (front done.variables).payments (front done.variables).end rest

pub meaning-parts : MeaningOfParts
meaning-parts run [] rest variables fixings = refl
meaning-parts run (event ∷ front) rest variables fixings =
    event-and event.date (run event.body variables (moment_of event fixings)) (λ after. meaning_by run (front ++ rest) after fixings)
    (λ after. meaning_by run front after fixings) (λ after. meaning_by run rest after fixings) (λ after. meaning-parts run front rest after fixings)

event-same : (date : Day) (e f : Result Effect FaultKind) (a b : Variables → Meaning) → e ≡ f → ((v : Variables) → a v ≡ b v) → event_then date e a ≡ event_then date f b
event-same date e f a b same rest = ap (λ x. event_then date x a) same ∙ at f
  where
    at : (f : Result Effect FaultKind) → event_then date f a ≡ event_then date f b
    at (Err fault) = refl
    at (Ok done) = ap (after_earlier done.payments) (rest done.variables)

moment-same : (event : Event) (x y : Option ℤ) → x ≡ y → ◌≡◌ {A = Moment} (record { date = event.date; fixing = x; period = event.period; days = event.days }) (record { date = event.date; fixing = y; period = event.period; days = event.days })
moment-same event x y e = ap (λ z. let m : Moment = record { date = event.date; fixing = z; period = event.period; days = event.days } in m) e

pub meaning-own : MeaningReadsOwnDates
meaning-own run [] variables a b agree = refl
meaning-own run (event ∷ rest) variables a b agree =
    event-same event.date _ _ (λ after. meaning_by run rest after a) (λ after. meaning_by run rest after b)
    (ap (run event.body variables) (moment-same event (fixing_at a event.date) (fixing_at b event.date) agree.0)) (λ after. meaning-own run rest after a b agree.1)
