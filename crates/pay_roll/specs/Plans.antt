-- Events whose statements are not copied yet, and why there are none.
use Rattle.std.specs.Prelude.{◌≡◌, ℤ, ◌<◌, List, length}
use Rattle.pay_dates.specs.Days.{day_number}
use Rattle.pay_meaning.specs.Language.{Event}
use Rattle.pay_meaning.specs.Events.{rolled_event}
use Rattle.pay_tree.specs.Views.{body}
use Rattle.pay_roll.specs.declared.plan.PlannedEvent.{PlannedEvent}
use Rattle.pay_roll.specs.declared.refusal.RollRefusal.{RollRefusal}
use Rattle.pay_roll.specs.declared.refusal.RollRefusal.TheVariants.{BadSchedule, SameDate, TooMany, NoMemory}
use Rattle.pay_roll.specs.declared.refusal.What.TheVariants.{Events}

-- the event that a planned event is
abbrev pub planned : PlannedEvent → Event
planned event = rolled_event (body event.body.now) event.roll

-- the number of a planned event's date
abbrev pub date_number : PlannedEvent → ℤ
date_number event = day_number event.roll.date

-- why these events are not planned: there are more than 4,096 of them, or there was no memory
abbrev pub IsPlanRefusal : List Event → RollRefusal → Type 0
IsPlanRefusal events (BadSchedule item) = ⊥
IsPlanRefusal events (SameDate date) = ⊥
IsPlanRefusal events (TooMany what limit) = (what ≡ Events) × (limit ≡ 4096) × (4096 < length events)
IsPlanRefusal events NoMemory = Unit {0}
