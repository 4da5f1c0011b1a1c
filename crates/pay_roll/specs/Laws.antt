-- Laws that show that the definitions are the ones meant.
use Rattle.std.specs.Prelude.{◌≡◌, ℕ, ◌+◌, ◌≤◌, ℤ, ◌<ℤ◌, List, [], ◌∷◌, ◌++◌, length, Some, None}
use Rattle.pay_dates.specs.Rolls.{IsSchedule}
use Rattle.pay_meaning.specs.Language.{Event, Item, plain, scheduled, Script}
use Rattle.pay_meaning.specs.Events.{number_of, events_at, all_events, events_of}
use Rattle.pay_meaning.specs.Parts.{event_parts, payment_count}
use Rattle.pay_roll.specs.Rolling.{roll_refusal}
use Rattle.pay_roll.specs.declared.refusal.RollRefusal.TheVariants.{BadSchedule}

-- the event is on an earlier date than the next of these
abbrev pub IsBefore : Event → List Event → Type 0
IsBefore event [] = Unit {0}
IsBefore event (following ∷ rest) = number_of event <ℤ number_of following

-- each event is on a later date than the one before it
abbrev pub AreApart : List Event → Type 0
AreApart [] = Unit {0}
AreApart (event ∷ rest) = IsBefore event rest × AreApart rest

-- the events of a script that is not refused have dates of their own, which rise; at each date the event is that of an item or of its roll; and
-- there are no more events, nodes and payments than there may be
pub record IsRolled (script : Script) : Type 0 where
  pub apart : AreApart (events_of script)
  pub same : (number : ℤ) → events_at number (events_of script) ≡ events_at number (all_events script)
  pub events : length (all_events script) ≤ 4096
  pub nodes : length (event_parts (events_of script)) ≤ 262_144
  pub payments : payment_count (event_parts (events_of script)) ≤ 16_384

-- where there is no refusal
abbrev pub AcceptedIsRolled : Type 0
AcceptedIsRolled = (script : Script) → roll_refusal script ≡ None → IsRolled script

-- a plain item, or a schedule whose first date comes before its last, with a step of 1 to 999 units
abbrev pub IsGood : Item → Type 0
IsGood (plain date body) = Unit {0}
IsGood (scheduled terms body) = IsSchedule terms.first terms.last terms.every

abbrev pub AreGood : Script → Type 0
AreGood [] = Unit {0}
AreGood (item ∷ rest) = IsGood item × AreGood rest

-- the item that this number counts to, from this first number on, is no schedule, and all before it are good
pub record IsFirstBad (first number : ℕ) (script : Script) : Type 0 where
  pub before : Script
  pub bad : Item
  pub after : Script
  pub is : script ≡ before ++ bad ∷ after
  pub counted : number ≡ first + length before
  pub are_good : AreGood before
  pub is_bad : ¬ IsGood bad

-- the schedule that is named is the first that is bad, and where there is no refusal all are good
pub record FirstBadIsNamed : Type 0 where
  pub named : (script : Script) (item : ℕ) → roll_refusal script ≡ Some (BadSchedule item) → IsFirstBad 1 item script
  pub none : (script : Script) → roll_refusal script ≡ None → AreGood script
