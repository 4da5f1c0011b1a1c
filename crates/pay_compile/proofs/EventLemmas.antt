-- What becomes of the events that are left.
use Rattle.std.proofs.Common.{◌≡◌, true, false, List, ◌∷◌, Option, refl}
use Rattle.pay_dates.specs.declared.day.Day.{Day}
use Rattle.pay_tree.specs.Owned.{EventTree}
use Rattle.pay_facts.specs.SlotFacts.{SlotDomains}
use Rattle.pay_prune.specs.Simplifying.{after_simplified, simplified_event}
use Rattle.pay_compile.specs.Compiling.{is_until}
use Rattle.pay_compile.specs.Prepared.{kept_until, prepared_from}

-- the first of the events that are left is kept, and the rest follow from the raws after it
pub first_kept : (until : Option Day) (event : EventTree) (rest : List EventTree) (domains : SlotDomains) → is_until until event.date ≡ true
    → prepared_from (kept_until until (event ∷ rest)) domains
    ≡ simplified_event event domains ∷ prepared_from (kept_until until rest) (after_simplified event domains)
first_kept until event rest domains hit = rw hit refl

-- or it is not kept
pub first_left_out : (until : Option Day) (event : EventTree) (rest : List EventTree) (domains : SlotDomains) → is_until until event.date ≡ false
    → prepared_from (kept_until until (event ∷ rest)) domains ≡ prepared_from (kept_until until rest) domains
first_left_out until event rest domains miss = rw miss refl
