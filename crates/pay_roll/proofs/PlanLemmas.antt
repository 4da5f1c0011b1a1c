-- One item more of a script.
use Rattle.std.proofs.Common.{◌≡◌, ℕ, ◌+◌, false, None, List, ◌∷◌, ◌++◌, inl, inr, sym, ap, ◌∙◌, append_assoc}
use Rattle.std.proofs.lemmas.Bool.{cases_Bool}
use Rattle.pay_meaning.specs.Language.{Event, Item, Script}
use Rattle.pay_meaning.specs.Events.{all_events, events_in}
use Rattle.pay_roll.specs.Rolling.{first_bad, is_bad}

-- where none is bad, the first is not, and none of the rest is
pub first_good : (number : ℕ) (first : Item) (rest : Script) → first_bad number (first ∷ rest) ≡ None → is_bad first ≡ false
first_good number first rest none = elim (cases_Bool (is_bad first)) [
  | inl hit ↦ let some = rw hit at none in cc
  | inr miss ↦ miss
]

pub rest_good : (number : ℕ) (first : Item) (rest : Script) → first_bad number (first ∷ rest) ≡ None → first_bad (number + 1) rest ≡ None
rest_good number first rest none = rw (first_good number first rest none) at none

-- the events of an item go over from what is left to what is there
pub events_more : (first : Item) (rest : Script) (all before after : List Event) → all ≡ before ++ all_events (first ∷ rest)
    → after ≡ before ++ events_in first → all ≡ after ++ all_events rest
events_more first rest all before after whole more =
    whole ∙ sym (append_assoc before (events_in first) (all_events rest)) ∙ ap (λ (events : List Event). events ++ all_events rest) (sym more)
