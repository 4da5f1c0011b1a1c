-- What the run of a scenario gives, and whose outcome it is.
use Rattle.std.specs.Prelude.{◌≡◌, ℕ, ◌<◌, All, ℤ, List, [], length, map, get_or}
use Rattle.pay_meaning.specs.Meaning.{Variables, Meaning, lookup, finished, faulted}
use Rattle.pay_meaning.specs.Meaning as meant
use Rattle.pay_machine.specs.declared.outcome.Payment.{Payment}
use Rattle.pay_machine.specs.declared.outcome.End.{End}
use Rattle.pay_machine.specs.declared.outcome.End.TheVariants.{Done, Fault}

-- what a run gives: the payments in order, how the events ended, the last value of each variable by its number, and how many nodes were evaluated;
-- and for how many payments it has room
pub record Given : Type 0 where
  pub payments : List Payment
  pub end : End
  pub values : List ℤ
  pub nodes : ℕ
  pub room : ℕ

-- a payment in which a number stands for the leg of these at that place
abbrev pub payment : List (List ℕ) → Payment → meant.Payment
payment legs p = record { date = p.date; leg = get_or legs p.leg []; amount = p.amount }

-- the end of a meaning, without its last variables
abbrev pub ending : meant.End → End
ending (finished variables) = Done
ending (faulted date kind) = Fault date kind

-- the last values of variables of these names, by their places; of events that faulted nothing is said
abbrev pub AreValues : List (List ℕ) → meant.End → List ℤ → Type 0
AreValues names (finished variables) values = values ≡ map (lookup variables) names
AreValues names (faulted date kind) values = Unit {0}

-- this is the outcome of a meaning, where a variable and a leg are numbered by their places among these names and these legs; of how many nodes
-- were evaluated nothing is said
pub record IsOutcome (names legs : List (List ℕ)) (m : Meaning) (given : Given) : Type 0 where
  pub paid : m.payments ≡ map (payment legs) given.payments
  pub in_range : All (λ p. p.leg < length legs) given.payments
  pub ended : given.end ≡ ending m.end
  pub kept : AreValues names m.end given.values
