-- Laws of what runs give.
use Rattle.std.specs.Prelude.{◌<◌, ℕ, All, List, length}
use Rattle.pay_meaning.specs.Meaning.{Meaning}
use Rattle.pay_runs.specs.RunLaws.{MeansSame}
use Rattle.pay_code.specs.Execution.{Outcome}
use Rattle.pay_machine.specs.Outcomes.{Given, IsOutcome}
use Rattle.pay_machine.specs.Runs.{IsGiven}

-- What was given by number is the outcome of what is meant by name: where the run means the same by number as that does by name, and each payment is
-- on one of the legs.
abbrev pub NumbersAreNames : Type 0
NumbersAreNames = (names legs : List (List ℕ)) (outcome : Outcome) (m : Meaning) (given : Given)
    → IsGiven outcome given → MeansSame names legs (record { payments = outcome.payments; end = outcome.end }) m
    → All (λ p. p.leg < length legs) given.payments → IsOutcome names legs m given
