-- What a run gives by the names of variables and legs.
use Rattle.std.specs.Prelude.{◌≡◌, ℕ, nat_lt, false, IsTrue, List, length, map}
use Rattle.std.specs.List.{list_all}
use Rattle.pay_meaning.specs.Language.{Event}
use Rattle.pay_meaning.specs.Meaning.{Fixings, fixing_at, Variables, meaning}
use Rattle.pay_tree.specs.Owned.{EventTree, spelled_event}
use Rattle.pay_runs.specs.Counting.{node_count}
use Rattle.pay_runs.specs.RunLaws.{AreApart, StandFor}
use Rattle.pay_runs.specs.Slots.{Row}
use Rattle.pay_runs.specs.Weighing.{weighed_meaning}
use Rattle.pay_code.specs.Bounds.{legs_in}
use Rattle.pay_code.specs.Programs.{Compiled, StandsFor}
use Rattle.pay_machine.specs.Outcomes.{Given, IsOutcome}

-- What a run of a program gave is what these events mean, from these variables and under these fixings: with weights where the program reads
-- smoothings, and where it reads none the direct meaning; and it evaluated as many nodes as a run of the events.
pub record IsNamed (program : Compiled) (names legs : List (List ℕ)) (events : List Event) (variables : Variables) (fixings : Fixings) (given : Given)
    : Type 0 where
  pub outcome : IsOutcome names legs (weighed_meaning program.fuzzy events variables fixings) given
  pub direct : program.fuzzy ≡ false → IsOutcome names legs (meaning events variables fixings) given
  pub nodes : given.nodes ≡ node_count program.fuzzy events variables fixings

-- the legs that a program pays are among so many
abbrev pub PaysAmong : ℕ → Compiled → Type 0
PaysAmong legs program = IsTrue (list_all (λ leg. nat_lt leg legs) (legs_in program.code))

-- What a run gave is what the events mean that its program stands for, spelled with any names: where each variable has a name, no two of them the
-- same, the start values are those of the variables, the legs that are paid have names, and the row has the fixing at each date.
abbrev pub GivesMeaningByName : Compiled → Row → Given → Type 0
GivesMeaningByName program row given = (names legs : List (List ℕ)) (events : List EventTree) (variables : Variables) (fixings : Fixings)
    → AreApart names → StandFor names program.start variables → PaysAmong (length legs) program → StandsFor program events
    → row ≡ map (fixing_at fixings) program.dates → IsNamed program names legs (map (spelled_event names legs) events) variables fixings given
