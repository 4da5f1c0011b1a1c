-- What a script is refused for once it has events: too many variables, and then too many legs.
use Rattle.std.specs.Prelude.{◌≡◌, ℕ, nat_le, List, [], ◌∷◌, length, Option, Some, None, if◌then◌else◌}
use Rattle.pay_meaning.specs.Language.{Script}
use Rattle.pay_meaning.specs.Parts.{as_variable, as_leg, names_of}
use Rattle.pay_roll.specs.Rolling.{first_of}
use Rattle.pay_roll.specs.declared.refusal.What.{What}
use Rattle.pay_roll.specs.declared.refusal.What.TheVariants.{Variables, Legs}
use Rattle.pay_passes.specs.declared.trade.IndexRefusal.{IndexRefusal}
use Rattle.pay_passes.specs.declared.trade.IndexRefusal.TheVariants.{TooMany, NoMemory}

-- the refusal where there are more than so many
abbrev pub refusal_beyond : What → ℕ → ℕ → Option IndexRefusal
refusal_beyond what limit count = if nat_le count limit then None else Some (TooMany what limit)

-- what a script is refused for: more than 1,024 variables; more than 256 legs
abbrev pub index_refusals : Script → List (Option IndexRefusal)
index_refusals script =
    refusal_beyond Variables 1024 (length (names_of as_variable script)) ∷ refusal_beyond Legs 256 (length (names_of as_leg script)) ∷ []

-- the first of these, if there is one
unfoldable pub index_refusal : Script → Option IndexRefusal
index_refusal script = first_of (index_refusals script)

-- there is a refusal, and it is this one; memory may be wanted for any script
abbrev pub IsRefusalOf : Script → IndexRefusal → Type 0
IsRefusalOf script (TooMany what limit) = index_refusal script ≡ Some (TooMany what limit)
IsRefusalOf script NoMemory = Unit {0}
