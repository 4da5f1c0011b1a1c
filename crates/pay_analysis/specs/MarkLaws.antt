-- That a walk gives each part its own mark.
use Rattle.std.specs.Prelude.{◌≡◌, ℕ, Bool, List, [], ◌∷◌, ◌⊎◌}
use Rattle.pay_tree.specs.Owned.{StepsTree, steps_places}
use Rattle.pay_code.specs.Filled.{IsEachOnce}
use Rattle.pay_facts.specs.SlotFacts.{SlotDomains}
use Rattle.pay_facts.specs.Reached.{Part, steps_parts}
use Rattle.pay_analysis.specs.declared.marks.Mark.TheVariants.{Unreached}
use Rattle.pay_analysis.specs.Marks.{mark_of, marked, no_marks}

-- a part is one of these
abbrev pub IsPartOf : Part → List Part → Type 0
IsPartOf part [] = ⊥
IsPartOf part (first ∷ rest) = (part ≡ first) ⊎ IsPartOf part rest

-- Where no place of steps is there twice, each part that is reached has its own mark after a walk over them. A place at which no part is reached has
-- none.
pub record MarksAreOwn : Type 0 where
  pub own : (steps : StepsTree) (domains : SlotDomains) (known : Bool) (part : Part) → IsEachOnce (steps_places steps)
      → IsPartOf part (steps_parts steps domains known) → marked no_marks (steps_parts steps domains known) part.id ≡ mark_of part.found
  pub others : (steps : StepsTree) (domains : SlotDomains) (known : Bool) (id : ℕ)
      → ((part : Part) → IsPartOf part (steps_parts steps domains known) → ¬ (part.id ≡ id))
      → marked no_marks (steps_parts steps domains known) id ≡ Unreached
