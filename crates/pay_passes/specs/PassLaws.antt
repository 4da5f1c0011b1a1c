-- Laws that show that the definitions are the ones meant.
use Rattle.std.specs.Prelude.{◌≡◌, ℕ, ◌<◌, List, [], ◌∷◌, map, IfOk, ◌↔◌}
use Rattle.pay_meaning.specs.Language.{Event}
use Rattle.pay_meaning.specs.Meaning.{Variables, Fixings, Moment, effect, lookup, meaning}
use Rattle.pay_tree.specs.Owned.{NumberTree, TestTree, StepsTree, spelled_steps, name_at}
use Rattle.pay_visit.specs.Rewriting.{rewritten_number, rewritten_test}
use Rattle.pay_passes.specs.Terms.{at_own_terms}
use Rattle.pay_passes.specs.Trades.{AreDistinct, IsNotIn}
use Rattle.pay_tree.specs.Assigned.{assigned_in}
use Rattle.pay_passes.specs.Changes.{affected_of, filled_steps}
use Rattle.pay_passes.specs.Folding.{folding, folded_steps, SameMeaning, AreFolded}

-- events mean the same where `period()` and `days()` are literals in them
abbrev pub TermsKeepMeaning : Type 0
TermsKeepMeaning = (events : List Event) (variables : Variables) (fixings : Fixings)
    → meaning (map at_own_terms events) variables fixings ≡ meaning events variables fixings

-- it is one of these
abbrev pub IsIn : List ℕ → ℕ → Type 0
IsIn slots slot = ¬ IsNotIn slots slot

-- each of these numbers is less than the next
abbrev pub AreLess : List ℕ → Type 0
AreLess [] = Unit {0}
AreLess (first ∷ []) = Unit {0}
AreLess (first ∷ second ∷ rest) = (first < second) × AreLess (second ∷ rest)

-- the affected variables rise, and are those that some step assigns and no others; and there is one such list
pub record AffectedAreAssigned : Type 0 where
  pub rise : (steps : StepsTree) → AreLess (affected_of steps)
  pub same : (steps : StepsTree) (slot : ℕ) → IsIn (affected_of steps) slot ↔ IsIn (assigned_in steps) slot
  pub one_list : (slots others : List ℕ) → AreLess slots → AreLess others → ((slot : ℕ) → IsIn slots slot ↔ IsIn others slot) → slots ≡ others

-- a variable with a name, which steps don't assign, keeps its value, where the variables have different names; a number past the end of the names
-- is that of the empty name
abbrev pub OthersKeepTheirValue : Type 0
OthersKeepTheirValue = (names legs : List (List ℕ)) (steps : StepsTree) (variables : Variables) (at : Moment) (slot : ℕ)
    → AreDistinct names → ¬ (name_at names slot ≡ []) → IsNotIn (affected_of steps) slot
    → IfOk (effect (spelled_steps names legs steps) variables at) (λ after. lookup after.variables (name_at names slot) ≡ lookup variables (name_at names slot))

-- numbers, tests and steps whose constants are folded have the same value, truth and effect, or the same fault; and no operator of literals is left
-- that doesn't fault, and no comparison of two literals
pub record FoldingKeepsMeaning : Type 0 where
  pub number : (number : NumberTree) → SameMeaning.numbers (rewritten_number folding number) number
  pub test : (test : TestTree) → SameMeaning.tests (rewritten_test folding test) test
  pub same : (steps : StepsTree) → SameMeaning.steps (folded_steps steps) steps
  pub folded : (steps : StepsTree) → AreFolded (folded_steps steps)

-- steps stand for the same where the lists of their choices are filled in, and filling in twice is filling in once
pub record FillingKeepsSteps : Type 0 where
  pub same : (names legs : List (List ℕ)) (steps : StepsTree) → spelled_steps names legs (filled_steps steps) ≡ spelled_steps names legs steps
  pub once : (steps : StepsTree) → filled_steps (filled_steps steps) ≡ filled_steps steps
