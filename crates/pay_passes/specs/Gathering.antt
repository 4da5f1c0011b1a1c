-- The variables that parts of owned trees assign, and which of them an ordered set has.
use Rattle.std.specs.Prelude.{◌≡◌, ℕ, nat_eq, Bool, false, ◌||◌, List, [], ◌∷◌, ◌++◌}
use Rattle.pay_tree.specs.Owned.{assigning, paying, choosing, grouping}
use Rattle.pay_visit.specs.Showing.{TreePart, a_number_at, a_test_at, a_step_of}

-- the variable that a part itself assigns, if it does
abbrev pub assigned_by_part : TreePart → List ℕ
assigned_by_part (a_number_at number) = []
assigned_by_part (a_test_at test) = []
assigned_by_part (a_step_of (assigning slot value)) = slot ∷ []
assigned_by_part (a_step_of (paying leg amount)) = []
assigned_by_part (a_step_of (choosing test yes_part no_part changes)) = []
assigned_by_part (a_step_of (grouping steps)) = []

-- the variables that parts assign, in their order and as often as they do
abbrev pub assigned_by_parts : List TreePart → List ℕ
assigned_by_parts [] = []
assigned_by_parts (part ∷ rest) = assigned_by_part part ++ assigned_by_parts rest

-- whether these numbers have that one
abbrev pub has : List ℕ → ℕ → Bool
has [] slot = false
has (first ∷ rest) slot = nat_eq first slot || has rest slot

-- two lists have the same numbers
abbrev pub HaveSame : List ℕ → List ℕ → Type 0
HaveSame slots others = (slot : ℕ) → has slots slot ≡ has others slot
