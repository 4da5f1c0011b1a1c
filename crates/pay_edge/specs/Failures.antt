-- A list of names whose reads failed, and of numbers of calls that are to fail.
use Rattle.std.specs.Prelude.{◌≡◌, ℕ, ◌+◌, ◌≤◌, Bool, List, [], ◌∷◌, nat_eq, if◌then◌else◌}
use Rattle.std.specs.List.{list_any}
use Rattle.std.specs.Cmp.Lexicographic.{pointwise}
use Rattle.std.specs.declared.alloc.Global.{Global}
use Rattle.std.specs.declared.string.String.{String}
use Rattle.std.specs.String.{string_bytes}
use Rattle.pay_edge.specs.Edge.{SameBut, one_more}

-- how often a name stands in a list
abbrev pub count_of : List (String Global) → List ℕ → ℕ
count_of [] name = 0
count_of (noted ∷ rest) name = if pointwise nat_eq (string_bytes noted) name then count_of rest name + 1 else count_of rest name

-- A name was noted once more, and no other.
pub record IsNoted (name : List ℕ) (old new : List (String Global)) : Type 0 where
  pub counted : count_of new name ≡ count_of old name + 1
  pub others : SameBut name (count_of old) (count_of new)
  pub later : (other : List ℕ) → count_of old other ≤ count_of new other

-- the call after so many others is one of those that were planned to fail
abbrev pub is_planned : List ℕ → ℕ → Bool
is_planned planned calls = list_any (λ call. nat_eq call (one_more calls)) planned
