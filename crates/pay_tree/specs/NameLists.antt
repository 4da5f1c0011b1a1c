-- Names that are gathered one after the other, each once: in a list, and in an ordered set beside it.
use Rattle.std.specs.Prelude.{ℕ, not, List, ◌++◌, filter}
use Rattle.std.specs.Ordering.{nat_cmp}
use Rattle.std.specs.Cmp.Lexicographic.{slice_cmp}
use Rattle.std.specs.FinSet.{FinSet, from_list, contains}

-- the set of these names
abbrev pub set_of : List (List ℕ) → FinSet (slice_cmp nat_cmp)
set_of names = from_list names

-- those of these names that a set does not have
abbrev pub unseen : FinSet (slice_cmp nat_cmp) → List (List ℕ) → List (List ℕ)
unseen seen names = filter (λ name. not (contains seen name)) names
