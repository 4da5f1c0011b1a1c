-- What is known at a place of an event, in every run that reaches it.
use Rattle.std.specs.Prelude.{ℕ, ℤ, pos, Bool, List, if◌then◌else◌}
use Rattle.std.specs.Cmp.Lexicographic.{slice_cmp}
use Rattle.std.specs.Ordering.{nat_cmp}
use Rattle.std.specs.Ordering.{eq_by_cmp}
use Rattle.pay_domains.specs.declared.piece.Piece.{Piece}
use Rattle.pay_domains.specs.Pieces.{point}
use Rattle.pay_domains.specs.Operators.{united}

-- the raws that each variable can have, by its name
abbrev pub Domains : Type 0
Domains = List ℕ → List Piece

-- the raws that each variable can have, and whether the fixing at the event's date is known to be there
pub record Facts : Type 0 where
  pub domains : Domains
  pub known : Bool

-- one variable has these raws now
abbrev pub put : Domains → List ℕ → List Piece → Domains
put domains name pieces other = if eq_by_cmp (slice_cmp nat_cmp) other name then pieces else domains other

-- each variable has the raws of either
abbrev pub joined : Domains → Domains → Domains
joined a b name = united (a name) (b name)

-- each variable has one raw, its value
abbrev pub points_of : (List ℕ → ℤ) → Domains
points_of value name = point (value name)

-- no variable was assigned yet: each has 0 alone
abbrev pub no_facts : Domains
no_facts = points_of (λ name. pos 0)
