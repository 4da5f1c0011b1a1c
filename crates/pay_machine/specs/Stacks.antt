-- What has a room of its own: stacks and saved values.
use Rattle.std.specs.Prelude.{ℕ, List, [], ◌∷◌, Option, Some, None}
use Rattle.pay_code.specs.Execution.{below_top}

-- the entries of a stack, its top in front, or values that were saved, in order; and for how many there is room
pub record Entries (A : Type 0) : Type 0 where
  pub entries : List A
  pub room : ℕ

-- an entry on top
abbrev pub pushed : {A : Type 0} → A → Entries A → Entries A
pushed entry stack = record { entries = entry ∷ stack.entries; room = stack.room }

-- what lies below the top
abbrev pub popped : {A : Type 0} → Entries A → Entries A
popped stack = record { entries = below_top stack.entries; room = stack.room }

-- the first of these; where there is none, the other one
abbrev pub top_or : {A : Type 0} → A → List A → A
top_or other [] = other
top_or other (first ∷ rest) = first

-- the first of these, if there is one
abbrev pub top_of : {A : Type 0} → List A → Option A
top_of [] = None
top_of (first ∷ rest) = Some first
