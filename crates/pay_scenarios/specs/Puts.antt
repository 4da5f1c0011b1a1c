-- A text that is put in pieces.
use Rattle.std.specs.Prelude.{◌≡◌, ℕ, List, ◌++◌}
use Rattle.std.specs.declared.option.Option.{Option}
use Rattle.pay_edge.specs.Edge.{appended}

-- Of a whole text these bytes remain, and what comes before them was appended.
pub record HasPut (old now : Option (List ℕ)) (remaining whole : List ℕ) : Type 0 where
  pub front : List ℕ
  pub split : front ++ remaining ≡ whole
  pub text : now ≡ appended old front
