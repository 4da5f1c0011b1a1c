-- What the parts of a decision say of raws.
use Rattle.std.specs.Prelude.{◌≡◌, ◌↔◌, ℤ, ◌≤ℤ◌, Bool, IsTrue, List, ◌∷◌, Some}
use Rattle.pay_meaning.specs.Language.{Comparison}
use Rattle.pay_meaning.specs.Meaning.{compared}
use Rattle.pay_domains.specs.declared.piece.Piece.{Piece}
use Rattle.pay_domains.specs.Pieces.{Held, IsDomain}
use Rattle.pay_domains.specs.Queries.{point_of}
use Rattle.pay_facts.specs.Decisions.{least_raw, greatest_raw, is_same_point, are_apart, comparison_answer}

-- A comparison is decided true, or false, only where it holds, or fails, for each raw of the one domain with each of the other.
abbrev pub ComparisonAnswerIsSound : Type 0
ComparisonAnswerIsSound = (op : Comparison) (a b : List Piece) (x y : ℤ) (answer : Bool) → IsDomain a → IsDomain b → Held x a → Held y b
    → comparison_answer op a b ≡ Some answer → compared op x y ≡ answer

-- and wherever all raws of two domains that have some agree, it is decided so
abbrev pub ComparisonAnswerIsFull : Type 0
ComparisonAnswerIsFull = (op : Comparison) (a b : List Piece) (x y : ℤ) (answer : Bool) → IsDomain a → IsDomain b → Held x a → Held y b
    → ((v w : ℤ) → Held v a → Held w b → compared op v w ≡ answer) → comparison_answer op a b ≡ Some answer

-- a domain has this raw, and no other
abbrev pub HoldsOnly : ℤ → List Piece → Type 0
HoldsOnly x a = (y : ℤ) → Held y a ↔ (y ≡ x)

-- the least and the greatest raw are held, and no held one lies beyond them
pub record AreEnds (p : Piece) (rest : List Piece) : Type 0 where
  pub least : Held (least_raw p rest) (p ∷ rest)
  pub greatest : Held (greatest_raw p rest) (p ∷ rest)
  pub between : (x : ℤ) → Held x (p ∷ rest) → (least_raw p rest ≤ℤ x) × (x ≤ℤ greatest_raw p rest)

-- A comparison of domains that have raws is decided exactly where all raws agree on it; and what it asks of two domains is that no raw is in both, that
-- both have one raw alone, the same, and their least and greatest raws.
pub record DecisionsReadRaws : Type 0 where
  pub sound : ComparisonAnswerIsSound
  pub full : ComparisonAnswerIsFull
  pub apart : (a b : List Piece) → IsDomain a → IsDomain b → IsTrue (are_apart a b) ↔ ((x : ℤ) → Held x a → ¬ Held x b)
  pub same : (a b : List Piece) → IsDomain a → IsDomain b
      → IsTrue (is_same_point (point_of a) (point_of b)) ↔ ((x : ℤ) × (HoldsOnly x a × HoldsOnly x b))
  pub ends : (p : Piece) (rest : List Piece) → IsDomain (p ∷ rest) → AreEnds p rest
