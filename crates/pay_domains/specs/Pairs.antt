-- The operators of the code as those of the language, and what the pairs of an operator need.
use Rattle.std.specs.Prelude.{◌≡◌, ◌≢◌, pos, true}
use Rattle.pay_fixed.specs.Round.{IsRaw}
use Rattle.pay_meaning.specs.Language as language
use Rattle.pay_domains.specs.declared.operator.Operator.{Operator}
use Rattle.pay_domains.specs.declared.operator.Operator.TheVariants.{Add, Subtract, Multiply, Divide, Least, Greatest}
use Rattle.pay_domains.specs.declared.piece.Piece.{Piece}
use Rattle.pay_domains.specs.Operators.{is_quotient}

-- the language's operator that one of the code stands for
abbrev pub meant : Operator → language.Operator
meant Add = language.add
meant Subtract = language.subtract
meant Multiply = language.multiply
meant Divide = language.divide
meant Least = language.least
meant Greatest = language.greatest

-- neither end of a piece is 0
pub record HasNoZero (p : Piece) : Type 0 where
  pub low : p.low ≢ pos 0
  pub high : p.high ≢ pos 0

-- the piece can be the right one under an operator: a quotient's has no end that is 0
abbrev pub Suits : Operator → Piece → Type 0
Suits op p = is_quotient (meant op) ≡ true → HasNoZero p

-- both ends of a piece lie within the limit of a number
pub record IsRawPiece (p : Piece) : Type 0 where
  pub low : IsRaw p.low
  pub high : IsRaw p.high
