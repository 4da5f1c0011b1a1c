-- What the code counts of tokens, as the definitions have it.
use Rattle.std.specs.Prelude.{ℕ, ◌^◌, ◌≤◌, pos, neg_ℤ, ℤ, ◌+ℤ◌, ◌≤ℤ◌, Option}
use Rattle.pay_lexer.specs.declared.token.TokenKind.{TokenKind}
use Rattle.pay_limits.specs.declared.token_limits.Depths.{Depths as Counts}
use Rattle.pay_grammar.specs.TokenDepths.{Depths}

-- with the last token
abbrev pub depths : Counts → Option TokenKind → Depths
depths counts last = record { brackets = counts.brackets; ifs = counts.ifs; operators = counts.operators; last = last }

-- a count is no further from 0 than so many
abbrev pub IsAtMost : ℕ → ℤ → Type 0
IsAtMost most n = (neg_ℤ (pos most) ≤ℤ n) × (n ≤ℤ pos most)

-- a count of at most 2^20 tokens
abbrev pub IsWithinReach : ℤ → Type 0
IsWithinReach n = IsAtMost (2 ^ 20) n

-- the counts of so many tokens at most
pub record IsCountable (most : ℕ) (counts : Counts) : Type 0 where
  pub brackets : IsAtMost most counts.brackets
  pub ifs : IsAtMost most counts.ifs
  pub operators : counts.operators ≤ most

-- two counts differ by 1 at most
abbrev pub IsNear : ℤ → ℤ → Type 0
IsNear a b = (a ≤ℤ (b +ℤ pos 1)) × (b ≤ℤ (a +ℤ pos 1))
