-- Laws of the limits: each finds the first token at which it is passed, and none where it is passed at no token.
use Rattle.std.specs.Prelude.{◌≡◌, ◌↔◌, Bool, false, IsTrue, List, [], ◌∷◌, ◌++◌, Option, Some, None}
use Rattle.pay_lexer.specs.declared.token.Token.{Token}
use Rattle.pay_grammar.specs.TokenLimits.{kinds, is_too_large, first_too_large, is_too_deep, first_too_deep}

-- a limit is passed at none of these tokens: it is asked at each, with the tokens before it
abbrev pub IsNowhere : (List Token → Token → Bool) → List Token → Type 0
IsNowhere passed tokens = (before after : List Token) (t : Token) → tokens ≡ before ++ t ∷ after → passed before t ≡ false

-- a limit is passed at this token, and at none before it
pub record IsFirst (passed : List Token → Token → Bool) (tokens : List Token) (t : Token) : Type 0 where
  pub before : List Token
  pub after : List Token
  pub cut : tokens ≡ before ++ t ∷ after
  pub here : IsTrue (passed before t)
  pub not_before : IsNowhere passed before

-- the answer is the first token at which a limit is passed, or none where it is passed nowhere
pub record FindsFirst (passed : List Token → Token → Bool) (tokens : List Token) (answer : Option Token) : Type 0 where
  pub found : (t : Token) → (answer ≡ Some t) ↔ IsFirst passed tokens t
  pub none : (answer ≡ None) ↔ IsNowhere passed tokens

-- the first token that is too large is found
abbrev pub FirstTooLargeIsFound : Type 0
FirstTooLargeIsFound = (tokens : List Token) → FindsFirst (λ before t. is_too_large t.kind) tokens (first_too_large tokens)

-- the first token with which the tokens are too deep is found
abbrev pub FirstTooDeepIsFound : Type 0
FirstTooDeepIsFound = (tokens : List Token) → FindsFirst (λ before t. is_too_deep (kinds (before ++ t ∷ []))) tokens (first_too_deep tokens)
