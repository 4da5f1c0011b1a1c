-- What the reading of a text keeps, as its clauses say it.
use Rattle.std.specs.Prelude.{◌≡◌, ℕ, suc, ◌-◌, List, length, Result}
use Rattle.pay_lexer.specs.declared.fault.LexFault.{LexFault}
use Rattle.pay_lexer.specs.declared.lexer.Lexeme.{Lexeme}
use Rattle.pay_lexer.specs.declared.token.Token.{Token}
use Rattle.pay_lexer.specs.Spelling.{IsCauseFrom}
use Rattle.pay_lexer.specs.Lexing.{Front, token_at, token_then, tokens_after, with_tokens}

-- the token and how many bytes it has after its first one
abbrev pub front : Lexeme → Front
front lexeme = record { kind = lexeme.kind; more = lexeme.more }

-- the tokens of a text from a place on, at which the longest token begins with this byte, before this rest
abbrev pub tokens_from_token : ℕ → ℕ → List ℕ → Result (List Token) ℕ
tokens_from_token place first rest = token_then place (token_at first rest) (λ n. tokens_after n (suc place) rest)

-- the tokens after what stands at a place, which has so many bytes after its first one
abbrev pub rest_tokens : ℕ → ℕ → List ℕ → Result (List Token) ℕ
rest_tokens more place rest = tokens_after more (suc place) rest

-- with the tokens taken before, those of the text are the ones taken now and those of what is left
abbrev pub Takes : List Token → Result (List Token) ℕ → List Token → Result (List Token) ℕ → Type 0
Takes old text new left = with_tokens old text ≡ with_tokens new left

-- why what is left from a later place on is not cut into tokens is why the text is not
abbrev pub HasCausesOf : ℕ → List ℕ → ℕ → List ℕ → Type 0
HasCausesOf place text later left = (cause : LexFault) → IsCauseFrom later left cause → IsCauseFrom place text cause

-- the tokens of what is left of a text of this size, or the first place where nothing begins
abbrev pub tokens_at : ℕ → List ℕ → Result (List Token) ℕ
tokens_at size left = tokens_after 0 (size - length left) left

-- why what is left of a text of this size is not cut into tokens
abbrev pub IsCauseAt : ℕ → List ℕ → LexFault → Type 0
IsCauseAt size left cause = IsCauseFrom (size - length left) left cause
