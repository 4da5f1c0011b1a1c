-- The tokens of a script: which bytes spell which token.
use Rattle.std.specs.Prelude.{ℕ, codes, List, [], ◌∷◌, map, Option, Some, None, if◌then◌else◌}
use Rattle.std.specs.Str.{bytes_eq}
use Rattle.pay_dates.specs.Days.{IsDay, day_text}
use Rattle.pay_dates.specs.declared.day.Day.{Day}
use Rattle.pay_lexer.specs.declared.token.Key.{Key}
use Rattle.pay_lexer.specs.declared.token.Key.TheVariants as key
use Rattle.pay_lexer.specs.declared.token.Sign.{Sign}
use Rattle.pay_lexer.specs.declared.token.Sign.TheVariants as sign
use Rattle.pay_lexer.specs.declared.token.TokenKind.{TokenKind}
use Rattle.pay_lexer.specs.declared.token.TokenKind.TheVariants as token
use Rattle.pay_lexer.specs.Forms.{lower, IsNumber, IsWord}

-- the keyword with these letters, if there is one
abbrev pub key_in : List (List ℕ × Key) → List ℕ → Option Key
key_in [] letters = None
key_in (entry ∷ rest) letters = if bytes_eq letters entry.0 then Some entry.1 else key_in rest letters

-- the keywords and their spelling
abbrev pub keys : List (List ℕ × Key)
keys =
    (codes "schedule", key.Schedule) ∷ (codes "from", key.From) ∷ (codes "to", key.To) ∷ (codes "every", key.Every) ∷ (codes "following", key.Following)
    ∷ (codes "preceding", key.Preceding) ∷ (codes "modified", key.Modified) ∷ (codes "do", key.Do) ∷ (codes "end", key.End) ∷ (codes "if", key.If)
    ∷ (codes "then", key.Then) ∷ (codes "else", key.Else) ∷ (codes "endif", key.Endif) ∷ (codes "pays", key.Pays) ∷ (codes "min", key.Min)
    ∷ (codes "max", key.Max) ∷ (codes "abs", key.Abs) ∷ (codes "spot", key.Spot) ∷ (codes "period", key.Period) ∷ (codes "days", key.Days)
    ∷ (codes "not", key.Not) ∷ (codes "and", key.And) ∷ (codes "or", key.Or) ∷ []

unfoldable pub key_of : List ℕ → Option Key
key_of letters = key_in keys letters

-- a word is its keyword, or else a name
abbrev pub key_or_word : Option Key → List ℕ → TokenKind
key_or_word (Some k) letters = token.Key k
key_or_word None letters = token.Word letters

-- the token of a word, whose letters are compared in lower case
abbrev pub word_token : List ℕ → TokenKind
word_token letters = key_or_word (key_of letters) letters

-- the bytes of a sign
abbrev pub sign_text : Sign → List ℕ
sign_text sign.Plus = codes "+"
sign_text sign.Minus = codes "-"
sign_text sign.Star = codes "*"
sign_text sign.Slash = codes "/"
sign_text sign.ParenLeft = codes "("
sign_text sign.ParenRight = codes ")"
sign_text sign.Comma = codes ","
sign_text sign.Semicolon = codes ";"
sign_text sign.Equals = codes "="
sign_text sign.Differs = codes "!="
sign_text sign.Less = codes "<"
sign_text sign.LessEq = codes "<="
sign_text sign.More = codes ">"
sign_text sign.MoreEq = codes ">="

-- these bytes spell this token
pub data SpellsToken : List ℕ → TokenKind → Type 0 where
  of_date : (date : Day) → IsDay date → SpellsToken (64 ∷ day_text date) (token.Date date)
  of_number : (digits : List ℕ) → IsNumber digits → SpellsToken digits (token.Number digits)
  of_word : (letters : List ℕ) → IsWord letters → SpellsToken letters (word_token (map lower letters))
  of_sign : (s : Sign) → SpellsToken (sign_text s) (token.Sign s)
