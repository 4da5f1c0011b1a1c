-- The tokens of a text, by reading it from the front.
use Rattle.std.specs.Prelude.{ℕ, zero, suc, nat_eq, Bool, false, ◌||◌, List, [], ◌∷◌, ◌++◌, length, map, take, drop, Option, Some, None, Result, Ok}
use Rattle.std.specs.Prelude.{Err, if◌then◌else◌}
use Rattle.std.specs.Option.{option_map}
use Rattle.pay_dates.specs.Days.{Date, day_in}
use Rattle.pay_meaning.specs.Words.{is_letter, is_digit}
use Rattle.pay_lexer.specs.declared.token.Sign.{Sign}
use Rattle.pay_lexer.specs.declared.token.Sign.TheVariants as sign
use Rattle.pay_lexer.specs.declared.token.Token.{Token}
use Rattle.pay_lexer.specs.declared.token.TokenKind.{TokenKind}
use Rattle.pay_lexer.specs.declared.token.TokenKind.TheVariants as token
use Rattle.pay_lexer.specs.Forms.{lower}
use Rattle.pay_lexer.specs.Tokens.{word_token}
use Rattle.pay_lexer.specs.Spelling.{is_blank, is_inside_line, begins_comment, placed, mark_length}

-- the longest front of a text whose bytes all pass a test
abbrev pub front_while : (ℕ → Bool) → List ℕ → List ℕ
front_while test [] = []
front_while test (byte ∷ rest) = if test byte then byte ∷ front_while test rest else []

-- a byte that may stand in a word after the first one
abbrev pub is_word_byte : ℕ → Bool
is_word_byte byte = is_letter (lower byte) || is_digit (lower byte)

-- a point and digits, where there are digits
abbrev pub point_and : List ℕ → List ℕ
point_and [] = []
point_and (digit ∷ more) = 46 ∷ digit ∷ more

-- a point and the digits after it, where a text begins so
abbrev pub decimals_at : List ℕ → List ℕ
decimals_at [] = []
decimals_at (byte ∷ rest) = if nat_eq byte 46 then point_and (front_while is_digit rest) else []

-- the rest of a number, in the text after its first digit
abbrev pub number_rest : List ℕ → List ℕ
number_rest text = front_while is_digit text ++ decimals_at (drop (length (front_while is_digit text)) text)

-- the rest of a word, in the text after its first letter
abbrev pub word_rest : List ℕ → List ℕ
word_rest text = front_while is_word_byte text

-- the rest of a comment, in the text after its first `/`
abbrev pub comment_rest : List ℕ → List ℕ
comment_rest text = front_while is_inside_line text

-- a token at the front of a text, and how many bytes it has after its first one
pub record Front : Type 0 where
  pub kind : TokenKind
  pub more : ℕ

-- `@` and ten bytes
abbrev pub date_front : Date → Front
date_front date = record { kind = token.Date date; more = 10 }

-- a number of these bytes after its first digit
abbrev pub number_front : ℕ → List ℕ → Front
number_front digit more = record { kind = token.Number (digit ∷ more); more = length more }

-- a word of these bytes after its first letter
abbrev pub word_front : ℕ → List ℕ → Front
word_front letter more = record { kind = word_token (map lower (letter ∷ more)); more = length more }

-- a sign of one byte
abbrev pub short_sign : Sign → Front
short_sign s = record { kind = token.Sign s; more = 0 }

-- a sign of two bytes
abbrev pub long_sign : Sign → Front
long_sign s = record { kind = token.Sign s; more = 1 }

-- the day of the ten bytes at the front of a text
abbrev pub day_at : List ℕ → Option Date
day_at text = day_in (take 10 text)

-- the text begins with `=`
abbrev pub begins_equals : List ℕ → Bool
begins_equals [] = false
begins_equals (byte ∷ rest) = nat_eq byte 61

-- the sign that a byte is where no `=` follows it, if it is one
abbrev pub sign_alone : ℕ → Option Sign
sign_alone byte =
    if nat_eq byte 43 then Some sign.Plus
    else (if nat_eq byte 45 then Some sign.Minus
    else (if nat_eq byte 42 then Some sign.Star
    else (if nat_eq byte 47 then Some sign.Slash
    else (if nat_eq byte 40 then Some sign.ParenLeft
    else (if nat_eq byte 41 then Some sign.ParenRight
    else (if nat_eq byte 44 then Some sign.Comma
    else (if nat_eq byte 59 then Some sign.Semicolon
    else (if nat_eq byte 61 then Some sign.Equals
    else (if nat_eq byte 60 then Some sign.Less
    else (if nat_eq byte 62 then Some sign.More else None))))))))))

-- the sign that a byte is with the `=` after it, if they are one
abbrev pub sign_with_equals : ℕ → Option Sign
sign_with_equals byte =
    if nat_eq byte 33 then Some sign.Differs
    else (if nat_eq byte 60 then Some sign.LessEq
    else (if nat_eq byte 62 then Some sign.MoreEq else None))

-- the sign of two bytes where an `=` follows, or else the one of one byte
abbrev pub longer_sign : Option Sign → Option Sign → List ℕ → Option Front
longer_sign None alone rest = option_map short_sign alone
longer_sign (Some s) alone rest = if begins_equals rest then Some (long_sign s) else option_map short_sign alone

-- the longest sign that begins with this byte, before this text
abbrev pub sign_at : ℕ → List ℕ → Option Front
sign_at byte rest = longer_sign (sign_with_equals byte) (sign_alone byte) rest

-- the longest token that begins with this byte, before this text
abbrev pub token_at : ℕ → List ℕ → Option Front
token_at byte rest =
    if is_digit byte then Some (number_front byte (number_rest rest))
    else (if is_letter (lower byte) then Some (word_front byte (word_rest rest))
    else (if nat_eq byte 64 then option_map date_front (day_at rest)
    else sign_at byte rest))

-- these tokens and then the others, where none of them is missing
abbrev pub with_tokens : List Token → Result (List Token) ℕ → Result (List Token) ℕ
with_tokens ts (Ok others) = Ok (ts ++ others)
with_tokens ts (Err bad) = Err bad

-- the token at this place and then the others, or the place where there is none
abbrev pub token_then : ℕ → Option Front → (ℕ → Result (List Token) ℕ) → Result (List Token) ℕ
token_then place None others = Err place
token_then place (Some front) others = with_tokens (placed place (suc front.more) front.kind ∷ []) (others front.more)

-- The tokens of a text from a place on, or the first place where nothing begins. Its first n bytes belong to what stands before.
abbrev pub tokens_after : ℕ → ℕ → List ℕ → Result (List Token) ℕ
tokens_after n place [] = Ok []
tokens_after (suc n) place (byte ∷ rest) = tokens_after n (suc place) rest
tokens_after zero place (byte ∷ rest) =
    if is_blank byte then tokens_after zero (suc place) rest
    else (if begins_comment (byte ∷ rest) then tokens_after (length (comment_rest rest)) (suc place) rest
    else token_then place (token_at byte rest) (λ n. tokens_after n (suc place) rest))

-- the tokens of a text, or its first place where neither a blank, a comment nor a token begins
unfoldable pub tokens_in : List ℕ → Result (List Token) ℕ
tokens_in text = tokens_after (mark_length text) 0 text

-- a token of this kind and then the others, if there is one
abbrev pub kind_then : Option Front → (ℕ → Option (List TokenKind)) → Option (List TokenKind)
kind_then None others = None
kind_then (Some front) others = option_map (λ kinds. front.kind ∷ kinds) (others front.more)

-- the same without places: what the tokens of a text are
abbrev pub kinds_after : ℕ → List ℕ → Option (List TokenKind)
kinds_after n [] = Some []
kinds_after (suc n) (byte ∷ rest) = kinds_after n rest
kinds_after zero (byte ∷ rest) =
    if is_blank byte then kinds_after zero rest
    else (if begins_comment (byte ∷ rest) then kinds_after (length (comment_rest rest)) rest
    else kind_then (token_at byte rest) (λ n. kinds_after n rest))

-- what the tokens of a text are, if it has nothing but tokens, blanks and comments
unfoldable pub kinds_in : List ℕ → Option (List TokenKind)
kinds_in text = kinds_after (mark_length text) text

-- what these tokens are
abbrev pub kinds : List Token → List TokenKind
kinds ts = map (λ t. t.kind) ts

-- what the tokens are, if there is no place where nothing begins
abbrev pub kinds_of : Result (List Token) ℕ → Option (List TokenKind)
kinds_of (Ok ts) = Some (kinds ts)
kinds_of (Err bad) = None
