-- The limits that are counted on tokens: sizes of numbers and names, open brackets, open ifs, and operators in a stretch.
use Rattle.std.specs.Prelude.{◌≡◌, ℕ, nat_lt, Bool, true, false, ◌||◌, List, [], ◌∷◌, ◌++◌, length, filter, ℤ, pos, ◌-ℤ◌, int_lt, Option, Some}
use Rattle.std.specs.Prelude.{None, Result, Ok, Err, if◌then◌else◌}
use Rattle.pay_fixed.specs.Decimal.{decimal_in}
use Rattle.pay_fixed.specs.declared.NumberFault.{NumberFault}
use Rattle.pay_fixed.specs.declared.NumberFault.TheVariants.{NotNumber, TooLarge}
pub use Rattle.pay_lexer.specs.Lexing.{kinds}
use Rattle.pay_lexer.specs.declared.token.Key.TheVariants as key
use Rattle.pay_lexer.specs.declared.token.Sign.TheVariants as sign
use Rattle.pay_lexer.specs.declared.token.Token.{Token}
use Rattle.pay_lexer.specs.declared.token.TokenKind.{TokenKind}
use Rattle.pay_lexer.specs.declared.token.TokenKind.TheVariants as token

-- what was read of a decimal is too large
abbrev pub is_beyond : Result ℤ NumberFault → Bool
is_beyond (Ok raw) = false
is_beyond (Err NotNumber) = false
is_beyond (Err TooLarge) = true

-- a number token of more than 40 bytes or beyond the limit of a number, or a name of more than 64 bytes
abbrev pub is_too_large : TokenKind → Bool
is_too_large (token.Number digits) = nat_lt 40 (length digits) || is_beyond (decimal_in digits)
is_too_large (token.Word letters) = nat_lt 64 (length letters)
is_too_large t = false

-- the first token that is too large
abbrev pub first_too_large : List Token → Option Token
first_too_large [] = None
first_too_large (t ∷ rest) = if is_too_large t.kind then Some t else first_too_large rest

abbrev pub is_open_bracket : TokenKind → Bool
is_open_bracket (token.Sign sign.ParenLeft) = true
is_open_bracket t = false

abbrev pub is_closing_bracket : TokenKind → Bool
is_closing_bracket (token.Sign sign.ParenRight) = true
is_closing_bracket t = false

abbrev pub is_if : TokenKind → Bool
is_if (token.Key key.If) = true
is_if t = false

abbrev pub is_endif : TokenKind → Bool
is_endif (token.Key key.Endif) = true
is_endif t = false

abbrev pub is_operator : TokenKind → Bool
is_operator (token.Sign sign.Plus) = true
is_operator (token.Sign sign.Minus) = true
is_operator (token.Sign sign.Star) = true
is_operator (token.Sign sign.Slash) = true
is_operator (token.Sign sign.Comma) = true
is_operator (token.Sign sign.Equals) = true
is_operator (token.Sign sign.Differs) = true
is_operator (token.Sign sign.Less) = true
is_operator (token.Sign sign.LessEq) = true
is_operator (token.Sign sign.More) = true
is_operator (token.Sign sign.MoreEq) = true
is_operator (token.Key key.And) = true
is_operator (token.Key key.Or) = true
is_operator (token.Key key.Not) = true
is_operator (token.Key key.Abs) = true
is_operator t = false

-- how many of these tokens pass a test
abbrev pub count : (TokenKind → Bool) → List TokenKind → ℕ
count test ts = length (filter test ts)

-- the brackets that are opened, less those that are closed: a count below zero is kept as it is
abbrev pub open_brackets : List TokenKind → ℤ
open_brackets ts = pos (count is_open_bracket ts) -ℤ pos (count is_closing_bracket ts)

-- the same of `if` and `endif`
abbrev pub open_ifs : List TokenKind → ℤ
open_ifs ts = pos (count is_if ts) -ℤ pos (count is_endif ts)

-- a word that is no keyword
abbrev pub is_word : TokenKind → Bool
is_word (token.Word letters) = true
is_word t = false

-- a stretch begins after a date, `;`, `if`, `then`, `else`, `endif`, `do` and `end`, and at a name whose token before is a name, a number or `)`
abbrev pub begins_between : TokenKind → TokenKind → Bool
begins_between (token.Date date) following = true
begins_between (token.Sign sign.Semicolon) following = true
begins_between (token.Key key.If) following = true
begins_between (token.Key key.Then) following = true
begins_between (token.Key key.Else) following = true
begins_between (token.Key key.Endif) following = true
begins_between (token.Key key.Do) following = true
begins_between (token.Key key.End) following = true
begins_between (token.Number digits) following = is_word following
begins_between (token.Word letters) following = is_word following
begins_between (token.Sign sign.ParenRight) following = is_word following
begins_between t following = false

-- stretches, with one more token at the front of the first
abbrev pub begin_stretch : TokenKind → List (List TokenKind) → List (List TokenKind)
begin_stretch t [] = (t ∷ []) ∷ []
begin_stretch t (stretch ∷ rest) = (t ∷ stretch) ∷ rest

-- tokens, cut where a stretch begins
abbrev pub stretches : List TokenKind → List (List TokenKind)
stretches [] = []
stretches (t ∷ []) = (t ∷ []) ∷ []
stretches (t ∷ following ∷ rest) =
    if begins_between t following then (t ∷ []) ∷ stretches (following ∷ rest) else begin_stretch t (stretches (following ∷ rest))

abbrev pub last_of : List (List TokenKind) → List TokenKind
last_of [] = []
last_of (stretch ∷ []) = stretch
last_of (stretch ∷ next ∷ rest) = last_of (next ∷ rest)

-- the stretch that these tokens end in
abbrev pub last_stretch : List TokenKind → List TokenKind
last_stretch ts = last_of (stretches ts)

-- more than 100 brackets or more than 96 ifs are open after these tokens, or more than 96 operators stand in the stretch that they end in
abbrev pub is_too_deep : List TokenKind → Bool
is_too_deep ts = int_lt (pos 100) (open_brackets ts) || int_lt (pos 96) (open_ifs ts) || nat_lt 96 (count is_operator (last_stretch ts))

-- the first of these tokens such that those before, up to and with it, pass a test; some stand before them all
abbrev pub first_reaching : (List TokenKind → Bool) → List TokenKind → List Token → Option Token
first_reaching test front [] = None
first_reaching test front (t ∷ rest) = if test (front ++ t.kind ∷ []) then Some t else first_reaching test (front ++ t.kind ∷ []) rest

-- the first token at which one of the three counts is passed
abbrev pub first_too_deep : List Token → Option Token
first_too_deep tokens = first_reaching is_too_deep [] tokens

-- no limit is passed at any token
pub record IsWithin (tokens : List Token) : Type 0 where
  pub sizes : first_too_large tokens ≡ None
  pub depths : first_too_deep tokens ≡ None
