-- Each token of a text has the form of its kind.
use Rattle.std.proofs.Common.{ℕ, ◌+◌, List, [], ◌∷◌, ◌++◌, length, map, Option, Some, None}
use Rattle.pay_dates.specs.Days.{IsDay}
use Rattle.pay_lexer.specs.declared.token.Key.{Key}
use Rattle.pay_lexer.specs.declared.token.Token.{Token}
use Rattle.pay_lexer.specs.declared.token.TokenKind.{TokenKind}
use Rattle.pay_lexer.specs.declared.token.TokenKind.TheVariants as token
use Rattle.pay_lexer.specs.Forms.{lower, IsNumber}
use Rattle.pay_lexer.specs.Tokens.{key_of, key_or_word, SpellsToken, of_date, of_number, of_word, of_sign}
use Rattle.pay_lexer.specs.Spelling.{Stands, blank, comment, longest, SpellsFrom, at_end, one_more, SpellsTokens, mark_length}
use Rattle.pay_lexer.specs.Lexing.{kinds}

-- a date is a day, and the digits of a number are a number
abbrev pub HasForm : TokenKind → Type 0
HasForm (token.Date date) = IsDay date
HasForm (token.Number digits) = IsNumber digits
HasForm (token.Word letters) = Unit {0}
HasForm (token.Key k) = Unit {0}
HasForm (token.Sign s) = Unit {0}

abbrev pub HaveForms : List TokenKind → Type 0
HaveForms [] = Unit {0}
HaveForms (t ∷ ts) = HasForm t × HaveForms ts

word_form : (k : Option Key) (letters : List ℕ) → HasForm (key_or_word k letters)
word_form None letters = tt
word_form (Some k) letters = tt

token_form : (bytes : List ℕ) (kind : TokenKind) → SpellsToken bytes kind → HasForm kind
token_form _ _ (of_date date h) = h
token_form _ _ (of_number digits h) = h
token_form _ _ (of_word letters h) = word_form (key_of (map lower letters)) (map lower letters)
token_form _ _ (of_sign s) = tt

stands_form : (place : ℕ) (bytes rest : List ℕ) (ts us : List Token) → Stands place bytes rest ts → HaveForms (kinds us) → HaveForms (kinds (ts ++ us))
stands_form _ _ _ _ us (blank place byte rest h) k = k
stands_form _ _ _ _ us (comment place bytes rest h) k = k
stands_form _ _ _ _ us (longest place bytes rest kind s l h) k = (token_form bytes kind s, k)

forms_from : (place : ℕ) (text : List ℕ) (ts : List Token) → SpellsFrom place text ts → HaveForms (kinds ts)
forms_from _ _ _ (at_end place) = tt
forms_from _ _ _ (one_more place bytes rest ts us k l) = stands_form place bytes rest ts us k (forms_from (place + length bytes) rest us l)

-- the tokens that a text spells have their forms
pub token_forms : (text : List ℕ) (ts : List Token) → SpellsTokens text ts → HaveForms (kinds ts)
token_forms text ts k = forms_from (mark_length text) _ ts k

-- of tokens in a row each part has its forms
pub forms_front : (ts us : List TokenKind) → HaveForms (ts ++ us) → HaveForms ts
forms_front [] us h = tt
forms_front (t ∷ ts) us h = (h.0, forms_front ts us h.1)

pub forms_back : (ts us : List TokenKind) → HaveForms (ts ++ us) → HaveForms us
forms_back [] us h = h
forms_back (t ∷ ts) us h = forms_back ts us h.1
