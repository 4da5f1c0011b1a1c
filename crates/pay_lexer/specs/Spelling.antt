-- Which text spells which tokens, and which is the first place of a text where nothing begins.
use Rattle.std.specs.Prelude.{◌≡◌, ℕ, ◌+◌, ◌≤◌, nat_eq, codes, Bool, true, not, ◌||◌, IsTrue, IsFalse, List, [], ◌∷◌, ◌++◌, length, drop}
use Rattle.std.specs.Prelude.{if◌then◌else◌}
use Rattle.std.specs.List.{list_all, starts_with}
use Rattle.pay_lexer.specs.declared.fault.LexFault.{LexFault}
use Rattle.pay_lexer.specs.declared.fault.LexFault.TheVariants as fault
use Rattle.pay_lexer.specs.declared.token.Token.{Token}
use Rattle.pay_lexer.specs.declared.token.TokenKind.{TokenKind}
use Rattle.pay_lexer.specs.Tokens.{SpellsToken}

-- a space, a tab, or an end of line
abbrev pub is_blank : ℕ → Bool
is_blank byte = nat_eq byte 32 || nat_eq byte 9 || nat_eq byte 13 || nat_eq byte 10

-- a byte that ends no comment: any but a line feed
abbrev pub is_inside_line : ℕ → Bool
is_inside_line byte = not (nat_eq byte 10)

-- the text is at its end, or goes on with a line feed
abbrev pub ends_line : List ℕ → Bool
ends_line [] = true
ends_line (byte ∷ rest) = nat_eq byte 10

-- the text begins with `//`
abbrev pub begins_comment : List ℕ → Bool
begins_comment text = starts_with nat_eq text (codes "//")

-- `//`, and all that stands before the next line feed or the end of the text
pub record IsComment (bytes rest : List ℕ) : Type 0 where
  pub begins : IsTrue (begins_comment bytes)
  pub one_line : IsTrue (list_all is_inside_line bytes)
  pub whole : IsTrue (ends_line rest)

-- no front of the text that spells a token is longer than this one
abbrev pub IsLongest : List ℕ → List ℕ → Type 0
IsLongest front rest = (other back : List ℕ) (kind : TokenKind) → other ++ back ≡ front ++ rest → SpellsToken other kind → length other ≤ length front

-- a token of so many bytes at a place
abbrev pub placed : ℕ → ℕ → TokenKind → Token
placed place size kind = record { kind = kind; start = place; end = place + size }

-- what stands at a place, before this rest of the text, and the tokens that it is: a blank or a comment is none, and elsewhere the longest token is one
pub data Stands : ℕ → List ℕ → List ℕ → List Token → Type 0 where
  blank : (place byte : ℕ) (rest : List ℕ) → IsTrue (is_blank byte) → Stands place (byte ∷ []) rest []
  comment : (place : ℕ) (bytes rest : List ℕ) → IsComment bytes rest → Stands place bytes rest []
  longest : (place : ℕ) (bytes rest : List ℕ) (kind : TokenKind) → SpellsToken bytes kind → IsLongest bytes rest → IsFalse (begins_comment (bytes ++ rest))
      → Stands place bytes rest (placed place (length bytes) kind ∷ [])

-- the text from this place on spells these tokens
pub data SpellsFrom : ℕ → List ℕ → List Token → Type 0 where
  at_end : (place : ℕ) → SpellsFrom place [] []
  one_more : (place : ℕ) (bytes rest : List ℕ) (ts us : List Token) → Stands place bytes rest ts → SpellsFrom (place + length bytes) rest us
      → SpellsFrom place (bytes ++ rest) (ts ++ us)

-- neither a blank, a comment nor a token begins at this place, with which this text begins
abbrev pub NothingBegins : ℕ → List ℕ → Type 0
NothingBegins place text = (bytes rest : List ℕ) (ts : List Token) → bytes ++ rest ≡ text → Stands place bytes rest ts → ⊥

-- of the text from this place on, the first place where nothing begins
pub data IsBadFrom : ℕ → List ℕ → ℕ → Type 0 where
  here : (place byte : ℕ) (rest : List ℕ) → NothingBegins place (byte ∷ rest) → IsBadFrom place (byte ∷ rest) place
  further : (place : ℕ) (bytes rest : List ℕ) (ts : List Token) (bad : ℕ) → Stands place bytes rest ts → IsBadFrom (place + length bytes) rest bad
      → IsBadFrom place (bytes ++ rest) bad

-- blanks and comments, and then a token
pub data LeadsToToken : ℕ → List ℕ → Type 0 where
  token_next : (place : ℕ) (bytes rest : List ℕ) (t : Token) → Stands place bytes rest (t ∷ []) → LeadsToToken place (bytes ++ rest)
  none_yet : (place : ℕ) (bytes rest : List ℕ) → Stands place bytes rest [] → LeadsToToken (place + length bytes) rest → LeadsToToken place (bytes ++ rest)

-- how many bytes the byte order mark has at the very start of a text: 3, or 0 where it doesn't stand there
abbrev pub mark_length : List ℕ → ℕ
mark_length text = if starts_with nat_eq text (239 ∷ 187 ∷ 191 ∷ []) then 3 else 0

-- the text spells these tokens, after its byte order mark if it has one
abbrev pub SpellsTokens : List ℕ → List Token → Type 0
SpellsTokens text ts = SpellsFrom (mark_length text) (drop (mark_length text) text) ts

-- the first place of the text where neither a blank, a comment nor a token begins
abbrev pub IsBadPlace : List ℕ → ℕ → Type 0
IsBadPlace text bad = IsBadFrom (mark_length text) (drop (mark_length text) text) bad

-- why the text from this place on is not cut into tokens: its first place where nothing begins, or want of memory
-- for a token that it has before any such place
abbrev pub IsCauseFrom : ℕ → List ℕ → LexFault → Type 0
IsCauseFrom place text (fault.BadByte bad) = IsBadFrom place text bad
IsCauseFrom place text fault.NoMemory = LeadsToToken place text

-- why a text is not cut into tokens
abbrev pub IsCause : List ℕ → LexFault → Type 0
IsCause text cause = IsCauseFrom (mark_length text) (drop (mark_length text) text) cause
