-- The laws of tokens: a text spells one list of tokens or has one first place where nothing begins, and reading it from the front finds which.
use Rattle.std.specs.Prelude.{◌≡◌, ℕ, ◌≤◌, ◌<◌, List, [], ◌∷◌, length, slice_range, Some, Ok, Err, is_some}
use Rattle.pay_meaning.specs.Words.{is_keyword}
use Rattle.pay_lexer.specs.declared.token.Token.{Token}
use Rattle.pay_lexer.specs.declared.token.TokenKind.{TokenKind}
use Rattle.pay_lexer.specs.Tokens.{SpellsToken, key_of}
use Rattle.pay_lexer.specs.Spelling.{SpellsTokens, IsBadPlace}
use Rattle.pay_lexer.specs.Lexing.{tokens_in, kinds_in, kinds, kinds_of}

-- the tokens that are read from a text are spelled by it
abbrev pub TokensAreSpelled : Type 0
TokensAreSpelled = (text : List ℕ) (ts : List Token) → tokens_in text ≡ Ok ts → SpellsTokens text ts

-- the tokens that a text spells are read from it
abbrev pub SpelledTokensAreRead : Type 0
SpelledTokensAreRead = (text : List ℕ) (ts : List Token) → SpellsTokens text ts → tokens_in text ≡ Ok ts

-- a text spells one list of tokens at most
abbrev pub OneTokenList : Type 0
OneTokenList = (text : List ℕ) (ts us : List Token) → SpellsTokens text ts → SpellsTokens text us → ts ≡ us

-- the place at which the reading of a text ends is the first one where nothing begins
abbrev pub BadPlaceIsFirst : Type 0
BadPlaceIsFirst = (text : List ℕ) (bad : ℕ) → tokens_in text ≡ Err bad → IsBadPlace text bad

-- at the first place where nothing begins the reading of a text ends
abbrev pub FirstBadPlaceIsRead : Type 0
FirstBadPlaceIsRead = (text : List ℕ) (bad : ℕ) → IsBadPlace text bad → tokens_in text ≡ Err bad

-- a text has one such place at most, and none where it spells tokens
abbrev pub OneBadPlace : Type 0
OneBadPlace = (text : List ℕ) (bad : ℕ) → IsBadPlace text bad
    → ((other : ℕ) → IsBadPlace text other → bad ≡ other) × ((ts : List Token) → SpellsTokens text ts → ⊥)

-- a token has bytes of the text, and they spell what it is
pub record IsOfSlice (text : List ℕ) (t : Token) : Type 0 where
  pub rises : t.start < t.end
  pub within : t.end ≤ length text
  pub spelled : SpellsToken (slice_range text t.start t.end) t.kind

-- each of these tokens has bytes of the text that spell it, and begins no sooner than at a place and than the token before it ends
abbrev pub AreSlices : List ℕ → ℕ → List Token → Type 0
AreSlices text place [] = Unit {0}
AreSlices text place (t ∷ ts) = IsOfSlice text t × (place ≤ t.start) × AreSlices text t.end ts

-- the tokens of a text are the meaning of slices of it, which rise and don't overlap
abbrev pub TokensAreSlices : Type 0
TokensAreSlices = (text : List ℕ) (ts : List Token) → SpellsTokens text ts → AreSlices text 0 ts

-- the tokens of a text are at most as many as its bytes
abbrev pub NoMoreTokensThanBytes : Type 0
NoMoreTokensThanBytes = (text : List ℕ) (ts : List Token) → SpellsTokens text ts → length ts ≤ length text

-- reading without places finds what the tokens are
abbrev pub KindsAreOfTokens : Type 0
KindsAreOfTokens = (text : List ℕ) → kinds_in text ≡ kinds_of (tokens_in text)

-- the kinds of tokens that are read from a text are those of the tokens that it spells
abbrev pub ReadKindsAreSpelled : Type 0
ReadKindsAreSpelled = (text : List ℕ) (ks : List TokenKind) → kinds_in text ≡ Some ks → (ts : List Token) × (kinds ts ≡ ks) × SpellsTokens text ts

-- the words that the language keeps for itself are those with a key
abbrev pub KeywordsAgree : Type 0
KeywordsAgree = (letters : List ℕ) → is_keyword letters ≡ is_some (key_of letters)
