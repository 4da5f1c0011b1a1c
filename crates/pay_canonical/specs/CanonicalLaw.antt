-- The law of the canonical text: it spells its script, within the limits of tokens, and the same script is read back from it.
use Rattle.std.specs.Prelude.{◌≡◌, ℕ, List, Some, Ok}
use Rattle.pay_lexer.specs.declared.token.Token.{Token}
use Rattle.pay_lexer.specs.Spelling.{SpellsTokens}
use Rattle.pay_lexer.specs.Lexing.{tokens_in}
use Rattle.pay_meaning.specs.Language.{Script}
use Rattle.pay_grammar.specs.Grammar.{SpellsScript}
use Rattle.pay_grammar.specs.Reading.{script_in}
use Rattle.pay_grammar.specs.TokenLimits.{kinds, IsWithin}
use Rattle.pay_text.specs.Text.{script_text}

-- the canonical text of a script spells tokens that spell the same script and pass no limit
pub record IsCanonical (s : Script) : Type 0 where
  pub tokens : List Token
  pub lexed : SpellsTokens (script_text s) tokens
  pub spelled : SpellsScript (kinds tokens) s
  pub within : IsWithin tokens

-- a script that some text spells within the limits is spelled by its canonical text within them
abbrev pub CanonicalTextSpells : Type 0
CanonicalTextSpells =
    (text : List ℕ) (ts : List Token) (s : Script) → SpellsTokens text ts → SpellsScript (kinds ts) s → IsWithin ts → IsCanonical s

-- the tokens that are read from the canonical text of a script pass no limit, and the same script is read from them
pub record ReadsBack (s : Script) : Type 0 where
  pub tokens : List Token
  pub lexed : tokens_in (script_text s) ≡ Ok tokens
  pub parsed : script_in (kinds tokens) ≡ Some s
  pub within : IsWithin tokens

-- a script that some text spells within the limits is read back from its canonical text
abbrev pub CanonicalTextReadsBack : Type 0
CanonicalTextReadsBack =
    (text : List ℕ) (ts : List Token) (s : Script) → SpellsTokens text ts → SpellsScript (kinds ts) s → IsWithin ts → ReadsBack s
