-- Laws of the grammar: reading one token at a time finds the script that the tokens spell, and there is at most one.
use Rattle.std.specs.Prelude.{◌≡◌, List, Some}
use Rattle.pay_meaning.specs.Language.{Script}
use Rattle.pay_lexer.specs.declared.token.TokenKind.{TokenKind}
use Rattle.pay_grammar.specs.Grammar.{SpellsScript}
use Rattle.pay_grammar.specs.Reading.{script_in}

-- the tokens spell the script that is read from them
abbrev pub ScriptIsSpelled : Type 0
ScriptIsSpelled = (ts : List TokenKind) (s : Script) → script_in ts ≡ Some s → SpellsScript ts s

-- a script that the tokens spell is read from them
abbrev pub SpelledScriptIsRead : Type 0
SpelledScriptIsRead = (ts : List TokenKind) (s : Script) → SpellsScript ts s → script_in ts ≡ Some s

-- no tokens spell two scripts
abbrev pub OneScript : Type 0
OneScript = (ts : List TokenKind) (s other : Script) → SpellsScript ts s → SpellsScript ts other → s ≡ other
