-- The grammar of scripts: which tokens spell which number, condition, statement, item and script, over all ways to cut the tokens.
use Rattle.std.specs.Prelude.{ℕ, ◌*◌, ◌==◌, ℤ, pos, not, List, [], ◌∷◌, ◌++◌, IsTrue}
use Rattle.std.specs.List.{list_all}
use Rattle.pay_dates.specs.declared.day.Day.{Day}
use Rattle.pay_dates.specs.declared.roll.Rule.{Rule}
use Rattle.pay_dates.specs.declared.roll.Rule.TheVariants.{Stay, Following, Preceding, Modified}
use Rattle.pay_fixed.specs.Grammar.{SpellsRaw}
use Rattle.pay_lexer.specs.declared.token.Key.TheVariants as key
use Rattle.pay_lexer.specs.declared.token.Sign.{Sign}
use Rattle.pay_lexer.specs.declared.token.Sign.TheVariants as sign
use Rattle.pay_lexer.specs.declared.token.TokenKind.{TokenKind}
use Rattle.pay_lexer.specs.declared.token.TokenKind.TheVariants as token
use Rattle.pay_meaning.specs.Language.{Operator, add, subtract, multiply, divide, least, greatest, Number, literal, variable, spot, period, days}
use Rattle.pay_meaning.specs.Language.{negative, absolute, binary, Comparison, less, at_most, greater, at_least, equals, differs, bare, Condition}
use Rattle.pay_meaning.specs.Language.{compare, negation, conjunction, disjunction, Statement, assign, pay, choose, Body, done, and_then, Terms}
use Rattle.pay_meaning.specs.Language.{Item, plain, scheduled, Script}
use Rattle.pay_meaning.specs.Words.{IsName, unit_word}

-- these tokens in brackets
abbrev pub bracketed : List TokenKind → List TokenKind
bracketed ts = token.Sign sign.ParenLeft ∷ (ts ++ token.Sign sign.ParenRight ∷ [])

mutual
  -- terms under `+` and `-`, grouped to the left
  pub data SpellsNumber : List TokenKind → Number → Type 0 where
    one_term : (ts : List TokenKind) (n : Number) → SpellsTerm ts n → SpellsNumber ts n
    plus : (ts us : List TokenKind) (a b : Number) → SpellsNumber ts a → SpellsTerm us b → SpellsNumber (ts ++ token.Sign sign.Plus ∷ us) (binary add a b)
    minus : (ts us : List TokenKind) (a b : Number) → SpellsNumber ts a → SpellsTerm us b
        → SpellsNumber (ts ++ token.Sign sign.Minus ∷ us) (binary subtract a b)

  -- factors under `*` and `/`, grouped to the left
  pub data SpellsTerm : List TokenKind → Number → Type 0 where
    one_factor : (ts : List TokenKind) (n : Number) → SpellsFactor ts n → SpellsTerm ts n
    times : (ts us : List TokenKind) (a b : Number) → SpellsTerm ts a → SpellsFactor us b → SpellsTerm (ts ++ token.Sign sign.Star ∷ us) (binary multiply a b)
    over : (ts us : List TokenKind) (a b : Number) → SpellsTerm ts a → SpellsFactor us b → SpellsTerm (ts ++ token.Sign sign.Slash ∷ us) (binary divide a b)

  -- an atom with any number of minus signs before it
  pub data SpellsFactor : List TokenKind → Number → Type 0 where
    one_atom : (ts : List TokenKind) (n : Number) → SpellsAtom ts n → SpellsFactor ts n
    minus_sign : (ts : List TokenKind) (n : Number) → SpellsFactor ts n → SpellsFactor (token.Sign sign.Minus ∷ ts) (negative n)

  -- a number token that spells a raw, a name, a number in brackets, or one of the words with brackets
  pub data SpellsAtom : List TokenKind → Number → Type 0 where
    of_literal : (digits : List ℕ) (raw : ℤ) → SpellsRaw digits raw → SpellsAtom (token.Number digits ∷ []) (literal raw)
    of_variable : (name : List ℕ) → IsName name → SpellsAtom (token.Word name ∷ []) (variable name)
    in_brackets : (ts : List TokenKind) (n : Number) → SpellsNumber ts n → SpellsAtom (bracketed ts) n
    of_least : (ts : List TokenKind) (n : Number) → SpellsArguments least ts n → SpellsAtom (token.Key key.Min ∷ bracketed ts) n
    of_greatest : (ts : List TokenKind) (n : Number) → SpellsArguments greatest ts n → SpellsAtom (token.Key key.Max ∷ bracketed ts) n
    of_absolute : (ts : List TokenKind) (n : Number) → SpellsNumber ts n → SpellsAtom (token.Key key.Abs ∷ bracketed ts) (absolute n)
    of_spot : SpellsAtom (token.Key key.Spot ∷ bracketed []) spot
    of_period : SpellsAtom (token.Key key.Period ∷ bracketed []) period
    of_days : SpellsAtom (token.Key key.Days ∷ bracketed []) days

  -- two numbers or more with a comma between each two, under an operator, grouped to the left
  pub data SpellsArguments : Operator → List TokenKind → Number → Type 0 where
    two : (op : Operator) (ts us : List TokenKind) (a b : Number) → SpellsNumber ts a → SpellsNumber us b
        → SpellsArguments op (ts ++ token.Sign sign.Comma ∷ us) (binary op a b)
    one_more_number : (op : Operator) (ts us : List TokenKind) (a b : Number) → SpellsArguments op ts a → SpellsNumber us b
        → SpellsArguments op (ts ++ token.Sign sign.Comma ∷ us) (binary op a b)

-- the sign of a comparison
abbrev pub sign_of : Comparison → Sign
sign_of less = sign.Less
sign_of at_most = sign.LessEq
sign_of greater = sign.More
sign_of at_least = sign.MoreEq
sign_of equals = sign.Equals
sign_of differs = sign.Differs

mutual
  -- conjunctions under `or`, grouped to the left
  pub data SpellsCondition : List TokenKind → Condition → Type 0 where
    one_conjunction : (ts : List TokenKind) (c : Condition) → SpellsConjunction ts c → SpellsCondition ts c
    or_else : (ts us : List TokenKind) (a b : Condition) → SpellsCondition ts a → SpellsConjunction us b
        → SpellsCondition (ts ++ token.Key key.Or ∷ us) (disjunction a b)

  -- negations under `and`, grouped to the left
  pub data SpellsConjunction : List TokenKind → Condition → Type 0 where
    one_negation : (ts : List TokenKind) (c : Condition) → SpellsNegation ts c → SpellsConjunction ts c
    and_also : (ts us : List TokenKind) (a b : Condition) → SpellsConjunction ts a → SpellsNegation us b
        → SpellsConjunction (ts ++ token.Key key.And ∷ us) (conjunction a b)

  -- two numbers with the sign of a comparison between them, or a condition in brackets, with any number of `not`s before it
  pub data SpellsNegation : List TokenKind → Condition → Type 0 where
    not_sign : (ts : List TokenKind) (c : Condition) → SpellsNegation ts c → SpellsNegation (token.Key key.Not ∷ ts) (negation c)
    two_numbers : (op : Comparison) (ts us : List TokenKind) (a b : Number) → SpellsNumber ts a → SpellsNumber us b
        → SpellsNegation (ts ++ token.Sign (sign_of op) ∷ us) (compare op a b bare)
    condition_in_brackets : (ts : List TokenKind) (c : Condition) → SpellsCondition ts c → SpellsNegation (bracketed ts) c

-- `name = number`, or `leg pays number`
pub data SpellsSimple : List TokenKind → Statement → Type 0 where
  assignment : (name : List ℕ) (ts : List TokenKind) (n : Number) → IsName name → SpellsNumber ts n
      → SpellsSimple (token.Word name ∷ token.Sign sign.Equals ∷ ts) (assign name n)
  payment : (leg : List ℕ) (ts : List TokenKind) (n : Number) → IsName leg → SpellsNumber ts n
      → SpellsSimple (token.Word leg ∷ token.Key key.Pays ∷ ts) (pay leg n)

mutual
  -- one of these or an `if`, with a `;` after it or none
  pub data SpellsStatement : List TokenKind → Statement → Type 0 where
    simple : (ts : List TokenKind) (s : Statement) → SpellsSimple ts s → SpellsStatement ts s
    simple_ended : (ts : List TokenKind) (s : Statement) → SpellsSimple ts s → SpellsStatement (ts ++ token.Sign sign.Semicolon ∷ []) s
    choice : (ts : List TokenKind) (s : Statement) → SpellsChoice ts s → SpellsStatement ts s
    choice_ended : (ts : List TokenKind) (s : Statement) → SpellsChoice ts s → SpellsStatement (ts ++ token.Sign sign.Semicolon ∷ []) s

  -- `if condition then statements endif`, or `if condition then statements else statements endif`
  pub data SpellsChoice : List TokenKind → Statement → Type 0 where
    without_else : (ts us : List TokenKind) (c : Condition) (a : Body) → SpellsCondition ts c → SpellsBody us a
        → SpellsChoice (token.Key key.If ∷ (ts ++ token.Key key.Then ∷ (us ++ token.Key key.Endif ∷ []))) (choose c a done)
    with_else : (ts us vs : List TokenKind) (c : Condition) (a b : Body) → SpellsCondition ts c → SpellsBody us a → SpellsBody vs b
        → SpellsChoice (token.Key key.If ∷ (ts ++ token.Key key.Then ∷ (us ++ token.Key key.Else ∷ (vs ++ token.Key key.Endif ∷ [])))) (choose c a b)

  -- any number of statements
  pub data SpellsBody : List TokenKind → Body → Type 0 where
    no_statement : SpellsBody [] done
    one_more : (ts us : List TokenKind) (b : Body) (s : Statement) → SpellsBody ts b → SpellsStatement us s → SpellsBody (ts ++ us) (and_then b s)

-- a number token without a point, and the count that it is; a raw is a ten-thousandth
pub record SpellsCount (digits : List ℕ) (count : ℕ) : Type 0 where
  pub no_point : IsTrue (list_all (λ byte. not (byte == 46)) digits)
  pub value : SpellsRaw digits (pos (count * 10_000))

-- the word of a rule, if there is one
abbrev pub rule_tokens : Rule → List TokenKind
rule_tokens Stay = []
rule_tokens Following = token.Key key.Following ∷ []
rule_tokens Preceding = token.Key key.Preceding ∷ []
rule_tokens Modified = token.Key key.Modified ∷ []

-- `schedule from date to date every count unit rule do`, by the digits of the count
abbrev pub schedule_tokens : Terms → List ℕ → List TokenKind
schedule_tokens terms digits =
    token.Key key.Schedule ∷ token.Key key.From ∷ token.Date terms.first ∷ token.Key key.To ∷ token.Date terms.last ∷ token.Key key.Every
    ∷ token.Number digits ∷ token.Word (unit_word terms.unit) ∷ (rule_tokens terms.rule ++ token.Key key.Do ∷ [])

-- a date, and the statements on it; or a schedule, the statements on its dates, and `end`
pub data SpellsItem : List TokenKind → Item → Type 0 where
  dated : (date : Day) (ts : List TokenKind) (b : Body) → SpellsBody ts b → SpellsItem (token.Date date ∷ ts) (plain date b)
  rolled : (terms : Terms) (digits : List ℕ) (ts : List TokenKind) (b : Body) → SpellsCount digits terms.every → SpellsBody ts b
      → SpellsItem (schedule_tokens terms digits ++ (ts ++ token.Key key.End ∷ [])) (scheduled terms b)

-- any number of items
pub data SpellsScript : List TokenKind → Script → Type 0 where
  no_item : SpellsScript [] []
  one_more_item : (ts us : List TokenKind) (items : Script) (i : Item) → SpellsScript ts items → SpellsItem us i → SpellsScript (ts ++ us) (items ++ i ∷ [])

-- the tokens spell no script
abbrev pub SpellsNoScript : List TokenKind → Type 0
SpellsNoScript ts = (s : Script) → ¬ SpellsScript ts s
