-- The limits of depth, as they are counted along the tokens.
use Rattle.std.specs.Prelude.{ℕ, ◌+◌, nat_lt, Bool, true, ◌||◌, List, [], ◌∷◌, ℤ, pos, ◌+ℤ◌, int_lt, Option, Some, None, if◌then◌else◌}
use Rattle.pay_lexer.specs.declared.token.Token.{Token}
use Rattle.pay_lexer.specs.declared.token.TokenKind.{TokenKind}
use Rattle.pay_grammar.specs.TokenLimits.{count, is_operator, open_brackets, open_ifs, begins_between, last_stretch}

-- the last of some tokens, by the first of them and the rest
abbrev pub last_token : TokenKind → List TokenKind → TokenKind
last_token first [] = first
last_token first (t ∷ rest) = last_token t rest

-- the last of tokens, if there is one
abbrev pub last_kind : List TokenKind → Option TokenKind
last_kind [] = None
last_kind (first ∷ rest) = Some (last_token first rest)

-- a stretch begins at a token, by the token before it: the first token of all begins one
abbrev pub begins_after : Option TokenKind → TokenKind → Bool
begins_after None t = true
begins_after (Some last) t = begins_between last t

-- what is counted of tokens: the brackets and the ifs that are open, the operators of the stretch that they end in, and the last token
pub record Depths : Type 0 where
  pub brackets : ℤ
  pub ifs : ℤ
  pub operators : ℕ
  pub last : Option TokenKind

-- before the first token
abbrev pub nothing_counted : Depths
nothing_counted = record { brackets = pos 0; ifs = pos 0; operators = 0; last = None }

-- with one more token
abbrev pub deeper : Depths → TokenKind → Depths
deeper d t = record {
  brackets = d.brackets +ℤ open_brackets (t ∷ []);
  ifs = d.ifs +ℤ open_ifs (t ∷ []);
  operators = (if begins_after d.last t then 0 else d.operators) + count is_operator (t ∷ []);
  last = Some t;
}

-- more than 100 brackets, more than 96 ifs, or more than 96 operators
abbrev pub is_deep : Depths → Bool
is_deep d = int_lt (pos 100) d.brackets || int_lt (pos 96) d.ifs || nat_lt 96 d.operators

-- the first token with which a limit is passed
abbrev pub first_deep : Depths → List Token → Option Token
first_deep d [] = None
first_deep d (t ∷ rest) = if is_deep (deeper d t.kind) then Some t else first_deep (deeper d t.kind) rest

-- all that is counted of tokens
abbrev pub depths_after : List TokenKind → Depths
depths_after ts = record { brackets = open_brackets ts; ifs = open_ifs ts; operators = count is_operator (last_stretch ts); last = last_kind ts }
