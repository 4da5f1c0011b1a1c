-- The tokens of the canonical text of a script, and that they spell it.
use Rattle.std.proofs.Common.{◌≡◌, ℕ, ◌*◌, ◌/◌, ◌%◌, ◌==◌, false, not, IsTrue, ℤ, pos, ◌≤ℤ◌, int_lt, List, [], ◌∷◌, ◌++◌, append-nil, append_assoc}
use Rattle.std.proofs.Common.{refl, arith}
use Rattle.std.specs.Fmt.{decimal}
use Rattle.std.specs.List.{list_all}
use Rattle.std.proofs.lemmas.Bool.{and_from}
use Rattle.std.proofs.lemmas.Bool.Decides.{nat_tests}
use Rattle.pay_dates.specs.Days.{IsDay}
use Rattle.pay_fixed.specs.Round.{IsRaw}
use Rattle.pay_fixed.specs.Grammar.{AreDigits, SpellsRaw}
use Rattle.pay_fixed.specs.Decimal.{decimal_text}
use Rattle.pay_fixed.proofs.AsSpelled.{raw-spelled}
use Rattle.pay_fixed.proofs.Text.{text-spells, reads_back}
use Rattle.pay_lexer.specs.declared.token.Key.TheVariants as key
use Rattle.pay_lexer.specs.declared.token.Sign.TheVariants as sign
use Rattle.pay_lexer.specs.declared.token.TokenKind.{TokenKind}
use Rattle.pay_lexer.specs.declared.token.TokenKind.TheVariants as token
use Rattle.pay_meaning.specs.Language.{Operator, add, subtract, multiply, divide, least, greatest, Number, literal, variable, spot, period, days}
use Rattle.pay_meaning.specs.Language.{negative, absolute, binary, Note, bare, smoothed, Condition, compare, negation, conjunction, disjunction, settled}
use Rattle.pay_meaning.specs.Language.{sure, Statement, assign, pay, choose, group, Body, done, next, Item, plain, scheduled, Script}
use Rattle.pay_meaning.specs.Words.{IsName}
use Rattle.pay_text.specs.Text.{unless_empty}
use Rattle.pay_grammar.specs.Grammar.{sign_of, bracketed, SpellsNumber, one_term, plus, minus, one_factor, times, over, SpellsFactor, one_atom, minus_sign}
use Rattle.pay_grammar.specs.Grammar.{SpellsAtom, of_literal, of_variable, in_brackets, of_least, of_greatest, of_absolute, of_spot, of_period}
use Rattle.pay_grammar.specs.Grammar.{of_days, two, SpellsCondition, one_conjunction, or_else, one_negation, and_also, SpellsNegation, not_sign}
use Rattle.pay_grammar.specs.Grammar.{two_numbers, condition_in_brackets, assignment, payment, SpellsStatement, simple_ended, choice, SpellsChoice}
use Rattle.pay_grammar.specs.Grammar.{without_else, with_else, SpellsBody, no_statement, one_more, SpellsCount, schedule_tokens, SpellsItem, dated, rolled}
use Rattle.pay_grammar.specs.Grammar.{SpellsScript, no_item, one_more_item}

-- what texts can write: each literal within the limit and not below zero, and each name a name
abbrev pub IsWritten : Number → Type 0
IsWritten (literal raw) = (pos 0 ≤ℤ raw) × IsRaw raw
IsWritten (variable name) = IsName name
IsWritten spot = Unit {0}
IsWritten period = Unit {0}
IsWritten days = Unit {0}
IsWritten (negative side) = IsWritten side
IsWritten (absolute side) = IsWritten side
IsWritten (binary op left right) = IsWritten left × IsWritten right

-- nothing is said beside the numbers of a comparison
abbrev pub IsBare : Note → Type 0
IsBare bare = Unit {0}
IsBare (smoothed smooth) = ⊥

-- the same of a condition, and that it is no truth literal, asks none that is sure, and has no smoothing
abbrev pub IsWrittenCondition : Condition → Type 0
IsWrittenCondition (compare op left right note) = IsWritten left × IsWritten right × IsBare note
IsWrittenCondition (negation side) = IsWrittenCondition side
IsWrittenCondition (conjunction left right) = IsWrittenCondition left × IsWrittenCondition right
IsWrittenCondition (disjunction left right) = IsWrittenCondition left × IsWrittenCondition right
IsWrittenCondition (settled answer) = ⊥
IsWrittenCondition (sure answer side) = ⊥

abbrev mutual
  -- the same of a statement, and that it is no group
  pub IsWrittenStatement : Statement → Type 0
  IsWrittenStatement (assign name number) = IsName name × IsWritten number
  IsWrittenStatement (pay leg number) = IsName leg × IsWritten number
  IsWrittenStatement (choose condition yes_part no_part) = IsWrittenCondition condition × IsWrittenBody yes_part × IsWrittenBody no_part
  IsWrittenStatement (group body) = ⊥

  pub IsWrittenBody : Body → Type 0
  IsWrittenBody done = Unit {0}
  IsWrittenBody (next statement rest) = IsWrittenStatement statement × IsWrittenBody rest

-- the dates of an item are days, and the count of a schedule is a number within the limit
abbrev pub IsWrittenItem : Item → Type 0
IsWrittenItem (plain date body) = IsDay date × IsWrittenBody body
IsWrittenItem (scheduled terms body) = IsDay terms.first × IsDay terms.last × IsRaw (pos (terms.every * 10_000)) × IsWrittenBody body

abbrev pub IsWrittenScript : Script → Type 0
IsWrittenScript [] = Unit {0}
IsWrittenScript (item ∷ rest) = IsWrittenItem item × IsWrittenScript rest

-- two numbers with a sign between them, in brackets
abbrev pub signed_tokens : List TokenKind → TokenKind → List TokenKind → List TokenKind
signed_tokens left t right = bracketed (left ++ t ∷ right)

-- the tokens of two numbers under an operator
abbrev pub binary_tokens : Operator → List TokenKind → List TokenKind → List TokenKind
binary_tokens add left right = signed_tokens left (token.Sign sign.Plus) right
binary_tokens subtract left right = signed_tokens left (token.Sign sign.Minus) right
binary_tokens multiply left right = signed_tokens left (token.Sign sign.Star) right
binary_tokens divide left right = signed_tokens left (token.Sign sign.Slash) right
binary_tokens least left right = token.Key key.Min ∷ signed_tokens left (token.Sign sign.Comma) right
binary_tokens greatest left right = token.Key key.Max ∷ signed_tokens left (token.Sign sign.Comma) right

-- the tokens of a number
abbrev pub number_tokens : Number → List TokenKind
number_tokens (literal raw) = token.Number (decimal_text raw) ∷ []
number_tokens (variable name) = token.Word name ∷ []
number_tokens spot = token.Key key.Spot ∷ bracketed []
number_tokens period = token.Key key.Period ∷ bracketed []
number_tokens days = token.Key key.Days ∷ bracketed []
number_tokens (negative side) = token.Sign sign.Minus ∷ number_tokens side
number_tokens (absolute side) = token.Key key.Abs ∷ bracketed (number_tokens side)
number_tokens (binary op left right) = binary_tokens op (number_tokens left) (number_tokens right)

-- the tokens of a line: a name, what stands between it and its number, the number and `;`
abbrev pub line_tokens : List ℕ → TokenKind → Number → List TokenKind
line_tokens name middle number = token.Word name ∷ middle ∷ (number_tokens number ++ token.Sign sign.Semicolon ∷ [])

-- the tokens of a condition; a truth literal and a condition that is sure are in no script that is read
abbrev pub condition_tokens : Condition → List TokenKind
condition_tokens (compare op left right note) = number_tokens left ++ token.Sign (sign_of op) ∷ number_tokens right
condition_tokens (negation side) = token.Key key.Not ∷ condition_tokens side
condition_tokens (conjunction left right) = signed_tokens (condition_tokens left) (token.Key key.And) (condition_tokens right)
condition_tokens (disjunction left right) = signed_tokens (condition_tokens left) (token.Key key.Or) (condition_tokens right)
condition_tokens (settled answer) = []
condition_tokens (sure answer side) = condition_tokens side

abbrev mutual
  pub statement_tokens : Statement → List TokenKind
  statement_tokens (assign name number) = line_tokens name (token.Sign sign.Equals) number
  statement_tokens (pay leg number) = line_tokens leg (token.Key key.Pays) number
  statement_tokens (choose condition yes_part no_part) =
      token.Key key.If ∷ (condition_tokens condition ++ token.Key key.Then ∷ (body_tokens yes_part
      ++ (unless_empty no_part (token.Key key.Else ∷ body_tokens no_part) ++ token.Key key.Endif ∷ [])))
  statement_tokens (group body) = body_tokens body

  pub body_tokens : Body → List TokenKind
  body_tokens done = []
  body_tokens (next statement rest) = statement_tokens statement ++ body_tokens rest

abbrev pub item_tokens : Item → List TokenKind
item_tokens (plain date body) = token.Date date ∷ body_tokens body
item_tokens (scheduled terms body) = schedule_tokens terms (decimal terms.every) ++ (body_tokens body ++ token.Key key.End ∷ [])

abbrev pub script_tokens : Script → List TokenKind
script_tokens [] = []
script_tokens (item ∷ rest) = item_tokens item ++ script_tokens rest

-- a factor is a number, and so is an atom a term
number_of : (ts : List TokenKind) (n : Number) → SpellsFactor ts n → SpellsNumber ts n
number_of ts n k = one_term ts n (one_factor ts n k)

literal_spelled : (raw : ℤ) → IsRaw raw → SpellsRaw (decimal_text raw) raw
literal_spelled raw h = raw-spelled (decimal_text raw) raw (reads_back raw h)

binary_spelled : (op : Operator) (ts us : List TokenKind) (a b : Number) → SpellsFactor ts a → SpellsFactor us b
    → SpellsAtom (binary_tokens op ts us) (binary op a b)
binary_spelled add ts us a b k l = in_brackets _ _ (plus ts us a b (number_of ts a k) (one_factor us b l))
binary_spelled subtract ts us a b k l = in_brackets _ _ (minus ts us a b (number_of ts a k) (one_factor us b l))
binary_spelled multiply ts us a b k l = in_brackets _ _ (one_term _ _ (times ts us a b (one_factor ts a k) l))
binary_spelled divide ts us a b k l = in_brackets _ _ (one_term _ _ (over ts us a b (one_factor ts a k) l))
binary_spelled least ts us a b k l = of_least _ _ (two least ts us a b (number_of ts a k) (number_of us b l))
binary_spelled greatest ts us a b k l = of_greatest _ _ (two greatest ts us a b (number_of ts a k) (number_of us b l))

-- the tokens of a number spell it
factor_spelled : (n : Number) → IsWritten n → SpellsFactor (number_tokens n) n
factor_spelled (literal raw) h = one_atom _ _ (of_literal (decimal_text raw) raw (literal_spelled raw h.1))
factor_spelled (variable name) h = one_atom _ _ (of_variable name h)
factor_spelled spot h = one_atom _ _ of_spot
factor_spelled period h = one_atom _ _ of_period
factor_spelled days h = one_atom _ _ of_days
factor_spelled (negative side) h = minus_sign _ _ (factor_spelled side h)
factor_spelled (absolute side) h = one_atom _ _ (of_absolute _ _ (number_of _ _ (factor_spelled side h)))
factor_spelled (binary op left right) h = one_atom _ _ (binary_spelled op _ _ left right (factor_spelled left h.0) (factor_spelled right h.1))

number_spelled : (n : Number) → IsWritten n → SpellsNumber (number_tokens n) n
number_spelled n h = number_of (number_tokens n) n (factor_spelled n h)

-- the tokens of a condition spell it, as one that `not` may stand before
negation_spelled : (c : Condition) → IsWrittenCondition c → SpellsNegation (condition_tokens c) c
negation_spelled (compare op left right bare) h = two_numbers op _ _ left right (number_spelled left h.0) (number_spelled right h.1)
negation_spelled (compare op left right (smoothed smooth)) h = absurd h.2
negation_spelled (negation side) h = not_sign _ _ (negation_spelled side h)
negation_spelled (conjunction left right) h =
    let first = one_negation _ _ (negation_spelled left h.0) in
    condition_in_brackets _ _ (one_conjunction _ _ (and_also _ _ left right first (negation_spelled right h.1)))
negation_spelled (disjunction left right) h =
    let first = one_conjunction _ _ (one_negation _ _ (negation_spelled left h.0)) in
    condition_in_brackets _ _ (or_else _ _ left right first (one_negation _ _ (negation_spelled right h.1)))
negation_spelled (settled answer) h = absurd h
negation_spelled (sure answer side) h = absurd h

condition_spelled : (c : Condition) → IsWrittenCondition c → SpellsCondition (condition_tokens c) c
condition_spelled c h = one_conjunction _ _ (one_negation _ _ (negation_spelled c h))

-- where the second branch has no statements, no `else` stands
choice_spelled : (c : Condition) (a b : Body) → SpellsCondition (condition_tokens c) c → SpellsBody (body_tokens a) a → SpellsBody (body_tokens b) b
    → SpellsChoice (statement_tokens (choose c a b)) (choose c a b)
choice_spelled c a done k l m = without_else (condition_tokens c) (body_tokens a) c a k l
choice_spelled c a (next s rest) k l m = with_else (condition_tokens c) (body_tokens a) (body_tokens (next s rest)) c a (next s rest) k l m

-- one statement more in front
first_statement : (us : List TokenKind) (s : Statement) (ts : List TokenKind) (b : Body) → SpellsStatement us s → SpellsBody ts b
    → SpellsBody (us ++ ts) (next s b)
first_statement us s _ _ k no_statement = rw append-nil (one_more [] us done s no_statement k)
first_statement us s _ _ k (one_more ts vs b last l m) = rw (← append_assoc) (one_more (us ++ ts) vs (next s b) last (first_statement us s ts b k l) m)

mutual
  statement_spelled : (s : Statement) → IsWrittenStatement s → SpellsStatement (statement_tokens s) s
  statement_spelled (assign name number) h =
      simple_ended (token.Word name ∷ token.Sign sign.Equals ∷ number_tokens number) _
      (assignment name (number_tokens number) number h.0 (number_spelled number h.1))
  statement_spelled (pay leg number) h =
      simple_ended (token.Word leg ∷ token.Key key.Pays ∷ number_tokens number) _
      (payment leg (number_tokens number) number h.0 (number_spelled number h.1))
  statement_spelled (choose c a b) h =
      choice _ _ (choice_spelled c a b (condition_spelled c h.0) (body_spelled a h.1) (body_spelled b h.2))
  statement_spelled (group body) h = absurd h

  body_spelled : (b : Body) → IsWrittenBody b → SpellsBody (body_tokens b) b
  body_spelled done h = no_statement
  body_spelled (next statement rest) h = first_statement _ _ _ _ (statement_spelled statement h.0) (body_spelled rest h.1)

-- the text of a number without a fraction is its digits
pub count_text : (n : ℕ) → decimal_text (pos (n * 10_000)) ≡ decimal n
unfolding decimal_text
count_text n =
    let whole : n * 10_000 / 10_000 ≡ n = omega arith in
    let rest : n * 10_000 % 10_000 ≡ 0 = omega arith in
    let plain : int_lt (pos (n * 10_000)) (pos 0) ≡ false = grind (arith, nat_tests) in
    rw (plain, whole, rest) (append-nil (decimal n))

no_digit_is_point : (ds : List ℕ) → AreDigits ds → IsTrue (list_all (λ byte. not (byte == 46)) ds)
no_digit_is_point [] h = refl
no_digit_is_point (d ∷ ds) h =
    and_from (not (d == 46)) (list_all (λ byte. not (byte == 46)) ds) (grind (arith, nat_tests, h.0)) (no_digit_is_point ds h.1)

-- the digits of a count spell it
count_spelled : (n : ℕ) → IsRaw (pos (n * 10_000)) → SpellsCount (decimal n) n
count_spelled n h =
    let whole : n * 10_000 / 10_000 ≡ n = omega arith in
    let digits : AreDigits (decimal n) = rw whole at (text-spells (pos (n * 10_000)) h).spells_whole.1 in
    record {
      no_point = no_digit_is_point (decimal n) digits;
      value = rw (count_text n) at (literal_spelled (pos (n * 10_000)) h);
    }

item_spelled : (i : Item) → IsWrittenItem i → SpellsItem (item_tokens i) i
item_spelled (plain date body) h = dated date (body_tokens body) body (body_spelled body h.1)
item_spelled (scheduled terms body) h = rolled terms (decimal terms.every) (body_tokens body) body (count_spelled terms.every h.2) (body_spelled body h.3)

-- one item more in front
first_item : (us : List TokenKind) (i : Item) (ts : List TokenKind) (items : Script) → SpellsItem us i → SpellsScript ts items
    → SpellsScript (us ++ ts) (i ∷ items)
first_item us i _ _ k no_item = rw append-nil (one_more_item [] us [] i no_item k)
first_item us i _ _ k (one_more_item ts vs items last l m) = rw (← append_assoc) (one_more_item (us ++ ts) vs (i ∷ items) last (first_item us i ts items k l) m)

-- the tokens of a script spell it
pub script_spelled : (s : Script) → IsWrittenScript s → SpellsScript (script_tokens s) s
script_spelled [] h = no_item
script_spelled (item ∷ rest) h = first_item _ _ _ _ (item_spelled item h.0) (script_spelled rest h.1)
