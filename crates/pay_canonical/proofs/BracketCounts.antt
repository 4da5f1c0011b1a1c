-- The brackets that are open in the canonical text of a script: in a statement at most one more than it has operators.
use Rattle.std.proofs.Common.{◌≡◌, ℕ, zero, suc, ◌+◌, ◌≤◌, max, List, [], ◌∷◌, ◌++◌, if◌then◌else◌, refl, append_assoc, arith}
use Rattle.std.specs.Fmt.{decimal}
use Rattle.pay_dates.specs.declared.roll.Rule.{Rule}
use Rattle.pay_dates.specs.declared.roll.Rule.TheVariants.{Stay, Following, Preceding, Modified}
use Rattle.pay_lexer.specs.declared.token.Key.TheVariants as key
use Rattle.pay_lexer.specs.declared.token.Sign.TheVariants as sign
use Rattle.pay_lexer.specs.declared.token.TokenKind.{TokenKind}
use Rattle.pay_lexer.specs.declared.token.TokenKind.TheVariants as token
use Rattle.pay_meaning.specs.Language.{Operator, add, subtract, multiply, divide, least, greatest, Number, literal, variable, spot, period, days}
use Rattle.pay_meaning.specs.Language.{negative, absolute, binary, Comparison, less, at_most, greater, at_least, equals, differs, Condition, compare}
use Rattle.pay_meaning.specs.Language.{negation, conjunction, disjunction, settled, sure, Statement, assign, pay, choose, group, Body, done, next}
use Rattle.pay_meaning.specs.Language.{Terms, Item, plain, scheduled, Script}
use Rattle.pay_text.specs.Text.{unless_empty}
use Rattle.pay_grammar.specs.Grammar.{sign_of, rule_tokens, schedule_tokens}
use Rattle.pay_grammar.specs.TokenLimits.{is_open_bracket, is_closing_bracket}
use Rattle.pay_canonical.proofs.CanonicalTokens.{binary_tokens, number_tokens, condition_tokens, statement_tokens, body_tokens, item_tokens}
use Rattle.pay_canonical.proofs.CanonicalTokens.{script_tokens}
use Rattle.pay_canonical.proofs.OperatorCounts.{operators_on, condition_operators_on, statement_operators, body_operators, item_operators}
use Rattle.pay_canonical.proofs.OperatorCounts.{script_operators}

-- one less, or none
abbrev pub one_less : ℕ → ℕ
one_less zero = zero
one_less (suc n) = n

-- so many brackets are open with one more token
abbrev pub opened : ℕ → TokenKind → ℕ
opened n t = if is_open_bracket t then suc n else (if is_closing_bracket t then one_less n else n)

-- after each of these tokens at most so many brackets are open
abbrev pub StaysWithin : ℕ → ℕ → List TokenKind → Type 0
StaysWithin most n [] = Unit {0}
StaysWithin most n (t ∷ ts) = (opened n t ≤ most) × StaysWithin most (opened n t) ts

-- the most brackets that are open in a number
abbrev pub depth : Number → ℕ
depth (literal raw) = 0
depth (variable name) = 0
depth spot = 1
depth period = 1
depth days = 1
depth (negative side) = depth side
depth (absolute side) = suc (depth side)
depth (binary op left right) = suc (max (depth left) (depth right))

operators_grow : (n : Number) (k : ℕ) → k ≤ operators_on k n
operators_grow (literal raw) k = omega arith
operators_grow (variable name) k = omega arith
operators_grow spot k = omega arith
operators_grow period k = omega arith
operators_grow days k = omega arith
operators_grow (negative side) k = let more = operators_grow side (suc k) in omega arith
operators_grow (absolute side) k = let more = operators_grow side (suc k) in omega arith
operators_grow (binary op left right) k =
    let first = operators_grow left k in
    let second = operators_grow right (suc (operators_on k left)) in
    omega arith

-- each bracket but that of a word alone has an operator of its own
depth_operators : (n : Number) (k : ℕ) → k + depth n ≤ suc (operators_on k n)
depth_operators (literal raw) k = omega arith
depth_operators (variable name) k = omega arith
depth_operators spot k = omega arith
depth_operators period k = omega arith
depth_operators days k = omega arith
depth_operators (negative side) k = let h = depth_operators side (suc k) in omega arith
depth_operators (absolute side) k = let h = depth_operators side (suc k) in omega arith
depth_operators (binary op left right) k =
    let a = depth_operators left k in
    let b = depth_operators right (suc (operators_on k left)) in
    let first = operators_grow left k in
    let second = operators_grow right (suc (operators_on k left)) in
    omega arith

-- the most brackets that are open in a condition
abbrev pub condition_depth : Condition → ℕ
condition_depth (compare op left right note) = max (depth left) (depth right)
condition_depth (negation side) = condition_depth side
condition_depth (conjunction left right) = suc (max (condition_depth left) (condition_depth right))
condition_depth (disjunction left right) = suc (max (condition_depth left) (condition_depth right))
condition_depth (settled answer) = 0
condition_depth (sure answer side) = condition_depth side

condition_operators_grow : (c : Condition) (k : ℕ) → k ≤ condition_operators_on k c
condition_operators_grow (compare op left right note) k =
    let first = operators_grow left k in
    let second = operators_grow right (suc (operators_on k left)) in
    omega arith
condition_operators_grow (negation side) k = let more = condition_operators_grow side (suc k) in omega arith
condition_operators_grow (conjunction left right) k =
    let first = condition_operators_grow left k in
    let second = condition_operators_grow right (suc (condition_operators_on k left)) in
    omega arith
condition_operators_grow (disjunction left right) k =
    let first = condition_operators_grow left k in
    let second = condition_operators_grow right (suc (condition_operators_on k left)) in
    omega arith
condition_operators_grow (settled answer) k = omega arith
condition_operators_grow (sure answer side) k = condition_operators_grow side k

-- each bracket of a condition but that of a word alone has an operator of its own
condition_depth_operators : (c : Condition) (k : ℕ) → k + condition_depth c ≤ suc (condition_operators_on k c)
condition_depth_operators (compare op left right note) k =
    let a = depth_operators left k in
    let b = depth_operators right (suc (operators_on k left)) in
    let first = operators_grow left k in
    let second = operators_grow right (suc (operators_on k left)) in
    omega arith
condition_depth_operators (negation side) k = let h = condition_depth_operators side (suc k) in omega arith
condition_depth_operators (conjunction left right) k =
    let a = condition_depth_operators left k in
    let b = condition_depth_operators right (suc (condition_operators_on k left)) in
    let first = condition_operators_grow left k in
    let second = condition_operators_grow right (suc (condition_operators_on k left)) in
    omega arith
condition_depth_operators (disjunction left right) k =
    let a = condition_depth_operators left k in
    let b = condition_depth_operators right (suc (condition_operators_on k left)) in
    let first = condition_operators_grow left k in
    let second = condition_operators_grow right (suc (condition_operators_on k left)) in
    omega arith
condition_depth_operators (settled answer) k = omega arith
condition_depth_operators (sure answer side) k = condition_depth_operators side k

-- two numbers in a bracket that is open already, the sign between them, and the closing bracket
pair_stays : (most n : ℕ) (t : TokenKind) (ts us rest : List TokenKind) → opened (suc n) t ≡ suc n → suc n ≤ most
    → ((more : List TokenKind) → StaysWithin most (suc n) more → StaysWithin most (suc n) (ts ++ more))
    → ((more : List TokenKind) → StaysWithin most (suc n) more → StaysWithin most (suc n) (us ++ more))
    → StaysWithin most n rest → StaysWithin most (suc n) (((ts ++ t ∷ us) ++ token.Sign sign.ParenRight ∷ []) ++ rest)
pair_stays most n t ts us rest same small first second h =
    let closing : StaysWithin most (suc n) (us ++ token.Sign sign.ParenRight ∷ rest) = second (token.Sign sign.ParenRight ∷ rest) (omega arith, h) in
    let between : StaysWithin most (suc n) (t ∷ (us ++ token.Sign sign.ParenRight ∷ rest)) = rw same (small, closing) in
    let all = first (t ∷ (us ++ token.Sign sign.ParenRight ∷ rest)) between in
    simp append_assoc all

-- the same with other brackets round the parts
regrouped : (most n : ℕ) (ts us rest : List TokenKind) → StaysWithin most n (ts ++ (us ++ rest)) → StaysWithin most n ((ts ++ us) ++ rest)
regrouped most n ts us rest h = rw append_assoc h

-- two numbers under an operator close all brackets that they open, if each of them does
binary_stays : (op : Operator) (most n : ℕ) (ts us rest : List TokenKind) → suc n ≤ most
    → ((more : List TokenKind) → StaysWithin most (suc n) more → StaysWithin most (suc n) (ts ++ more))
    → ((more : List TokenKind) → StaysWithin most (suc n) more → StaysWithin most (suc n) (us ++ more))
    → StaysWithin most n rest → StaysWithin most n (binary_tokens op ts us ++ rest)
binary_stays add most n ts us rest small first second h = (omega arith, pair_stays most n (token.Sign sign.Plus) ts us rest refl small first second h)
binary_stays subtract most n ts us rest small first second h = (omega arith, pair_stays most n (token.Sign sign.Minus) ts us rest refl small first second h)
binary_stays multiply most n ts us rest small first second h = (omega arith, pair_stays most n (token.Sign sign.Star) ts us rest refl small first second h)
binary_stays divide most n ts us rest small first second h = (omega arith, pair_stays most n (token.Sign sign.Slash) ts us rest refl small first second h)
binary_stays least most n ts us rest small first second h =
    (omega arith, (omega arith, pair_stays most n (token.Sign sign.Comma) ts us rest refl small first second h))
binary_stays greatest most n ts us rest small first second h =
    (omega arith, (omega arith, pair_stays most n (token.Sign sign.Comma) ts us rest refl small first second h))

-- the tokens of a number close all brackets that they open
number_stays : (most : ℕ) (number : Number) (n : ℕ) (rest : List TokenKind) → n + depth number ≤ most → StaysWithin most n rest
    → StaysWithin most n (number_tokens number ++ rest)
number_stays most (literal raw) n rest small h = (omega arith, h)
number_stays most (variable name) n rest small h = (omega arith, h)
number_stays most spot n rest small h = (omega arith, (omega arith, (omega arith, h)))
number_stays most period n rest small h = (omega arith, (omega arith, (omega arith, h)))
number_stays most days n rest small h = (omega arith, (omega arith, (omega arith, h)))
number_stays most (negative side) n rest small h = (omega arith, number_stays most side n rest small h)
number_stays most (absolute side) n rest small h =
    let inner : StaysWithin most (suc n) (number_tokens side ++ token.Sign sign.ParenRight ∷ rest) =
    number_stays most side (suc n) (token.Sign sign.ParenRight ∷ rest) (omega arith) (omega arith, h) in
    (omega arith, (omega arith, regrouped most (suc n) (number_tokens side) (token.Sign sign.ParenRight ∷ []) rest inner))
number_stays most (binary op left right) n rest small h =
    binary_stays op most n (number_tokens left) (number_tokens right) rest (omega arith)
    (λ more k. number_stays most left (suc n) more (omega arith) k) (λ more k. number_stays most right (suc n) more (omega arith) k) h

-- the sign of a comparison is no bracket
sign_leaves : (op : Comparison) (n : ℕ) → opened n (token.Sign (sign_of op)) ≡ n
sign_leaves less n = refl
sign_leaves at_most n = refl
sign_leaves greater n = refl
sign_leaves at_least n = refl
sign_leaves equals n = refl
sign_leaves differs n = refl

-- the tokens of a condition close all brackets that they open
condition_stays : (most : ℕ) (c : Condition) (n : ℕ) (rest : List TokenKind) → n + condition_depth c ≤ most → StaysWithin most n rest
    → StaysWithin most n (condition_tokens c ++ rest)
condition_stays most (compare op left right note) n rest small h =
    let second = number_stays most right n rest (omega arith) h in
    let same = sign_leaves op n in
    let between : StaysWithin most n (token.Sign (sign_of op) ∷ (number_tokens right ++ rest)) = rw same (omega arith, second) in
    regrouped most n (number_tokens left) (token.Sign (sign_of op) ∷ number_tokens right) rest
    (number_stays most left n (token.Sign (sign_of op) ∷ (number_tokens right ++ rest)) (omega arith) between)
condition_stays most (negation side) n rest small h = (omega arith, condition_stays most side n rest small h)
condition_stays most (conjunction left right) n rest small h = (
  omega arith,
  pair_stays most n (token.Key key.And) (condition_tokens left) (condition_tokens right) rest refl (omega arith)
      (λ more k. condition_stays most left (suc n) more (omega arith) k) (λ more k. condition_stays most right (suc n) more (omega arith) k) h,
)
condition_stays most (disjunction left right) n rest small h = (
  omega arith,
  pair_stays most n (token.Key key.Or) (condition_tokens left) (condition_tokens right) rest refl (omega arith)
      (λ more k. condition_stays most left (suc n) more (omega arith) k) (λ more k. condition_stays most right (suc n) more (omega arith) k) h,
)
condition_stays most (settled answer) n rest small h = h
condition_stays most (sure answer side) n rest small h = condition_stays most side n rest small h

-- `else` and its branch, or nothing
else_stays : (most : ℕ) (b : Body) (ts rest : List TokenKind) → StaysWithin most 0 rest → StaysWithin most 0 (ts ++ rest)
    → StaysWithin most 0 (unless_empty b (token.Key key.Else ∷ ts) ++ rest)
else_stays most done ts rest h k = h
else_stays most (next statement others) ts rest h k = (omega arith, k)

-- an `if` with its condition, its first branch, what stands before `endif`, and what follows
choice_stays : (most : ℕ) (c : Condition) (us vs rest : List TokenKind) → condition_depth c ≤ most
    → StaysWithin most 0 (us ++ (vs ++ token.Key key.Endif ∷ rest))
    → StaysWithin most 0 ((token.Key key.If ∷ (condition_tokens c ++ token.Key key.Then ∷ (us ++ (vs ++ token.Key key.Endif ∷ [])))) ++ rest)
choice_stays most c us vs rest small h =
    let after = condition_stays most c 0 (token.Key key.Then ∷ (us ++ (vs ++ token.Key key.Endif ∷ rest))) (omega arith) (omega arith, h) in
    (omega arith, simp append_assoc after)

mutual
  statement_stays : (most : ℕ) (s : Statement) (rest : List TokenKind) → suc (statement_operators s) ≤ most → StaysWithin most 0 rest
      → StaysWithin most 0 (statement_tokens s ++ rest)
  statement_stays most (assign name number) rest small h =
      let d = depth_operators number 1 in
      let line : StaysWithin most 0 (number_tokens number ++ token.Sign sign.Semicolon ∷ rest) =
      number_stays most number 0 (token.Sign sign.Semicolon ∷ rest) (omega arith) (omega arith, h) in
      (omega arith, (omega arith, regrouped most 0 (number_tokens number) (token.Sign sign.Semicolon ∷ []) rest line))
  statement_stays most (pay leg number) rest small h =
      let d = depth_operators number 0 in
      let line : StaysWithin most 0 (number_tokens number ++ token.Sign sign.Semicolon ∷ rest) =
      number_stays most number 0 (token.Sign sign.Semicolon ∷ rest) (omega arith) (omega arith, h) in
      (omega arith, (omega arith, regrouped most 0 (number_tokens number) (token.Sign sign.Semicolon ∷ []) rest line))
  statement_stays most (choose condition yes_part no_part) rest small h =
      let d = condition_depth_operators condition 0 in
      let last : StaysWithin most 0 (token.Key key.Endif ∷ rest) = (omega arith, h) in
      let no = body_stays most no_part (token.Key key.Endif ∷ rest) (omega arith) last in
      let yes = body_stays most yes_part _ (omega arith) (else_stays most no_part (body_tokens no_part) (token.Key key.Endif ∷ rest) last no) in
      choice_stays most condition (body_tokens yes_part) (unless_empty no_part (token.Key key.Else ∷ body_tokens no_part)) rest (omega arith) yes
  statement_stays most (group body) rest small h = body_stays most body rest small h

  body_stays : (most : ℕ) (b : Body) (rest : List TokenKind) → suc (body_operators b) ≤ most → StaysWithin most 0 rest
      → StaysWithin most 0 (body_tokens b ++ rest)
  body_stays most done rest small h = h
  body_stays most (next statement others) rest small h =
      regrouped most 0 (statement_tokens statement) (body_tokens others) rest
      (statement_stays most statement (body_tokens others ++ rest) (omega arith) (body_stays most others rest (omega arith) h))

-- the word of a rule and `do` are no brackets
rule_stays : (most : ℕ) (rule : Rule) (rest : List TokenKind) → StaysWithin most 0 rest
    → StaysWithin most 0 ((rule_tokens rule ++ token.Key key.Do ∷ []) ++ rest)
rule_stays most Stay rest h = (omega arith, h)
rule_stays most Following rest h = (omega arith, (omega arith, h))
rule_stays most Preceding rest h = (omega arith, (omega arith, h))
rule_stays most Modified rest h = (omega arith, (omega arith, h))

-- the header of a schedule has no bracket
header_stays : (most : ℕ) (terms : Terms) (digits : List ℕ) (rest : List TokenKind) → StaysWithin most 0 rest
    → StaysWithin most 0 (schedule_tokens terms digits ++ rest)
header_stays most terms digits rest h =
    let none : 0 ≤ most = omega arith in
    (none, (none, (none, (none, (none, (none, (none, (none, rule_stays most terms.rule rest h))))))))

item_stays : (most : ℕ) (i : Item) (rest : List TokenKind) → suc (item_operators i) ≤ most → StaysWithin most 0 rest
    → StaysWithin most 0 (item_tokens i ++ rest)
item_stays most (plain date body) rest small h = (omega arith, body_stays most body rest small h)
item_stays most (scheduled terms body) rest small h =
    let inner : StaysWithin most 0 (body_tokens body ++ token.Key key.End ∷ rest) =
    body_stays most body (token.Key key.End ∷ rest) small (omega arith, h) in
    let whole : StaysWithin most 0 ((body_tokens body ++ token.Key key.End ∷ []) ++ rest) =
    regrouped most 0 (body_tokens body) (token.Key key.End ∷ []) rest inner in
    regrouped most 0 (schedule_tokens terms (decimal terms.every)) (body_tokens body ++ token.Key key.End ∷ []) rest
    (header_stays most terms (decimal terms.every) ((body_tokens body ++ token.Key key.End ∷ []) ++ rest) whole)

-- in the canonical tokens of a script at most one bracket more is open than a statement has operators
pub script_stays : (most : ℕ) (s : Script) → suc (script_operators s) ≤ most → StaysWithin most 0 (script_tokens s)
script_stays most [] small = tt
script_stays most (item ∷ rest) small = item_stays most item (script_tokens rest) (omega arith) (script_stays most rest (omega arith))
