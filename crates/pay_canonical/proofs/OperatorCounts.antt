-- The operators in the stretches of tokens: all tokens that spell a script have, in the stretch with the most, as many as its statement with the most.
use Rattle.std.proofs.Common.{◌≡◌, ℕ, suc, max, Bool, true, false, List, [], ◌∷◌, ◌++◌, refl, ap, ◌∙◌, arith}
use Rattle.std.proofs.lemmas.Bool.{false≢true}
use Rattle.pay_dates.specs.declared.day.Day.{Day}
use Rattle.pay_dates.specs.declared.roll.Rule.{Rule}
use Rattle.pay_dates.specs.declared.roll.Rule.TheVariants.{Stay, Following, Preceding, Modified}
use Rattle.pay_lexer.specs.declared.token.Key.TheVariants as key
use Rattle.pay_lexer.specs.declared.token.Sign.TheVariants as sign
use Rattle.pay_lexer.specs.declared.token.TokenKind.{TokenKind}
use Rattle.pay_lexer.specs.declared.token.TokenKind.TheVariants as token
use Rattle.pay_meaning.specs.Language.{Operator, Number, literal, variable, spot, period, days, negative, absolute, binary, Comparison, less, at_most}
use Rattle.pay_meaning.specs.Language.{greater, at_least, equals, differs, Condition, compare, negation, conjunction, disjunction, settled, sure}
use Rattle.pay_meaning.specs.Language.{Statement, assign, pay, choose, group, Body, done, next, and_then, Terms, Item, plain, scheduled, Script}
use Rattle.pay_meaning.specs.Words.{unit_word}
use Rattle.pay_grammar.specs.Grammar.{SpellsNumber, one_term, plus, minus, SpellsTerm, one_factor, times, over, SpellsFactor, one_atom, minus_sign}
use Rattle.pay_grammar.specs.Grammar.{SpellsAtom, of_literal, of_variable, in_brackets, of_least, of_greatest, of_absolute, of_spot, of_period}
use Rattle.pay_grammar.specs.Grammar.{of_days, SpellsArguments, two, one_more_number, sign_of, SpellsCondition, one_conjunction, or_else}
use Rattle.pay_grammar.specs.Grammar.{SpellsConjunction, one_negation, and_also, SpellsNegation, not_sign, two_numbers, condition_in_brackets}
use Rattle.pay_grammar.specs.Grammar.{SpellsSimple, assignment, payment, SpellsStatement, simple, simple_ended, choice, choice_ended, SpellsChoice}
use Rattle.pay_grammar.specs.Grammar.{without_else, with_else, SpellsBody, no_statement, one_more, rule_tokens, schedule_tokens, SpellsItem, dated, rolled}
use Rattle.pay_grammar.specs.Grammar.{SpellsScript, no_item, one_more_item}
use Rattle.pay_grammar.specs.TokenLimits.{is_word, is_operator}

-- what a token is to the one after it: a stretch begins there, or begins there at a word, or goes on
pub data Role : Type 0 where
  opens : Role
  ends_value : Role
  goes_on : Role

abbrev pub role : TokenKind → Role
role (token.Date date) = opens
role (token.Number digits) = ends_value
role (token.Word letters) = ends_value
role (token.Sign sign.Semicolon) = opens
role (token.Sign sign.ParenRight) = ends_value
role (token.Sign s) = goes_on
role (token.Key key.If) = opens
role (token.Key key.Then) = opens
role (token.Key key.Else) = opens
role (token.Key key.Endif) = opens
role (token.Key key.Do) = opens
role (token.Key key.End) = opens
role (token.Key k) = goes_on

-- a stretch begins at a token after one of this role
abbrev pub begins : Role → TokenKind → Bool
begins opens t = true
begins ends_value t = is_word t
begins goes_on t = false

-- what was counted: the role of the last token, the operators in the stretch so far, and the most in a stretch before
pub data Count : Type 0 where
  count : Role → ℕ → ℕ → Count

-- a number, and one more where the test says so
abbrev pub one_if : Bool → ℕ → ℕ
one_if true n = suc n
one_if false n = n

-- one token more
abbrev pub counted_as : Bool → TokenKind → ℕ → ℕ → Count
counted_as true t here most = count (role t) (one_if (is_operator t) 0) (max most here)
counted_as false t here most = count (role t) (one_if (is_operator t) here) most

abbrev pub counted : Count → TokenKind → Count
counted (count last here most) t = counted_as (begins last t) t here most

abbrev pub count_all : Count → List TokenKind → Count
count_all c [] = c
count_all c (t ∷ ts) = count_all (counted c t) ts

-- the most operators in a stretch
abbrev pub total : Count → ℕ
total (count last here most) = max most here

-- before the first token
abbrev pub none_counted : Count
none_counted = count opens 0 0

-- the operators of a number, counted on from so many
abbrev pub operators_on : ℕ → Number → ℕ
operators_on n (literal raw) = n
operators_on n (variable name) = n
operators_on n spot = n
operators_on n period = n
operators_on n days = n
operators_on n (negative side) = operators_on (suc n) side
operators_on n (absolute side) = operators_on (suc n) side
operators_on n (binary op left right) = operators_on (suc (operators_on n left)) right

-- the same of a condition: each comparison, `not`, `and` and `or` is one operator
abbrev pub condition_operators_on : ℕ → Condition → ℕ
condition_operators_on n (compare op left right note) = operators_on (suc (operators_on n left)) right
condition_operators_on n (negation side) = condition_operators_on (suc n) side
condition_operators_on n (conjunction left right) = condition_operators_on (suc (condition_operators_on n left)) right
condition_operators_on n (disjunction left right) = condition_operators_on (suc (condition_operators_on n left)) right
condition_operators_on n (settled answer) = n
condition_operators_on n (sure answer side) = condition_operators_on n side

abbrev mutual
  -- the most operators in a stretch of a statement: those of its number with its `=` if it has one, or those of its condition or of a branch
  pub statement_operators : Statement → ℕ
  statement_operators (assign name number) = operators_on 1 number
  statement_operators (pay leg number) = operators_on 0 number
  statement_operators (choose condition yes_part no_part) =
      max (condition_operators_on 0 condition) (max (body_operators yes_part) (body_operators no_part))
  statement_operators (group body) = body_operators body

  -- the most operators in one of these statements
  pub body_operators : Body → ℕ
  body_operators done = 0
  body_operators (next statement rest) = max (statement_operators statement) (body_operators rest)

abbrev pub item_operators : Item → ℕ
item_operators (plain date body) = body_operators body
item_operators (scheduled terms body) = body_operators body

abbrev pub script_operators : Script → ℕ
script_operators [] = 0
script_operators (item ∷ rest) = max (item_operators item) (script_operators rest)

pub count_append : (c : Count) (ts us : List TokenKind) → count_all c (ts ++ us) ≡ count_all (count_all c ts) us
count_append c [] us = refl
count_append c (t ∷ ts) us = count_append (counted c t) ts us

-- tokens that lead from one count to another, and then others
count_then : (from to : Count) (ts us : List TokenKind) → count_all from ts ≡ to → count_all from (ts ++ us) ≡ count_all to us
count_then from to ts us e = count_append from ts us ∙ ap (λ (c : Count). count_all c us) e

-- in the tokens of a number no stretch begins, and its operators are counted on
abbrev IsCounted : List TokenKind → Number → Type 0
IsCounted ts n = (k most : ℕ) → count_all (count goes_on k most) ts ≡ count ends_value (operators_on k n) most

mutual
  number_counted : (ts : List TokenKind) (n : Number) → SpellsNumber ts n → IsCounted ts n
  number_counted _ _ (one_term ts n h) k most = term_counted ts n h k most
  number_counted _ _ (plus ts us a b h i) k most = count_then _ _ ts _ (number_counted ts a h k most) ∙ term_counted us b i (suc (operators_on k a)) most
  number_counted _ _ (minus ts us a b h i) k most = count_then _ _ ts _ (number_counted ts a h k most) ∙ term_counted us b i (suc (operators_on k a)) most

  term_counted : (ts : List TokenKind) (n : Number) → SpellsTerm ts n → IsCounted ts n
  term_counted _ _ (one_factor ts n h) k most = factor_counted ts n h k most
  term_counted _ _ (times ts us a b h i) k most = count_then _ _ ts _ (term_counted ts a h k most) ∙ factor_counted us b i (suc (operators_on k a)) most
  term_counted _ _ (over ts us a b h i) k most = count_then _ _ ts _ (term_counted ts a h k most) ∙ factor_counted us b i (suc (operators_on k a)) most

  factor_counted : (ts : List TokenKind) (n : Number) → SpellsFactor ts n → IsCounted ts n
  factor_counted _ _ (one_atom ts n h) k most = atom_counted ts n h k most
  factor_counted _ _ (minus_sign ts n h) k most = factor_counted ts n h (suc k) most

  atom_counted : (ts : List TokenKind) (n : Number) → SpellsAtom ts n → IsCounted ts n
  atom_counted _ _ (of_literal digits raw h) k most = refl
  atom_counted _ _ (of_variable name h) k most = refl
  atom_counted _ _ (in_brackets ts n h) k most = count_then _ _ ts _ (number_counted ts n h k most)
  atom_counted _ _ (of_least ts n h) k most = count_then _ _ ts _ (arguments_counted _ ts n h k most)
  atom_counted _ _ (of_greatest ts n h) k most = count_then _ _ ts _ (arguments_counted _ ts n h k most)
  atom_counted _ _ (of_absolute ts n h) k most = count_then _ _ ts _ (number_counted ts n h (suc k) most)
  atom_counted _ _ of_spot k most = refl
  atom_counted _ _ of_period k most = refl
  atom_counted _ _ of_days k most = refl

  arguments_counted : (op : Operator) (ts : List TokenKind) (n : Number) → SpellsArguments op ts n → IsCounted ts n
  arguments_counted _ _ _ (two op ts us a b h i) k most =
      count_then _ _ ts _ (number_counted ts a h k most) ∙ number_counted us b i (suc (operators_on k a)) most
  arguments_counted _ _ _ (one_more_number op ts us a b h i) k most =
      count_then _ _ ts _ (arguments_counted op ts a h k most) ∙ number_counted us b i (suc (operators_on k a)) most

-- the same of a condition
abbrev IsConditionCounted : List TokenKind → Condition → Type 0
IsConditionCounted ts c = (k most : ℕ) → count_all (count goes_on k most) ts ≡ count ends_value (condition_operators_on k c) most

-- the sign of a comparison is an operator, and no stretch begins after it
sign_counted : (op : Comparison) (k most : ℕ) → counted (count ends_value k most) (token.Sign (sign_of op)) ≡ count goes_on (suc k) most
sign_counted less k most = refl
sign_counted at_most k most = refl
sign_counted greater k most = refl
sign_counted at_least k most = refl
sign_counted equals k most = refl
sign_counted differs k most = refl

mutual
  condition_counted : (ts : List TokenKind) (c : Condition) → SpellsCondition ts c → IsConditionCounted ts c
  condition_counted _ _ (one_conjunction ts c h) k most = conjunction_counted ts c h k most
  condition_counted _ _ (or_else ts us a b h i) k most =
      count_then _ _ ts _ (condition_counted ts a h k most) ∙ conjunction_counted us b i (suc (condition_operators_on k a)) most

  conjunction_counted : (ts : List TokenKind) (c : Condition) → SpellsConjunction ts c → IsConditionCounted ts c
  conjunction_counted _ _ (one_negation ts c h) k most = negation_counted ts c h k most
  conjunction_counted _ _ (and_also ts us a b h i) k most =
      count_then _ _ ts _ (conjunction_counted ts a h k most) ∙ negation_counted us b i (suc (condition_operators_on k a)) most

  negation_counted : (ts : List TokenKind) (c : Condition) → SpellsNegation ts c → IsConditionCounted ts c
  negation_counted _ _ (not_sign ts c h) k most = negation_counted ts c h (suc k) most
  negation_counted _ _ (two_numbers op ts us a b h i) k most =
      count_then _ _ ts _ (number_counted ts a h k most)
      ∙ ap (λ (c : Count). count_all c us) (sign_counted op (operators_on k a) most) ∙ number_counted us b i (suc (operators_on k a)) most
  negation_counted _ _ (condition_in_brackets ts c h) k most = count_then _ _ ts _ (condition_counted ts c h k most)

-- the last token ends a value
abbrev ends_so : Count → Bool
ends_so (count ends_value here most) = true
ends_so (count opens here most) = false
ends_so (count goes_on here most) = false

-- a condition that begins a stretch
opened_counted : (ts : List TokenKind) (c : Condition) → IsConditionCounted ts c → (here most : ℕ)
    → count_all (count opens here most) ts ≡ count ends_value (condition_operators_on 0 c) (max most here)
opened_counted [] c h here most = absurd (false≢true (ap ends_so (h 0 0)))
opened_counted (t ∷ ts) c h here most = h 0 (max most here)

-- a count after which a name begins a stretch
data Stands : Count → Type 0 where
  freely : (here most : ℕ) → Stands (count opens here most)
  after_value : (here most : ℕ) → Stands (count ends_value here most)

-- a name begins a stretch there
stands_word : (c : Count) (name : List ℕ) → Stands c → counted c (token.Word name) ≡ count ends_value 0 (total c)
stands_word _ name (freely here most) = refl
stands_word _ name (after_value here most) = refl

-- tokens that lead from a count to one where statements with at most so many operators have been counted
record Counts (from : Count) (ts : List TokenKind) (operators : ℕ) : Type 0 where
  to : Count
  stands : Stands to
  leads : count_all from ts ≡ to
  is : total to ≡ max (total from) operators

simple_counted : (ts : List TokenKind) (s : Statement) → SpellsSimple ts s → (c : Count) → Stands c
    → count_all c ts ≡ count ends_value (statement_operators s) (total c)
simple_counted _ _ (assignment name ts n h i) c k =
    ap (λ (d : Count). count_all d (token.Sign sign.Equals ∷ ts)) (stands_word c name k) ∙ number_counted ts n i 1 (total c)
simple_counted _ _ (payment leg ts n h i) c k =
    ap (λ (d : Count). count_all d (token.Key key.Pays ∷ ts)) (stands_word c leg k) ∙ number_counted ts n i 0 (total c)

-- tokens one after another
counts_then : (from : Count) (ts us : List TokenKind) (a b both : ℕ) → (h : Counts from ts a) → Counts h.to us b → max a b ≡ both → Counts from (ts ++ us) both
counts_then from ts us a b both h i e = record {
  to = i.to;
  stands = i.stands;
  leads = count_then from h.to ts us h.leads ∙ i.leads;
  is = let first = h.is in let second = i.is in omega arith;
}

one_more_operators : (b : Body) (s : Statement) → max (body_operators b) (statement_operators s) ≡ body_operators (and_then b s)
one_more_operators done s = omega arith
one_more_operators (next first rest) s = let others = one_more_operators rest s in omega arith

-- where a name begins a stretch, `if` leaves an empty stretch open, and closes the stretch before
record Opened (c : Count) : Type 0 where
  here : ℕ
  most : ℕ
  leads : counted c (token.Key key.If) ≡ count opens here most
  is : max most here ≡ total c

if_counted : (c : Count) → Stands c → Opened c
if_counted _ (freely here most) = record { here = 0; most = max most here; leads = refl; is = omega arith }
if_counted _ (after_value here most) = record { here = here; most = most; leads = refl; is = refl }

-- `if`, a condition and `then`, and what follows them
head_counted : (ts : List TokenKind) (condition : Condition) → SpellsCondition ts condition → (c : Count) → Stands c → (rest : List TokenKind)
    → count_all c (token.Key key.If ∷ (ts ++ token.Key key.Then ∷ rest)) ≡ count_all (count opens (condition_operators_on 0 condition) (total c)) rest
head_counted ts condition h c k rest =
    let first = if_counted c k in
    let whole = opened_counted ts condition (condition_counted ts condition h) first.here first.most in
    ap (λ (d : Count). count_all d (ts ++ token.Key key.Then ∷ rest)) first.leads
    ∙ count_then _ _ ts (token.Key key.Then ∷ rest) whole
    ∙ ap (λ (n : ℕ). count_all (count opens (condition_operators_on 0 condition) n) rest) first.is

choice_of : (ts rest : List TokenKind) (condition : Condition) (operators : ℕ) → SpellsCondition ts condition → (c : Count) → Stands c
    → Counts (count opens (condition_operators_on 0 condition) (total c)) rest operators
    → Counts c (token.Key key.If ∷ (ts ++ token.Key key.Then ∷ rest)) (max (condition_operators_on 0 condition) operators)
choice_of ts rest condition operators h c k r = record {
  to = r.to;
  stands = r.stands;
  leads = head_counted ts condition h c k rest ∙ r.leads;
  is = let others = r.is in omega arith;
}

else_counted : (c : Count) → Stands c → Counts c (token.Key key.Else ∷ []) 0
else_counted _ (freely here most) = record { to = count opens 0 (max most here); stands = freely _ _; leads = refl; is = omega arith }
else_counted _ (after_value here most) = record { to = count opens here most; stands = freely _ _; leads = refl; is = omega arith }

endif_counted : (c : Count) → Stands c → Counts c (token.Key key.Endif ∷ []) 0
endif_counted _ (freely here most) = record { to = count opens 0 (max most here); stands = freely _ _; leads = refl; is = omega arith }
endif_counted _ (after_value here most) = record { to = count opens here most; stands = freely _ _; leads = refl; is = omega arith }

semicolon_counted : (c : Count) → Stands c → Counts c (token.Sign sign.Semicolon ∷ []) 0
semicolon_counted _ (freely here most) = record { to = count opens 0 (max most here); stands = freely _ _; leads = refl; is = omega arith }
semicolon_counted _ (after_value here most) = record { to = count opens here most; stands = freely _ _; leads = refl; is = omega arith }

-- a statement with `;` after it
with_semicolon : (from : Count) (ts : List TokenKind) (operators : ℕ) → Counts from ts operators → Counts from (ts ++ token.Sign sign.Semicolon ∷ []) operators
with_semicolon from ts operators h = counts_then from ts _ _ _ _ h (semicolon_counted h.to h.stands) (omega arith)

-- a branch with `endif` after it
with_endif : (from : Count) (ts : List TokenKind) (operators : ℕ) → Counts from ts operators → Counts from (ts ++ token.Key key.Endif ∷ []) operators
with_endif from ts operators h = counts_then from ts _ _ _ _ h (endif_counted h.to h.stands) (omega arith)

simple_counts : (ts : List TokenKind) (s : Statement) → SpellsSimple ts s → (c : Count) → Stands c → Counts c ts (statement_operators s)
simple_counts ts s h c k = record {
  to = count ends_value (statement_operators s) (total c);
  stands = after_value _ _;
  leads = simple_counted ts s h c k;
  is = refl;
}

mutual
  statement_counted : (ts : List TokenKind) (s : Statement) → SpellsStatement ts s → (c : Count) → Stands c → Counts c ts (statement_operators s)
  statement_counted _ _ (simple ts s h) c k = simple_counts ts s h c k
  statement_counted _ _ (simple_ended ts s h) c k = with_semicolon c ts _ (simple_counts ts s h c k)
  statement_counted _ _ (choice ts s h) c k = choice_counted ts s h c k
  statement_counted _ _ (choice_ended ts s h) c k = with_semicolon c ts _ (choice_counted ts s h c k)

  choice_counted : (ts : List TokenKind) (s : Statement) → SpellsChoice ts s → (c : Count) → Stands c → Counts c ts (statement_operators s)
  choice_counted _ _ (without_else ts us condition a h i) c k =
      let yes = body_counted us a i (count opens (condition_operators_on 0 condition) (total c)) (freely _ _) in
      choice_of ts _ condition _ h c k (counts_then _ us _ _ _ _ yes (endif_counted yes.to yes.stands) refl)
  choice_counted _ _ (with_else ts us vs condition a b h i j) c k =
      let yes = body_counted us a i (count opens (condition_operators_on 0 condition) (total c)) (freely _ _) in
      let other = else_counted yes.to yes.stands in
      let no = with_endif other.to vs _ (body_counted vs b j other.to other.stands) in
      choice_of ts _ condition _ h c k (counts_then _ us _ _ _ _ yes (counts_then yes.to (token.Key key.Else ∷ []) _ _ _ _ other no (omega arith)) refl)

  body_counted : (ts : List TokenKind) (b : Body) → SpellsBody ts b → (c : Count) → Stands c → Counts c ts (body_operators b)
  body_counted _ _ no_statement c k = record { to = c; stands = k; leads = refl; is = omega arith }
  body_counted _ _ (one_more ts us b s h i) c k =
      let r = body_counted ts b h c k in
      counts_then c ts us _ _ _ r (statement_counted us s i r.to r.stands) (one_more_operators b s)

date_counted : (c : Count) (date : Day) → Stands c → Counts c (token.Date date ∷ []) 0
date_counted _ date (freely here most) = record { to = count opens 0 (max most here); stands = freely _ _; leads = refl; is = omega arith }
date_counted _ date (after_value here most) = record { to = count opens here most; stands = freely _ _; leads = refl; is = omega arith }

-- `end` after the statements of a schedule
end_counted : (c : Count) → Stands c → Counts c (token.Key key.End ∷ []) 0
end_counted _ (freely here most) = record { to = count opens 0 (max most here); stands = freely _ _; leads = refl; is = omega arith }
end_counted _ (after_value here most) = record { to = count opens here most; stands = freely _ _; leads = refl; is = omega arith }

-- the unit's word begins a stretch after the count, and no operator stands in it
unit_counted : (rule : Rule) (word : List ℕ) (most : ℕ)
    → count_all (count ends_value 0 most) (token.Word word ∷ (rule_tokens rule ++ token.Key key.Do ∷ [])) ≡ count opens 0 (max most 0)
unit_counted Stay word most = refl
unit_counted Following word most = refl
unit_counted Preceding word most = refl
unit_counted Modified word most = refl

-- what stands in the header of a schedule after the first of its dates
abbrev later_tokens : Terms → List ℕ → List TokenKind
later_tokens terms digits =
    token.Key key.To ∷ token.Date terms.last ∷ token.Key key.Every ∷ token.Number digits ∷ token.Word (unit_word terms.unit)
    ∷ (rule_tokens terms.rule ++ token.Key key.Do ∷ [])

-- no operator stands there, and `do` ends its last stretch
later_counted : (terms : Terms) (digits : List ℕ) (here most : ℕ) → Counts (count opens here most) (later_tokens terms digits) 0
later_counted terms digits here most = record {
  to = count opens 0 (max (max (max most here) 0) 0);
  stands = freely _ _;
  leads = unit_counted terms.rule (unit_word terms.unit) (max (max most here) 0);
  is = omega arith;
}

-- the header of a schedule: what stands before it in its first stretch stays as it is, and it has no operator of its own
header_counted : (terms : Terms) (digits : List ℕ) (c : Count) → Stands c → Counts c (schedule_tokens terms digits) 0
header_counted terms digits _ (freely here most) =
    let r = later_counted terms digits 0 (max most here) in
    record { to = r.to; stands = r.stands; leads = r.leads; is = let last = r.is in omega arith }
header_counted terms digits _ (after_value here most) =
    let r = later_counted terms digits here most in
    record { to = r.to; stands = r.stands; leads = r.leads; is = let last = r.is in omega arith }

-- statements with `end` after them
with_end : (from : Count) (ts : List TokenKind) (operators : ℕ) → Counts from ts operators → Counts from (ts ++ token.Key key.End ∷ []) operators
with_end from ts operators h = counts_then from ts _ _ _ _ h (end_counted h.to h.stands) (omega arith)

item_counted : (ts : List TokenKind) (i : Item) → SpellsItem ts i → (c : Count) → Stands c → Counts c ts (item_operators i)
item_counted _ _ (dated date ts b h) c k =
    let r = date_counted c date k in
    counts_then c (token.Date date ∷ []) ts _ _ _ r (body_counted ts b h r.to r.stands) (omega arith)
item_counted _ _ (rolled terms digits ts b h i) c k =
    let r = header_counted terms digits c k in
    counts_then c (schedule_tokens terms digits) _ _ _ _ r (with_end r.to ts _ (body_counted ts b i r.to r.stands)) (omega arith)

one_more_item_operators : (items : Script) (i : Item) → max (script_operators items) (item_operators i) ≡ script_operators (items ++ i ∷ [])
one_more_item_operators [] i = omega arith
one_more_item_operators (first ∷ rest) i = let others = one_more_item_operators rest i in omega arith

items_counted : (ts : List TokenKind) (s : Script) → SpellsScript ts s → (c : Count) → Stands c → Counts c ts (script_operators s)
items_counted _ _ no_item c k = record { to = c; stands = k; leads = refl; is = omega arith }
items_counted _ _ (one_more_item ts us items i h j) c k =
    let r = items_counted ts items h c k in
    counts_then c ts us _ _ _ r (item_counted us i j r.to r.stands) (one_more_item_operators items i)

-- tokens that spell a script have in a stretch at most as many operators as the script in a statement
pub script_counted : (ts : List TokenKind) (s : Script) → SpellsScript ts s → total (count_all none_counted ts) ≡ script_operators s
script_counted ts s h =
    let r = items_counted ts s h none_counted (freely 0 0) in
    let e = ap total r.leads ∙ r.is in
    omega arith
