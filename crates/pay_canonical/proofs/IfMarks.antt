-- The ifs that are open along tokens: the `if`s and `endif`s of tokens are determined by the script that they spell.
use Rattle.std.proofs.Common.{◌≡◌, ℕ, Bool, true, false, ◌||◌, List, [], ◌∷◌, ◌++◌, filter, ℤ, ◌+ℤ◌, ◌≤ℤ◌, inl, inr, refl, sym, ap, ◌∙◌, append_assoc}
use Rattle.std.proofs.Common.{append-nil, arith}
use Rattle.std.proofs.lemmas.Bool.{cases_Bool, false≢true}
use Rattle.std.proofs.lemmas.Int.{ints}
use Rattle.std.proofs.lemmas.List.Elements.{filter-append}
use Rattle.pay_dates.specs.declared.roll.Rule.{Rule}
use Rattle.pay_dates.specs.declared.roll.Rule.TheVariants.{Stay, Following, Preceding, Modified}
use Rattle.pay_lexer.specs.declared.token.Key.TheVariants as key
use Rattle.pay_lexer.specs.declared.token.TokenKind.{TokenKind}
use Rattle.pay_lexer.specs.declared.token.TokenKind.TheVariants as token
use Rattle.pay_meaning.specs.Language.{Operator, Number, Condition, Statement, assign, pay, choose, group, Body, done, next, and_then, Terms, Item}
use Rattle.pay_meaning.specs.Language.{plain, scheduled, Script}
use Rattle.pay_grammar.specs.Grammar.{SpellsNumber, one_term, plus, minus, SpellsTerm, one_factor, times, over, SpellsFactor, one_atom, minus_sign}
use Rattle.pay_grammar.specs.Grammar.{SpellsAtom, of_literal, of_variable, in_brackets, of_least, of_greatest, of_absolute, of_spot, of_period}
use Rattle.pay_grammar.specs.Grammar.{of_days, SpellsArguments, two, one_more_number, SpellsCondition, one_conjunction, or_else, SpellsConjunction}
use Rattle.pay_grammar.specs.Grammar.{one_negation, and_also, SpellsNegation, not_sign, two_numbers, condition_in_brackets, SpellsSimple, assignment}
use Rattle.pay_grammar.specs.Grammar.{payment, SpellsStatement, simple, simple_ended, choice, choice_ended, SpellsChoice, without_else, with_else}
use Rattle.pay_grammar.specs.Grammar.{SpellsBody, no_statement, one_more, rule_tokens, schedule_tokens, SpellsItem, dated, rolled, SpellsScript, no_item}
use Rattle.pay_grammar.specs.Grammar.{one_more_item}
use Rattle.pay_grammar.specs.TokenLimits.{is_if, is_endif, open_ifs}

-- an `if` or an `endif`
abbrev pub is_if_mark : TokenKind → Bool
is_if_mark t = is_if t || is_endif t

-- the `if`s and `endif`s of tokens, in their order
abbrev pub if_marks : List TokenKind → List TokenKind
if_marks ts = filter is_if_mark ts

-- after each of these tokens at most so many ifs are open
abbrev pub IfsWithin : ℤ → ℤ → List TokenKind → Type 0
IfsWithin most n [] = Unit {0}
IfsWithin most n (t ∷ ts) = ((n +ℤ open_ifs (t ∷ [])) ≤ℤ most) × IfsWithin most (n +ℤ open_ifs (t ∷ [])) ts

-- the `if`s and `endif`s of the statements of a script, in their order
abbrev mutual
  pub statement_if_marks : Statement → List TokenKind
  statement_if_marks (assign name number) = []
  statement_if_marks (pay leg number) = []
  statement_if_marks (choose condition yes_part no_part) =
      token.Key key.If ∷ (body_if_marks yes_part ++ (body_if_marks no_part ++ token.Key key.Endif ∷ []))
  statement_if_marks (group body) = body_if_marks body

  pub body_if_marks : Body → List TokenKind
  body_if_marks done = []
  body_if_marks (next statement rest) = statement_if_marks statement ++ body_if_marks rest

abbrev pub item_if_marks : Item → List TokenKind
item_if_marks (plain date body) = body_if_marks body
item_if_marks (scheduled terms body) = body_if_marks body

abbrev pub script_if_marks : Script → List TokenKind
script_if_marks [] = []
script_if_marks (item ∷ rest) = item_if_marks item ++ script_if_marks rest

-- the marks of tokens in a row
marks_of : (ts us ms ns : List TokenKind) → if_marks ts ≡ ms → if_marks us ≡ ns → if_marks (ts ++ us) ≡ ms ++ ns
marks_of ts us ms ns h k = rw (filter-append is_if_mark ts us, h, k) refl

mutual
  number_marks : (ts : List TokenKind) (n : Number) → SpellsNumber ts n → if_marks ts ≡ []
  number_marks _ _ (one_term ts n h) = term_marks ts n h
  number_marks _ _ (plus ts us a b h k) = marks_of ts _ [] [] (number_marks ts a h) (term_marks us b k)
  number_marks _ _ (minus ts us a b h k) = marks_of ts _ [] [] (number_marks ts a h) (term_marks us b k)

  term_marks : (ts : List TokenKind) (n : Number) → SpellsTerm ts n → if_marks ts ≡ []
  term_marks _ _ (one_factor ts n h) = factor_marks ts n h
  term_marks _ _ (times ts us a b h k) = marks_of ts _ [] [] (term_marks ts a h) (factor_marks us b k)
  term_marks _ _ (over ts us a b h k) = marks_of ts _ [] [] (term_marks ts a h) (factor_marks us b k)

  factor_marks : (ts : List TokenKind) (n : Number) → SpellsFactor ts n → if_marks ts ≡ []
  factor_marks _ _ (one_atom ts n h) = atom_marks ts n h
  factor_marks _ _ (minus_sign ts n h) = factor_marks ts n h

  atom_marks : (ts : List TokenKind) (n : Number) → SpellsAtom ts n → if_marks ts ≡ []
  atom_marks _ _ (of_literal digits raw h) = refl
  atom_marks _ _ (of_variable name h) = refl
  atom_marks _ _ (in_brackets ts n h) = marks_of ts _ [] [] (number_marks ts n h) refl
  atom_marks _ _ (of_least ts n h) = marks_of ts _ [] [] (arguments_marks _ ts n h) refl
  atom_marks _ _ (of_greatest ts n h) = marks_of ts _ [] [] (arguments_marks _ ts n h) refl
  atom_marks _ _ (of_absolute ts n h) = marks_of ts _ [] [] (number_marks ts n h) refl
  atom_marks _ _ of_spot = refl
  atom_marks _ _ of_period = refl
  atom_marks _ _ of_days = refl

  arguments_marks : (op : Operator) (ts : List TokenKind) (n : Number) → SpellsArguments op ts n → if_marks ts ≡ []
  arguments_marks _ _ _ (two op ts us a b h k) = marks_of ts _ [] [] (number_marks ts a h) (number_marks us b k)
  arguments_marks _ _ _ (one_more_number op ts us a b h k) = marks_of ts _ [] [] (arguments_marks op ts a h) (number_marks us b k)

mutual
  condition_marks : (ts : List TokenKind) (c : Condition) → SpellsCondition ts c → if_marks ts ≡ []
  condition_marks _ _ (one_conjunction ts c h) = conjunction_marks ts c h
  condition_marks _ _ (or_else ts us a b h k) = marks_of ts _ [] [] (condition_marks ts a h) (conjunction_marks us b k)

  conjunction_marks : (ts : List TokenKind) (c : Condition) → SpellsConjunction ts c → if_marks ts ≡ []
  conjunction_marks _ _ (one_negation ts c h) = negation_marks ts c h
  conjunction_marks _ _ (and_also ts us a b h k) = marks_of ts _ [] [] (conjunction_marks ts a h) (negation_marks us b k)

  negation_marks : (ts : List TokenKind) (c : Condition) → SpellsNegation ts c → if_marks ts ≡ []
  negation_marks _ _ (not_sign ts c h) = negation_marks ts c h
  negation_marks _ _ (two_numbers op ts us a b h k) = marks_of ts _ [] [] (number_marks ts a h) (number_marks us b k)
  negation_marks _ _ (condition_in_brackets ts c h) = marks_of ts _ [] [] (condition_marks ts c h) refl

simple_marks : (ts : List TokenKind) (s : Statement) → SpellsSimple ts s → if_marks ts ≡ statement_if_marks s
simple_marks _ _ (assignment name ts n h k) = number_marks ts n k
simple_marks _ _ (payment leg ts n h k) = number_marks ts n k

one_more_marks : (b : Body) (s : Statement) → body_if_marks b ++ statement_if_marks s ≡ body_if_marks (and_then b s)
one_more_marks done s = sym (append-nil (statement_if_marks s))
one_more_marks (next first rest) s = append_assoc (statement_if_marks first) (body_if_marks rest) (statement_if_marks s)
    ∙ ap (λ ms. statement_if_marks first ++ ms) (one_more_marks rest s)

-- an `if` whose condition has none of them
choice_of : (ts us ms : List TokenKind) → if_marks ts ≡ [] → if_marks us ≡ ms
    → if_marks (token.Key key.If ∷ (ts ++ token.Key key.Then ∷ us)) ≡ token.Key key.If ∷ ms
choice_of ts us ms h k = ap (λ ns. token.Key key.If ∷ ns) (marks_of ts (token.Key key.Then ∷ us) [] ms h k)

mutual
  statement_marks : (ts : List TokenKind) (s : Statement) → SpellsStatement ts s → if_marks ts ≡ statement_if_marks s
  statement_marks _ _ (simple ts s h) = simple_marks ts s h
  statement_marks _ _ (simple_ended ts s h) = marks_of ts _ _ [] (simple_marks ts s h) refl ∙ append-nil (statement_if_marks s)
  statement_marks _ _ (choice ts s h) = choice_marks ts s h
  statement_marks _ _ (choice_ended ts s h) = marks_of ts _ _ [] (choice_marks ts s h) refl ∙ append-nil (statement_if_marks s)

  choice_marks : (ts : List TokenKind) (s : Statement) → SpellsChoice ts s → if_marks ts ≡ statement_if_marks s
  choice_marks _ _ (without_else ts us c a h k) = choice_of ts _ _ (condition_marks ts c h) (marks_of us _ _ _ (body_marks us a k) refl)
  choice_marks _ _ (with_else ts us vs c a b h k l) =
      choice_of ts _ _ (condition_marks ts c h) (marks_of us _ _ _ (body_marks us a k) (marks_of vs _ _ _ (body_marks vs b l) refl))

  body_marks : (ts : List TokenKind) (b : Body) → SpellsBody ts b → if_marks ts ≡ body_if_marks b
  body_marks _ _ no_statement = refl
  body_marks _ _ (one_more ts us b s h k) = marks_of ts us _ _ (body_marks ts b h) (statement_marks us s k) ∙ one_more_marks b s

rule_marks : (rule : Rule) → if_marks (rule_tokens rule ++ token.Key key.Do ∷ []) ≡ []
rule_marks Stay = refl
rule_marks Following = refl
rule_marks Preceding = refl
rule_marks Modified = refl

-- the header of a schedule has none of them
header_marks : (terms : Terms) (digits : List ℕ) → if_marks (schedule_tokens terms digits) ≡ []
header_marks terms digits = rule_marks terms.rule

item_marks : (ts : List TokenKind) (i : Item) → SpellsItem ts i → if_marks ts ≡ item_if_marks i
item_marks _ _ (dated date ts b h) = body_marks ts b h
item_marks _ _ (rolled terms digits ts b h k) =
    marks_of (schedule_tokens terms digits) _ [] _ (header_marks terms digits) (marks_of ts _ _ [] (body_marks ts b k) refl) ∙ append-nil (body_if_marks b)

one_more_item_marks : (items : Script) (i : Item) → script_if_marks items ++ item_if_marks i ≡ script_if_marks (items ++ i ∷ [])
one_more_item_marks [] i = sym (append-nil (item_if_marks i))
one_more_item_marks (first ∷ rest) i = append_assoc (item_if_marks first) (script_if_marks rest) (item_if_marks i)
    ∙ ap (λ ms. item_if_marks first ++ ms) (one_more_item_marks rest i)

-- tokens that spell a script have the `if`s and `endif`s of its statements
pub script_marks : (ts : List TokenKind) (s : Script) → SpellsScript ts s → if_marks ts ≡ script_if_marks s
script_marks _ _ no_item = refl
script_marks _ _ (one_more_item ts us items i h k) = marks_of ts us _ _ (script_marks ts items h) (item_marks us i k) ∙ one_more_item_marks items i

-- a token that is none of them leaves as many open
not_either : (a b : Bool) → (a || b) ≡ false → (a ≡ false) × (b ≡ false)
not_either true b h = absurd (false≢true (sym h))
not_either false b h = (refl, h)

no_mark : (n : ℤ) (t : TokenKind) → is_if_mark t ≡ false → n +ℤ open_ifs (t ∷ []) ≡ n
no_mark n t h = let parts = not_either (is_if t) (is_endif t) h in rw (parts.0, parts.1) (omega (arith, ints))

-- how many ifs are open is a matter of these marks alone
pub ifs_to_marks : (most n : ℤ) (ts : List TokenKind) → IfsWithin most n ts → IfsWithin most n (if_marks ts)
ifs_to_marks most n [] h = tt
ifs_to_marks most n (t ∷ ts) h = elim (cases_Bool (is_if_mark t)) [
  | inl hit ↦ rw hit (h.0, ifs_to_marks most (n +ℤ open_ifs (t ∷ [])) ts h.1)
  | inr miss ↦ let same = no_mark n t miss in rw miss (ifs_to_marks most n ts (rw same at h.1))
]

pub ifs_from_marks : (most n : ℤ) (ts : List TokenKind) → n ≤ℤ most → IfsWithin most n (if_marks ts) → IfsWithin most n ts
ifs_from_marks most n [] small h = tt
ifs_from_marks most n (t ∷ ts) small h = elim (cases_Bool (is_if_mark t)) [
  | inl hit ↦ let k = rw hit at h in (k.0, ifs_from_marks most (n +ℤ open_ifs (t ∷ [])) ts k.0 k.1)
  | inr miss ↦ let same = no_mark n t miss in rw same (small, ifs_from_marks most n ts small (rw miss at h))
]
