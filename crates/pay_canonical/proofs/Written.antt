-- What tokens of a text spell can be written: its literals are within the limit and not below zero, its names are names and its dates days,
-- and the counts of its schedules are within the limit.
use Rattle.std.proofs.Common.{◌≡◌, ℕ, ℤ, pos, ◌≤ℤ◌, Bool, true, false, List, [], ◌∷◌, ◌++◌, inl, inr, refl, sym, ap, ◌∙◌, arith}
use Rattle.std.proofs.lemmas.Bool.{false≢true}
use Rattle.std.proofs.lemmas.Int.{ints}
use Rattle.pay_fixed.specs.Round.{IsRaw}
use Rattle.pay_fixed.specs.Grammar.{SpellsRaw, SpellsSign, no_sign, IsBlank, AreBlanks, signed}
use Rattle.pay_fixed.specs.Grammar.SpellsSign.{plus as plus_sign, minus as minus_before}
use Rattle.pay_fixed.proofs.Value.{raw_of-signed}
use Rattle.pay_lexer.specs.Forms.{IsNumber, whole, with_point}
use Rattle.pay_lexer.specs.declared.token.TokenKind.{TokenKind}
use Rattle.pay_lexer.proofs.FrontLemmas.{digits-first}
use Rattle.pay_lexer.proofs.TokenForms.{HaveForms, forms_front, forms_back}
use Rattle.pay_meaning.specs.Language.{Operator, Number, Condition, Statement, Body, done, next, and_then, Item, Script}
use Rattle.pay_meaning.specs.Words.{is_digit}
use Rattle.pay_grammar.specs.Grammar.{SpellsNumber, one_term, plus, minus, SpellsTerm, one_factor, times, over, SpellsFactor, one_atom, minus_sign}
use Rattle.pay_grammar.specs.Grammar.{SpellsAtom, of_literal, of_variable, in_brackets, of_least, of_greatest, of_absolute, of_spot, of_period}
use Rattle.pay_grammar.specs.Grammar.{of_days, SpellsArguments, two, one_more_number, SpellsCondition, one_conjunction, or_else, SpellsConjunction}
use Rattle.pay_grammar.specs.Grammar.{one_negation, and_also, SpellsNegation, not_sign, two_numbers, condition_in_brackets, SpellsSimple, assignment}
use Rattle.pay_grammar.specs.Grammar.{payment, SpellsStatement, simple, simple_ended, choice, choice_ended, SpellsChoice, without_else, with_else}
use Rattle.pay_grammar.specs.Grammar.{SpellsBody, no_statement, one_more, schedule_tokens, SpellsItem, dated, rolled, SpellsScript, no_item, one_more_item}
use Rattle.pay_canonical.proofs.CanonicalTokens.{IsWritten, IsWrittenCondition, IsWrittenStatement, IsWrittenBody, IsWrittenItem, IsWrittenScript}

-- the digits of a number begin with a digit
first_digit : (digits : List ℕ) → IsNumber digits → (d : ℕ) × (ds : List ℕ) × (digits ≡ d ∷ ds) × (is_digit d ≡ true)
first_digit _ (whole digits h) = let d = digits-first digits h in (d.0, d.1, d.2, d.3)
first_digit _ (with_point digits decimals h k) =
    let d = digits-first digits h in
    (d.0, d.1 ++ 46 ∷ decimals, ap (λ (xs : List ℕ). xs ++ 46 ∷ decimals) d.2, d.3)

digit_blank : (c : ℕ) → IsBlank c → is_digit c ≡ true → ⊥
digit_blank c h k = elim h [ inl is ↦ false≢true (rw is at k) | inr is ↦ false≢true (rw is at k) ]

-- a decimal that begins with a digit has no minus
no_minus : (before sign tail after : List ℕ) (negative : Bool) (d : ℕ) (ds : List ℕ) → AreBlanks before → SpellsSign sign negative
    → d ∷ ds ≡ before ++ ((sign ++ tail) ++ after) → is_digit d ≡ true → negative ≡ false
no_minus (c ∷ cs) sign tail after negative d ds h k e digit = let same : c ≡ d = cc in absurd (digit_blank c h.0 (rw same digit))
no_minus [] _ tail after _ d ds h no_sign e digit = refl
no_minus [] _ tail after _ d ds h plus_sign e digit = refl
no_minus [] _ tail after _ d ds h minus_before e digit = let same : d ≡ 45 = cc in absurd (false≢true (rw same at digit))

not_below : (negative : Bool) (n : ℕ) (raw : ℤ) → negative ≡ false → signed negative n ≡ raw → pos 0 ≤ℤ raw
not_below true n raw h e = absurd (false≢true (sym h))
not_below false n raw h e = rw (← e) (omega (arith, ints))

literal_written : (digits : List ℕ) (raw : ℤ) → IsNumber digits → SpellsRaw digits raw → (pos 0 ≤ℤ raw) × IsRaw raw
literal_written digits raw h k =
    let f = first_digit digits h in
    let s = k.spells in
    let plain = no_minus s.before s.sign _ s.after k.decimal.negative f.0 f.1 s.blank_before s.spells_sign (sym f.2 ∙ s.cut) f.3 in
    (not_below k.decimal.negative _ raw plain (sym (raw_of-signed k.decimal) ∙ k.value), k.within)

mutual
  number_written : (ts : List TokenKind) (n : Number) → SpellsNumber ts n → HaveForms ts → IsWritten n
  number_written _ _ (one_term ts n k) h = term_written ts n k h
  number_written _ _ (plus ts us a b k l) h = (number_written ts a k (forms_front ts _ h), term_written us b l (forms_back ts _ h).1)
  number_written _ _ (minus ts us a b k l) h = (number_written ts a k (forms_front ts _ h), term_written us b l (forms_back ts _ h).1)

  term_written : (ts : List TokenKind) (n : Number) → SpellsTerm ts n → HaveForms ts → IsWritten n
  term_written _ _ (one_factor ts n k) h = factor_written ts n k h
  term_written _ _ (times ts us a b k l) h = (term_written ts a k (forms_front ts _ h), factor_written us b l (forms_back ts _ h).1)
  term_written _ _ (over ts us a b k l) h = (term_written ts a k (forms_front ts _ h), factor_written us b l (forms_back ts _ h).1)

  factor_written : (ts : List TokenKind) (n : Number) → SpellsFactor ts n → HaveForms ts → IsWritten n
  factor_written _ _ (one_atom ts n k) h = atom_written ts n k h
  factor_written _ _ (minus_sign ts n k) h = factor_written ts n k h.1

  atom_written : (ts : List TokenKind) (n : Number) → SpellsAtom ts n → HaveForms ts → IsWritten n
  atom_written _ _ (of_literal digits raw k) h = literal_written digits raw h.0 k
  atom_written _ _ (of_variable name k) h = k
  atom_written _ _ (in_brackets ts n k) h = number_written ts n k (forms_front ts _ h.1)
  atom_written _ _ (of_least ts n k) h = arguments_written _ ts n k (forms_front ts _ h.1.1)
  atom_written _ _ (of_greatest ts n k) h = arguments_written _ ts n k (forms_front ts _ h.1.1)
  atom_written _ _ (of_absolute ts n k) h = number_written ts n k (forms_front ts _ h.1.1)
  atom_written _ _ of_spot h = tt
  atom_written _ _ of_period h = tt
  atom_written _ _ of_days h = tt

  arguments_written : (op : Operator) (ts : List TokenKind) (n : Number) → SpellsArguments op ts n → HaveForms ts → IsWritten n
  arguments_written _ _ _ (two op ts us a b k l) h = (number_written ts a k (forms_front ts _ h), number_written us b l (forms_back ts _ h).1)
  arguments_written _ _ _ (one_more_number op ts us a b k l) h = (arguments_written op ts a k (forms_front ts _ h), number_written us b l (forms_back ts _ h).1)

mutual
  condition_written : (ts : List TokenKind) (c : Condition) → SpellsCondition ts c → HaveForms ts → IsWrittenCondition c
  condition_written _ _ (one_conjunction ts c k) h = conjunction_written ts c k h
  condition_written _ _ (or_else ts us a b k l) h = (condition_written ts a k (forms_front ts _ h), conjunction_written us b l (forms_back ts _ h).1)

  conjunction_written : (ts : List TokenKind) (c : Condition) → SpellsConjunction ts c → HaveForms ts → IsWrittenCondition c
  conjunction_written _ _ (one_negation ts c k) h = negation_written ts c k h
  conjunction_written _ _ (and_also ts us a b k l) h = (conjunction_written ts a k (forms_front ts _ h), negation_written us b l (forms_back ts _ h).1)

  negation_written : (ts : List TokenKind) (c : Condition) → SpellsNegation ts c → HaveForms ts → IsWrittenCondition c
  negation_written _ _ (not_sign ts c k) h = negation_written ts c k h.1
  negation_written _ _ (two_numbers op ts us a b k l) h = (number_written ts a k (forms_front ts _ h), number_written us b l (forms_back ts _ h).1, tt)
  negation_written _ _ (condition_in_brackets ts c k) h = condition_written ts c k (forms_front ts _ h.1)

simple_written : (ts : List TokenKind) (s : Statement) → SpellsSimple ts s → HaveForms ts → IsWrittenStatement s
simple_written _ _ (assignment name ts n k l) h = (k, number_written ts n l h.1.1)
simple_written _ _ (payment leg ts n k l) h = (k, number_written ts n l h.1.1)

one_more_written : (b : Body) (s : Statement) → IsWrittenBody b → IsWrittenStatement s → IsWrittenBody (and_then b s)
one_more_written done s h k = (k, tt)
one_more_written (next first rest) s h k = (h.0, one_more_written rest s h.1 k)

mutual
  statement_written : (ts : List TokenKind) (s : Statement) → SpellsStatement ts s → HaveForms ts → IsWrittenStatement s
  statement_written _ _ (simple ts s k) h = simple_written ts s k h
  statement_written _ _ (simple_ended ts s k) h = simple_written ts s k (forms_front ts _ h)
  statement_written _ _ (choice ts s k) h = choice_written ts s k h
  statement_written _ _ (choice_ended ts s k) h = choice_written ts s k (forms_front ts _ h)

  choice_written : (ts : List TokenKind) (s : Statement) → SpellsChoice ts s → HaveForms ts → IsWrittenStatement s
  choice_written _ _ (without_else ts us c a k l) h =
      let after_then = (forms_back ts _ h.1).1 in
      (condition_written ts c k (forms_front ts _ h.1), body_written us a l (forms_front us _ after_then), tt)
  choice_written _ _ (with_else ts us vs c a b k l m) h =
      let after_then = (forms_back ts _ h.1).1 in
      let after_else = (forms_back us _ after_then).1 in
      (condition_written ts c k (forms_front ts _ h.1), body_written us a l (forms_front us _ after_then), body_written vs b m (forms_front vs _ after_else))

  body_written : (ts : List TokenKind) (b : Body) → SpellsBody ts b → HaveForms ts → IsWrittenBody b
  body_written _ _ no_statement h = tt
  body_written _ _ (one_more ts us b s k l) h =
      one_more_written b s (body_written ts b k (forms_front ts us h)) (statement_written us s l (forms_back ts us h))

item_written : (ts : List TokenKind) (i : Item) → SpellsItem ts i → HaveForms ts → IsWrittenItem i
item_written _ _ (dated date ts b k) h = (h.0, body_written ts b k h.1)
item_written _ _ (rolled terms digits ts b k l) h =
    let statements = forms_front ts _ (forms_back (schedule_tokens terms digits) _ h) in
    (h.1.1.0, h.1.1.1.1.0, k.value.within, body_written ts b l statements)

one_more_item_written : (items : Script) (i : Item) → IsWrittenScript items → IsWrittenItem i → IsWrittenScript (items ++ i ∷ [])
one_more_item_written [] i h k = (k, tt)
one_more_item_written (first ∷ rest) i h k = (h.0, one_more_item_written rest i h.1 k)

-- a script that tokens of a text spell can be written
pub script_written : (ts : List TokenKind) (s : Script) → SpellsScript ts s → HaveForms ts → IsWrittenScript s
script_written _ _ no_item h = tt
script_written _ _ (one_more_item ts us items i k l) h =
    one_more_item_written items i (script_written ts items k (forms_front ts us h)) (item_written us i l (forms_back ts us h))
