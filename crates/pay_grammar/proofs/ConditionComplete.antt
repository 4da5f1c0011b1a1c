-- Tokens that spell a number or a condition are read to their end.
use Rattle.std.proofs.Common.{◌≡◌, ℕ, zero, suc, Bool, false, IsTrue, List, [], ◌∷◌, ◌++◌, Option, Some, None, if◌then◌else◌, refl, ap, ◌∙◌}
use Rattle.std.proofs.Common.{append_assoc}
use Rattle.std.specs.Option.{option_and_then}
use Rattle.pay_fixed.proofs.AsSpelled.{spelled-raw}
use Rattle.pay_lexer.specs.declared.token.Key.TheVariants as key
use Rattle.pay_lexer.specs.declared.token.Sign.TheVariants as sign
use Rattle.pay_lexer.specs.declared.token.TokenKind.{TokenKind}
use Rattle.pay_lexer.specs.declared.token.TokenKind.TheVariants as token
use Rattle.pay_meaning.specs.Language.{Operator, Number, literal, variable, binary, Comparison, less, at_most, greater, at_least, equals, differs}
use Rattle.pay_meaning.specs.Language.{bare, Condition, compare, conjunction, disjunction, done}
use Rattle.pay_meaning.specs.Words.{is_name}
use Rattle.pay_grammar.specs.Grammar.{SpellsNumber, one_term, plus, minus, SpellsTerm, one_factor, times, over, SpellsFactor, one_atom, minus_sign}
use Rattle.pay_grammar.specs.Grammar.{SpellsAtom, of_literal, of_variable, in_brackets, of_least, of_greatest, of_absolute, of_spot, of_period}
use Rattle.pay_grammar.specs.Grammar.{of_days, SpellsArguments, two, one_more_number, bracketed, sign_of, SpellsCondition, one_conjunction, or_else}
use Rattle.pay_grammar.specs.Grammar.{SpellsConjunction, one_negation, and_also, SpellsNegation, not_sign, two_numbers, condition_in_brackets}
use Rattle.pay_grammar.specs.Reading.{Sum, no_sum, sum_plus, sum_minus, Product, no_product, product_times, product_over, Before, before, Logic}
use Rattle.pay_grammar.specs.Reading.{a_logic, no_logic, Opening, of_if, of_bracket, of_yes, Frame, a_body, a_condition, a_comparison, a_bracket}
use Rattle.pay_grammar.specs.Reading.{an_absolute, an_extreme, free, factor_next, after, after_condition, State, state, fresh, summed, arrived}
use Rattle.pay_grammar.specs.Reading.{negated_by, conjoined, condition_of, may_compare, step_literal, step_close, step, read_on}

-- a test that holds leads on
pub passed : (test : Bool) (to : State) → IsTrue test → (if test then Some to else None) ≡ Some to
passed test to h = rw h refl

-- a step that leads on
pub read_step : (place : State) (t : TokenKind) (to : State) (rest : List TokenKind) → step place t ≡ Some to → read_on place (t ∷ rest) ≡ read_on to rest
read_step place t to rest e = rw e refl

-- what stands after tokens that spell a number
pub record Reads (ts : List TokenKind) (n : Number) : Type 0 where
  pub sum : Sum
  pub last : Number
  pub is : summed sum last ≡ n
  pub reads : (frames : List Frame) (rest : List TokenKind)
      → read_on (state frames (factor_next fresh)) (ts ++ rest) ≡ read_on (state frames (after sum last)) rest

-- what stands after tokens that spell arguments of `min` or `max`
record ReadsArguments (op : Operator) (ts : List TokenKind) (n : Number) : Type 0 where
  first : Number
  sum : Sum
  last : Number
  is : binary op first (summed sum last) ≡ n
  reads : (frames : List Frame) (left : Before) (rest : List TokenKind)
      → read_on (state (an_extreme op left None ∷ frames) (factor_next fresh)) (ts ++ rest)
      ≡ read_on (state (an_extreme op left (Some first) ∷ frames) (after sum last)) rest

-- a bracket around a number ends with that number
closes : (ts : List TokenKind) (n : Number) → Reads ts n → (frames : List Frame) (rest : List TokenKind)
    → read_on (state frames (factor_next fresh)) ((ts ++ token.Sign sign.ParenRight ∷ []) ++ rest)
    ≡ option_and_then (λ next. read_on next rest) (step_close frames n)
closes ts n r frames rest =
    rw append_assoc (r.reads frames (token.Sign sign.ParenRight ∷ rest) ∙ ap (λ x. option_and_then (λ next. read_on next rest) (step_close frames x)) r.is)

-- a bracket around arguments ends with the number that they give
chooses : (op : Operator) (ts : List TokenKind) (n : Number) → ReadsArguments op ts n → (frames : List Frame) (left : Before) (rest : List TokenKind)
    → read_on (state (an_extreme op left None ∷ frames) (factor_next fresh)) ((ts ++ token.Sign sign.ParenRight ∷ []) ++ rest)
    ≡ read_on (arrived frames left n) rest
chooses op ts n r frames left rest =
    rw append_assoc (r.reads frames left (token.Sign sign.ParenRight ∷ rest) ∙ ap (λ x. read_on (arrived frames left x) rest) r.is)

-- what a bracket is where it opens: that of a condition or a number, where a comparison may begin, or else that of a number
data Opens : List Frame → Before → Type 0 where
  in_condition : (opening : Opening) (logic : Logic) (outer : List Frame) → Opens (a_condition opening logic ∷ outer) fresh
  in_number : (frames : List Frame) (left : Before) → may_compare frames left ≡ false → Opens frames left

opens : (frames : List Frame) (left : Before) → Opens frames left
opens (a_condition opening logic ∷ outer) (before no_sum no_product zero) = in_condition opening logic outer
opens frames left = in_number frames left refl

-- a number in brackets leads to the place after it
bracket_read : (ts : List TokenKind) (n : Number) → Reads ts n → (frames : List Frame) (left : Before) (rest : List TokenKind) → Opens frames left
    → read_on (state frames (factor_next left)) (bracketed ts ++ rest) ≡ read_on (arrived frames left n) rest
bracket_read ts n r _ _ rest (in_condition opening logic outer) = closes ts n r (a_condition of_bracket no_logic ∷ a_condition opening logic ∷ outer) rest
bracket_read ts n r _ _ rest (in_number frames left e) =
    let to = state (a_bracket left ∷ frames) (factor_next fresh) in
    read_step (state frames (factor_next left)) (token.Sign sign.ParenLeft) to ((ts ++ token.Sign sign.ParenRight ∷ []) ++ rest) (rw e refl)
    ∙ closes ts n r (a_bracket left ∷ frames) rest

mutual
  pub number_read : (ts : List TokenKind) (n : Number) → SpellsNumber ts n → Reads ts n
  number_read _ _ (one_term ts n k) = record { sum = no_sum; last = n; is = refl; reads = λ frames rest. term_read ts n k frames no_sum rest }
  number_read _ _ (plus ts us a b k m) =
      let r = number_read ts a k in
      record {
        sum = sum_plus a;
        last = b;
        is = refl;
        reads = λ frames rest. rw append_assoc (r.reads frames (token.Sign sign.Plus ∷ us ++ rest)
            ∙ ap (λ x. read_on (state frames (factor_next (before (sum_plus x) no_product 0))) (us ++ rest)) r.is
            ∙ term_read us b m frames (sum_plus a) rest);
      }
  number_read _ _ (minus ts us a b k m) =
      let r = number_read ts a k in
      record {
        sum = sum_minus a;
        last = b;
        is = refl;
        reads = λ frames rest. rw append_assoc (r.reads frames (token.Sign sign.Minus ∷ us ++ rest)
            ∙ ap (λ x. read_on (state frames (factor_next (before (sum_minus x) no_product 0))) (us ++ rest)) r.is
            ∙ term_read us b m frames (sum_minus a) rest);
      }

  -- tokens that spell a term lead to the place after it, by what stands left of it
  term_read : (ts : List TokenKind) (n : Number) → SpellsTerm ts n → (frames : List Frame) (sum : Sum) (rest : List TokenKind)
      → read_on (state frames (factor_next (before sum no_product 0))) (ts ++ rest) ≡ read_on (state frames (after sum n)) rest
  term_read _ _ (one_factor ts n k) frames sum rest = factor_read ts n k frames sum no_product 0 rest
  term_read _ _ (times ts us a b k m) frames sum rest =
      rw append_assoc (term_read ts a k frames sum (token.Sign sign.Star ∷ us ++ rest) ∙ factor_read us b m frames sum (product_times a) 0 rest)
  term_read _ _ (over ts us a b k m) frames sum rest =
      rw append_assoc (term_read ts a k frames sum (token.Sign sign.Slash ∷ us ++ rest) ∙ factor_read us b m frames sum (product_over a) 0 rest)

  factor_read : (ts : List TokenKind) (n : Number) → SpellsFactor ts n
      → (frames : List Frame) (sum : Sum) (product : Product) (signs : ℕ) (rest : List TokenKind)
      → read_on (state frames (factor_next (before sum product signs))) (ts ++ rest) ≡ read_on (arrived frames (before sum product signs) n) rest
  factor_read _ _ (one_atom ts n k) frames sum product signs rest = atom_read ts n k frames (before sum product signs) rest
  factor_read _ _ (minus_sign ts n k) frames sum product signs rest = factor_read ts n k frames sum product (suc signs) rest

  atom_read : (ts : List TokenKind) (n : Number) → SpellsAtom ts n → (frames : List Frame) (left : Before) (rest : List TokenKind)
      → read_on (state frames (factor_next left)) (ts ++ rest) ≡ read_on (arrived frames left n) rest
  atom_read _ _ (of_literal digits raw e) frames left rest =
      let to = arrived frames left (literal raw) in
      read_step (state frames (factor_next left)) (token.Number digits) to rest (ap (step_literal frames left) (spelled-raw digits raw e))
  atom_read _ _ (of_variable name k) frames left rest =
      let to = arrived frames left (variable name) in
      read_step (state frames (factor_next left)) (token.Word name) to rest (passed (is_name name) to k)
  atom_read _ _ (in_brackets ts n k) frames left rest = bracket_read ts n (number_read ts n k) frames left rest (opens frames left)
  atom_read _ _ (of_least ts n k) frames left rest = chooses _ ts n (arguments_read _ ts n k) frames left rest
  atom_read _ _ (of_greatest ts n k) frames left rest = chooses _ ts n (arguments_read _ ts n k) frames left rest
  atom_read _ _ (of_absolute ts n k) frames left rest = closes ts n (number_read ts n k) (an_absolute left ∷ frames) rest
  atom_read _ _ of_spot frames left rest = refl
  atom_read _ _ of_period frames left rest = refl
  atom_read _ _ of_days frames left rest = refl

  arguments_read : (op : Operator) (ts : List TokenKind) (n : Number) → SpellsArguments op ts n → ReadsArguments op ts n
  arguments_read _ _ _ (two op ts us a b k m) =
      let r = number_read ts a k in
      let q = number_read us b m in
      record {
        first = a;
        sum = q.sum;
        last = q.last;
        is = ap (binary op a) q.is;
        reads = λ frames left rest. rw append_assoc (r.reads (an_extreme op left None ∷ frames) (token.Sign sign.Comma ∷ us ++ rest)
            ∙ ap (λ x. read_on (state (an_extreme op left (Some x) ∷ frames) (factor_next fresh)) (us ++ rest)) r.is
            ∙ q.reads (an_extreme op left (Some a) ∷ frames) rest);
      }
  arguments_read _ _ _ (one_more_number op ts us a b k m) =
      let r = arguments_read op ts a k in
      let q = number_read us b m in
      record {
        first = a;
        sum = q.sum;
        last = q.last;
        is = ap (binary op a) q.is;
        reads = λ frames left rest. rw append_assoc (r.reads frames left (token.Sign sign.Comma ∷ us ++ rest)
            ∙ ap (λ x. read_on (state (an_extreme op left (Some x) ∷ frames) (factor_next fresh)) (us ++ rest)) r.is
            ∙ q.reads (an_extreme op left (Some a) ∷ frames) rest);
      }

-- what ends a comparison: its sign, its left number, and what stands at the end of its right number; or a condition in brackets
data Held : Type 0 where
  compared : Comparison → Number → Sum → Number → Held
  grouped : Condition → Held

-- the condition that this is
abbrev held_condition : Held → Condition
held_condition (compared op left sum term) = compare op left (summed sum term) bare
held_condition (grouped c) = c

-- the place after it, with these frames open around it
abbrev held_at : List Frame → Held → State
held_at frames (compared op left sum term) = state (a_comparison op left ∷ frames) (after sum term)
held_at frames (grouped c) = state frames (after_condition c)

-- what stands after tokens that spell a condition
pub record ReadsCondition (ts : List TokenKind) (c : Condition) : Type 0 where
  logic : Logic
  held : Held
  is : condition_of logic (held_condition held) ≡ c
  reads : (opening : Opening) (outer : List Frame) (rest : List TokenKind)
      → read_on (state (a_condition opening no_logic ∷ outer) (factor_next fresh)) (ts ++ rest)
      ≡ read_on (held_at (a_condition opening logic ∷ outer) held) rest

-- what stands after tokens that spell a conjunction
record ReadsConjunction (ts : List TokenKind) (c : Condition) : Type 0 where
  ands : Option Condition
  nots : ℕ
  held : Held
  is : conjoined ands (negated_by nots (held_condition held)) ≡ c
  reads : (opening : Opening) (ors : Option Condition) (outer : List Frame) (rest : List TokenKind)
      → read_on (state (a_condition opening (a_logic ors None 0) ∷ outer) (factor_next fresh)) (ts ++ rest)
      ≡ read_on (held_at (a_condition opening (a_logic ors ands nots) ∷ outer) held) rest

-- what stands after tokens that spell a negation, with so many `not`s before them
record ReadsNegation (ts : List TokenKind) (c : Condition) (n : ℕ) : Type 0 where
  nots : ℕ
  held : Held
  is : negated_by nots (held_condition held) ≡ negated_by n c
  reads : (opening : Opening) (ors ands : Option Condition) (outer : List Frame) (rest : List TokenKind)
      → read_on (state (a_condition opening (a_logic ors ands n) ∷ outer) (factor_next fresh)) (ts ++ rest)
      ≡ read_on (held_at (a_condition opening (a_logic ors ands nots) ∷ outer) held) rest

-- the sign of a comparison leads to its right number
compares : (op : Comparison) (opening : Opening) (logic : Logic) (outer : List Frame) (sum : Sum) (term a : Number) (rest : List TokenKind)
    → summed sum term ≡ a
    → read_on (state (a_condition opening logic ∷ outer) (after sum term)) (token.Sign (sign_of op) ∷ rest)
    ≡ read_on (state (a_comparison op a ∷ a_condition opening logic ∷ outer) (factor_next fresh)) rest
compares less opening logic outer sum term a rest e =
    ap (λ x. read_on (state (a_comparison less x ∷ a_condition opening logic ∷ outer) (factor_next fresh)) rest) e
compares at_most opening logic outer sum term a rest e =
    ap (λ x. read_on (state (a_comparison at_most x ∷ a_condition opening logic ∷ outer) (factor_next fresh)) rest) e
compares greater opening logic outer sum term a rest e =
    ap (λ x. read_on (state (a_comparison greater x ∷ a_condition opening logic ∷ outer) (factor_next fresh)) rest) e
compares at_least opening logic outer sum term a rest e =
    ap (λ x. read_on (state (a_comparison at_least x ∷ a_condition opening logic ∷ outer) (factor_next fresh)) rest) e
compares equals opening logic outer sum term a rest e =
    ap (λ x. read_on (state (a_comparison equals x ∷ a_condition opening logic ∷ outer) (factor_next fresh)) rest) e
compares differs opening logic outer sum term a rest e =
    ap (λ x. read_on (state (a_comparison differs x ∷ a_condition opening logic ∷ outer) (factor_next fresh)) rest) e

-- `and` leads to the next negation
joins_and : (held : Held) (opening : Opening) (ors ands : Option Condition) (nots : ℕ) (outer : List Frame) (a : Condition) (rest : List TokenKind)
    → conjoined ands (negated_by nots (held_condition held)) ≡ a
    → read_on (held_at (a_condition opening (a_logic ors ands nots) ∷ outer) held) (token.Key key.And ∷ rest)
    ≡ read_on (state (a_condition opening (a_logic ors (Some a) 0) ∷ outer) (factor_next fresh)) rest
joins_and (compared op left sum term) opening ors ands nots outer a rest e =
    ap (λ x. read_on (state (a_condition opening (a_logic ors (Some x) 0) ∷ outer) (factor_next fresh)) rest) e
joins_and (grouped c) opening ors ands nots outer a rest e =
    ap (λ x. read_on (state (a_condition opening (a_logic ors (Some x) 0) ∷ outer) (factor_next fresh)) rest) e

-- `or` leads to the next conjunction
joins_or : (held : Held) (opening : Opening) (logic : Logic) (outer : List Frame) (a : Condition) (rest : List TokenKind)
    → condition_of logic (held_condition held) ≡ a
    → read_on (held_at (a_condition opening logic ∷ outer) held) (token.Key key.Or ∷ rest)
    ≡ read_on (state (a_condition opening (a_logic (Some a) None 0) ∷ outer) (factor_next fresh)) rest
joins_or (compared op left sum term) opening (a_logic ors ands nots) outer a rest e =
    ap (λ x. read_on (state (a_condition opening (a_logic (Some x) None 0) ∷ outer) (factor_next fresh)) rest) e
joins_or (grouped c) opening (a_logic ors ands nots) outer a rest e =
    ap (λ x. read_on (state (a_condition opening (a_logic (Some x) None 0) ∷ outer) (factor_next fresh)) rest) e

-- `)` ends a bracket with this condition
ends_bracket : (held : Held) (logic : Logic) (outer : List Frame) (c : Condition) (rest : List TokenKind) → condition_of logic (held_condition held) ≡ c
    → read_on (held_at (a_condition of_bracket logic ∷ outer) held) (token.Sign sign.ParenRight ∷ rest) ≡ read_on (state outer (after_condition c)) rest
ends_bracket (compared op left sum term) logic outer c rest e = ap (λ x. read_on (state outer (after_condition x)) rest) e
ends_bracket (grouped b) logic outer c rest e = ap (λ x. read_on (state outer (after_condition x)) rest) e

-- a condition in brackets leads to the place after it
groups : (ts : List TokenKind) (c : Condition) → ReadsCondition ts c → (outer : List Frame) (rest : List TokenKind)
    → read_on (state (a_condition of_bracket no_logic ∷ outer) (factor_next fresh)) ((ts ++ token.Sign sign.ParenRight ∷ []) ++ rest)
    ≡ read_on (state outer (after_condition c)) rest
groups ts c r outer rest =
    rw append_assoc (r.reads of_bracket outer (token.Sign sign.ParenRight ∷ rest) ∙ ends_bracket r.held r.logic outer c rest r.is)

-- `then` ends the condition of an `if`
ends_then : (held : Held) (logic : Logic) (outer : List Frame) (c : Condition) (rest : List TokenKind) → condition_of logic (held_condition held) ≡ c
    → read_on (held_at (a_condition of_if logic ∷ outer) held) (token.Key key.Then ∷ rest) ≡ read_on (state (a_body (of_yes c) done ∷ outer) free) rest
ends_then (compared op left sum term) logic outer c rest e = ap (λ x. read_on (state (a_body (of_yes x) done ∷ outer) free) rest) e
ends_then (grouped b) logic outer c rest e = ap (λ x. read_on (state (a_body (of_yes x) done ∷ outer) free) rest) e

mutual
  pub condition_read : (ts : List TokenKind) (c : Condition) → SpellsCondition ts c → ReadsCondition ts c
  condition_read _ _ (one_conjunction ts c k) =
      let r = conjunction_read ts c k in
      record {
        logic = a_logic None r.ands r.nots;
        held = r.held;
        is = r.is;
        reads = λ opening outer rest. r.reads opening None outer rest;
      }
  condition_read _ _ (or_else ts us a b k m) =
      let r = condition_read ts a k in
      let q = conjunction_read us b m in
      record {
        logic = a_logic (Some a) q.ands q.nots;
        held = q.held;
        is = ap (disjunction a) q.is;
        reads = λ opening outer rest. rw append_assoc (r.reads opening outer (token.Key key.Or ∷ us ++ rest)
            ∙ joins_or r.held opening r.logic outer a (us ++ rest) r.is
            ∙ q.reads opening (Some a) outer rest);
      }

  conjunction_read : (ts : List TokenKind) (c : Condition) → SpellsConjunction ts c → ReadsConjunction ts c
  conjunction_read _ _ (one_negation ts c k) =
      let r = negation_read ts c k 0 in
      record {
        ands = None;
        nots = r.nots;
        held = r.held;
        is = r.is;
        reads = λ opening ors outer rest. r.reads opening ors None outer rest;
      }
  conjunction_read _ _ (and_also ts us a b k m) =
      let r = conjunction_read ts a k in
      let q = negation_read us b m 0 in
      record {
        ands = Some a;
        nots = q.nots;
        held = q.held;
        is = ap (conjunction a) q.is;
        reads = λ opening ors outer rest. rw append_assoc (r.reads opening ors outer (token.Key key.And ∷ us ++ rest)
            ∙ joins_and r.held opening ors r.ands r.nots outer a (us ++ rest) r.is
            ∙ q.reads opening ors (Some a) outer rest);
      }

  negation_read : (ts : List TokenKind) (c : Condition) → SpellsNegation ts c → (n : ℕ) → ReadsNegation ts c n
  negation_read _ _ (not_sign ts c k) n =
      let r = negation_read ts c k (suc n) in
      record {
        nots = r.nots;
        held = r.held;
        is = r.is;
        reads = λ opening ors ands outer rest. r.reads opening ors ands outer rest;
      }
  negation_read _ _ (two_numbers op ts us a b k m) n =
      let r = number_read ts a k in
      let q = number_read us b m in
      record {
        nots = n;
        held = compared op a q.sum q.last;
        is = ap (λ x. negated_by n (compare op a x bare)) q.is;
        reads = λ opening ors ands outer rest. rw append_assoc (
            r.reads (a_condition opening (a_logic ors ands n) ∷ outer) (token.Sign (sign_of op) ∷ us ++ rest)
            ∙ compares op opening (a_logic ors ands n) outer r.sum r.last a (us ++ rest) r.is
            ∙ q.reads (a_comparison op a ∷ a_condition opening (a_logic ors ands n) ∷ outer) rest);
      }
  negation_read _ _ (condition_in_brackets ts c k) n =
      let r = condition_read ts c k in
      record {
        nots = n;
        held = grouped c;
        is = refl;
        reads = λ opening ors ands outer rest. groups ts c r (a_condition opening (a_logic ors ands n) ∷ outer) rest;
      }

-- a condition and `then` lead to the first branch
pub then_read : (ts : List TokenKind) (c : Condition) → ReadsCondition ts c → (outer : List Frame) (us rest : List TokenKind)
    → read_on (state (a_condition of_if no_logic ∷ outer) (factor_next fresh)) ((ts ++ token.Key key.Then ∷ us) ++ rest)
    ≡ read_on (state (a_body (of_yes c) done ∷ outer) free) (us ++ rest)
then_read ts c r outer us rest =
    rw append_assoc (r.reads of_if outer (token.Key key.Then ∷ us ++ rest) ∙ ends_then r.held r.logic outer c (us ++ rest) r.is)
