-- What the tokens that lead to a place of reading spell: what is open there, what stands left in it, and what it is joined to.
use Rattle.std.proofs.Common.{◌≡◌, ℕ, zero, suc, true, List, [], ◌∷◌, ◌++◌, Option, Some, None, refl, ap, ◌∙◌, append_assoc, append-nil}
use Rattle.std.proofs.lemmas.Bool.{false≢true}
use Rattle.pay_dates.specs.declared.day.Day.{Day}
use Rattle.pay_dates.specs.declared.roll.Unit.{Unit as StepUnit}
use Rattle.pay_lexer.specs.declared.token.Key.{Key}
use Rattle.pay_lexer.specs.declared.token.Key.TheVariants as key
use Rattle.pay_lexer.specs.declared.token.Sign.TheVariants as sign
use Rattle.pay_lexer.specs.declared.token.TokenKind.{TokenKind}
use Rattle.pay_lexer.specs.declared.token.TokenKind.TheVariants as token
use Rattle.pay_meaning.specs.Language.{Operator, least, greatest, Number, spot, period, days, negative, binary, Comparison, Condition, negation}
use Rattle.pay_meaning.specs.Language.{Statement, Body, and_then, Terms, Script}
use Rattle.pay_meaning.specs.Words.{IsName, unit_word}
use Rattle.pay_grammar.specs.Grammar.{bracketed, SpellsNumber, one_term, plus, minus, SpellsTerm, one_factor, times, over, SpellsFactor, minus_sign}
use Rattle.pay_grammar.specs.Grammar.{SpellsAtom, of_least, of_greatest, of_spot, of_period, of_days, SpellsArguments, two, one_more_number, sign_of}
use Rattle.pay_grammar.specs.Grammar.{SpellsCondition, one_conjunction, or_else, SpellsConjunction, one_negation, and_also, SpellsNegation, not_sign}
use Rattle.pay_grammar.specs.Grammar.{SpellsSimple, assignment, payment, SpellsChoice, SpellsBody, SpellsCount, rule_tokens, schedule_tokens, SpellsScript}
use Rattle.pay_grammar.specs.Reading.{Head, assigns, pays, Sum, no_sum, sum_plus, sum_minus, Product, no_product, product_times, product_over, Before}
use Rattle.pay_grammar.specs.Reading.{before, Logic, a_logic, Opening, of_if, of_bracket, Owner, of_item, of_schedule, of_yes, of_no, Frame, a_script}
use Rattle.pay_grammar.specs.Reading.{a_body, a_statement, a_condition, a_comparison, a_bracket, an_absolute, an_extreme, Heading, from_next, first_next}
use Rattle.pay_grammar.specs.Reading.{to_next, last_next, every_next, count_next, unit_next, rule_next, do_next, Mode, free, heading, after_endif, named}
use Rattle.pay_grammar.specs.Reading.{factor_next, after, after_condition, bracket_next, call_named, call_opened, State, state, fresh, summed}
use Rattle.pay_grammar.specs.Reading.{multiplied, signed_by, headed, no_logic, negated_by, conjoined, disjoined, condition_of, with_and, with_or}
use Rattle.pay_grammar.specs.Reading.{with_not, is_fresh, may_compare, with_argument}

-- the tokens of what stands left of a term
pub data SpellsSum : Sum → List TokenKind → Type 0 where
  sum_none : SpellsSum no_sum []
  sum_of_plus : (ts : List TokenKind) (n : Number) → SpellsNumber ts n → SpellsSum (sum_plus n) (ts ++ token.Sign sign.Plus ∷ [])
  sum_of_minus : (ts : List TokenKind) (n : Number) → SpellsNumber ts n → SpellsSum (sum_minus n) (ts ++ token.Sign sign.Minus ∷ [])

-- the tokens of what stands left of a factor
pub data SpellsProduct : Product → List TokenKind → Type 0 where
  product_none : SpellsProduct no_product []
  product_of_times : (ts : List TokenKind) (n : Number) → SpellsTerm ts n → SpellsProduct (product_times n) (ts ++ token.Sign sign.Star ∷ [])
  product_of_over : (ts : List TokenKind) (n : Number) → SpellsTerm ts n → SpellsProduct (product_over n) (ts ++ token.Sign sign.Slash ∷ [])

-- the tokens of so many minus signs
abbrev pub signs_of : ℕ → List TokenKind
signs_of zero = []
signs_of (suc n) = signs_of n ++ token.Sign sign.Minus ∷ []

-- the tokens of what stands left of an atom
pub data SpellsBefore : Before → List TokenKind → Type 0 where
  stands_left : (sum : Sum) (product : Product) (signs : ℕ) (ts us : List TokenKind) → SpellsSum sum ts → SpellsProduct product us
      → SpellsBefore (before sum product signs) (ts ++ (us ++ signs_of signs))

-- the tokens of a condition and `or`, where they stand left of a conjunction
pub data SpellsOrs : Option Condition → List TokenKind → Type 0 where
  no_or : SpellsOrs None []
  some_or : (ts : List TokenKind) (c : Condition) → SpellsCondition ts c → SpellsOrs (Some c) (ts ++ token.Key key.Or ∷ [])

-- the tokens of a condition and `and`, where they stand left of a negation
pub data SpellsAnds : Option Condition → List TokenKind → Type 0 where
  no_and : SpellsAnds None []
  some_and : (ts : List TokenKind) (c : Condition) → SpellsConjunction ts c → SpellsAnds (Some c) (ts ++ token.Key key.And ∷ [])

-- the tokens of so many `not`s
abbrev pub nots_of : ℕ → List TokenKind
nots_of zero = []
nots_of (suc n) = nots_of n ++ token.Key key.Not ∷ []

-- the tokens of what stands left of a comparison
pub data SpellsLogic : Logic → List TokenKind → Type 0 where
  logic_left : (ors ands : Option Condition) (nots : ℕ) (ts us : List TokenKind) → SpellsOrs ors ts → SpellsAnds ands us
      → SpellsLogic (a_logic ors ands nots) (ts ++ (us ++ nots_of nots))

-- the token that opens a condition
abbrev pub opening_of : Opening → TokenKind
opening_of of_if = token.Key key.If
opening_of of_bracket = token.Sign sign.ParenLeft

-- the tokens in front of the statements of an item, of a schedule or of a branch
pub data SpellsOwner : Owner → List TokenKind → Type 0 where
  owner_item : (date : Day) → SpellsOwner (of_item date) (token.Date date ∷ [])
  owner_schedule : (terms : Terms) (digits : List ℕ) → SpellsCount digits terms.every → SpellsOwner (of_schedule terms) (schedule_tokens terms digits)
  owner_yes : (c : Condition) (ts : List TokenKind) → SpellsCondition ts c → SpellsOwner (of_yes c) (token.Key key.If ∷ (ts ++ token.Key key.Then ∷ []))
  owner_no : (c : Condition) (a : Body) (ts us : List TokenKind) → SpellsCondition ts c → SpellsBody us a
      → SpellsOwner (of_no c a) (token.Key key.If ∷ (ts ++ token.Key key.Then ∷ (us ++ token.Key key.Else ∷ [])))

-- the tokens of a statement in front of its number
pub data SpellsHead : Head → List TokenKind → Type 0 where
  head_assigns : (name : List ℕ) → IsName name → SpellsHead (assigns name) (token.Word name ∷ token.Sign sign.Equals ∷ [])
  head_pays : (leg : List ℕ) → IsName leg → SpellsHead (pays leg) (token.Word leg ∷ token.Key key.Pays ∷ [])

-- the word of a choice
pub data IsChoice : Operator → Key → Type 0 where
  is_least : IsChoice least key.Min
  is_greatest : IsChoice greatest key.Max

-- the arguments of a choice before the next one, with their commas
pub data SpellsFirst : Operator → Option Number → List TokenKind → Type 0 where
  no_first : (op : Operator) → SpellsFirst op None []
  one_first : (op : Operator) (ts : List TokenKind) (n : Number) → SpellsNumber ts n → SpellsFirst op (Some n) (ts ++ token.Sign sign.Comma ∷ [])
  more_first : (op : Operator) (ts : List TokenKind) (n : Number) → SpellsArguments op ts n → SpellsFirst op (Some n) (ts ++ token.Sign sign.Comma ∷ [])

-- the word that opens a frame of `abs`, `min` or `max`, after what stands left of it
pub data SpellsWord : Frame → List TokenKind → Type 0 where
  word_absolute : (left : Before) (ts : List TokenKind) → SpellsBefore left ts → SpellsWord (an_absolute left) (ts ++ token.Key key.Abs ∷ [])
  word_choice : (op : Operator) (k : Key) (left : Before) (ts : List TokenKind) → IsChoice op k → SpellsBefore left ts
      → SpellsWord (an_extreme op left None) (ts ++ token.Key k ∷ [])

-- the tokens of what is open in a frame
pub data SpellsFrame : Frame → List TokenKind → Type 0 where
  frame_script : (items : Script) (ts : List TokenKind) → SpellsScript ts items → SpellsFrame (a_script items) ts
  frame_body : (owner : Owner) (body : Body) (ts us : List TokenKind) → SpellsOwner owner ts → SpellsBody us body → SpellsFrame (a_body owner body) (ts ++ us)
  frame_statement : (head : Head) (ts : List TokenKind) → SpellsHead head ts → SpellsFrame (a_statement head) ts
  frame_condition : (opening : Opening) (logic : Logic) (ts : List TokenKind) → SpellsLogic logic ts
      → SpellsFrame (a_condition opening logic) (opening_of opening ∷ ts)
  frame_comparison : (op : Comparison) (left : Number) (ts : List TokenKind) → SpellsNumber ts left
      → SpellsFrame (a_comparison op left) (ts ++ token.Sign (sign_of op) ∷ [])
  frame_bracket : (left : Before) (ts : List TokenKind) → SpellsBefore left ts → SpellsFrame (a_bracket left) (ts ++ token.Sign sign.ParenLeft ∷ [])
  frame_absolute : (left : Before) (ts : List TokenKind) → SpellsBefore left ts
      → SpellsFrame (an_absolute left) (ts ++ token.Key key.Abs ∷ token.Sign sign.ParenLeft ∷ [])
  frame_choice : (op : Operator) (k : Key) (left : Before) (first : Option Number) (ts us : List TokenKind) → IsChoice op k → SpellsBefore left ts
      → SpellsFirst op first us → SpellsFrame (an_extreme op left first) (ts ++ token.Key k ∷ token.Sign sign.ParenLeft ∷ us)

-- the tokens of all that is open, the innermost frame's last
pub data SpellsFrames : List Frame → List TokenKind → Type 0 where
  none_open : SpellsFrames [] []
  one_inside : (frame : Frame) (frames : List Frame) (ts us : List TokenKind) → SpellsFrame frame us → SpellsFrames frames ts
      → SpellsFrames (frame ∷ frames) (ts ++ us)

-- the word of a call without arguments
pub data IsCall : Number → Key → Type 0 where
  is_spot : IsCall spot key.Spot
  is_period : IsCall period key.Period
  is_days : IsCall days key.Days

-- the tokens of a schedule up to its first date, and these
abbrev pub from_tokens : Day → List TokenKind → List TokenKind
from_tokens first rest = token.Key key.Schedule ∷ token.Key key.From ∷ token.Date first ∷ rest

-- the tokens of a schedule up to its last date, and these
abbrev pub to_tokens : Day → Day → List TokenKind → List TokenKind
to_tokens first last rest = from_tokens first (token.Key key.To ∷ token.Date last ∷ rest)

-- the tokens of a schedule up to its count, and these
abbrev pub every_tokens : Day → Day → List ℕ → List TokenKind → List TokenKind
every_tokens first last digits rest = to_tokens first last (token.Key key.Every ∷ token.Number digits ∷ rest)

-- the tokens of the terms of a schedule that are read so far
pub data SpellsHeading : Heading → List TokenKind → Type 0 where
  read_schedule : SpellsHeading from_next (token.Key key.Schedule ∷ [])
  read_from : SpellsHeading first_next (token.Key key.Schedule ∷ token.Key key.From ∷ [])
  read_first : (first : Day) → SpellsHeading (to_next first) (from_tokens first [])
  read_to : (first : Day) → SpellsHeading (last_next first) (from_tokens first (token.Key key.To ∷ []))
  read_last : (first last : Day) → SpellsHeading (every_next first last) (to_tokens first last [])
  read_every : (first last : Day) → SpellsHeading (count_next first last) (to_tokens first last (token.Key key.Every ∷ []))
  read_count : (first last : Day) (digits : List ℕ) (every : ℕ) → SpellsCount digits every
      → SpellsHeading (unit_next first last every) (every_tokens first last digits [])
  read_unit : (first last : Day) (digits : List ℕ) (every : ℕ) (unit : StepUnit) → SpellsCount digits every
      → SpellsHeading (rule_next first last every unit) (every_tokens first last digits (token.Word (unit_word unit) ∷ []))
  read_rule : (terms : Terms) (digits : List ℕ) → SpellsCount digits terms.every
      → SpellsHeading (do_next terms) (every_tokens terms.first terms.last digits (token.Word (unit_word terms.unit) ∷ rule_tokens terms.rule))

-- the tokens inside the innermost frame up to a place
pub data SpellsMode : Mode → List TokenKind → Type 0 where
  at_free : SpellsMode free []
  at_heading : (awaited : Heading) (ts : List TokenKind) → SpellsHeading awaited ts → SpellsMode (heading awaited) ts
  at_name : (name : List ℕ) → IsName name → SpellsMode (named name) (token.Word name ∷ [])
  at_atom : (left : Before) (ts : List TokenKind) → SpellsBefore left ts → SpellsMode (factor_next left) ts
  at_factor : (sum : Sum) (term : Number) (ts us : List TokenKind) → SpellsSum sum ts → SpellsTerm us term → SpellsMode (after sum term) (ts ++ us)
  at_condition : (c : Condition) (ts : List TokenKind) → SpellsNegation ts c → SpellsMode (after_condition c) ts
  at_word : (frame : Frame) (ts : List TokenKind) → SpellsWord frame ts → SpellsMode (bracket_next frame) ts
  at_call : (number : Number) (k : Key) (left : Before) (ts : List TokenKind) → IsCall number k → SpellsBefore left ts
      → SpellsMode (call_named number left) (ts ++ token.Key k ∷ [])
  at_bracket : (number : Number) (k : Key) (left : Before) (ts : List TokenKind) → IsCall number k → SpellsBefore left ts
      → SpellsMode (call_opened number left) (ts ++ token.Key k ∷ token.Sign sign.ParenLeft ∷ [])

-- These tokens lead to this place. The `if` that ended there is kept apart: a `;` after it is one more of its tokens.
pub data Past : State → List TokenKind → Type 0 where
  past : (frames : List Frame) (mode : Mode) (ts us : List TokenKind) → SpellsFrames frames ts → SpellsMode mode us → Past (state frames mode) (ts ++ us)
  past_choice : (frames : List Frame) (owner : Owner) (body : Body) (s : Statement) (ts us vs ws : List TokenKind) → SpellsFrames frames ts
      → SpellsOwner owner us → SpellsBody vs body → SpellsChoice ws s
      → Past (state (a_body owner (and_then body s) ∷ frames) after_endif) (ts ++ (us ++ (vs ++ ws)))

-- the same, of tokens that are the pieces in a row
pub past_is : (frames : List Frame) (mode : Mode) (ts us front : List TokenKind) → SpellsFrames frames ts → SpellsMode mode us → ts ++ us ≡ front
    → Past (state frames mode) front
past_is frames mode ts us front k l e = rw e at (past frames mode ts us k l)

-- the same, of an `if` that ends
pub past_choice_is : (frames : List Frame) (owner : Owner) (body : Body) (s : Statement) (ts us vs ws front : List TokenKind) → SpellsFrames frames ts
    → SpellsOwner owner us → SpellsBody vs body → SpellsChoice ws s → ts ++ (us ++ (vs ++ ws)) ≡ front
    → Past (state (a_body owner (and_then body s) ∷ frames) after_endif) front
past_choice_is frames owner body s ts us vs ws front k o l m e = rw e at (past_choice frames owner body s ts us vs ws k o l m)

-- the same, in one more frame
pub past_inside : (frame : Frame) (frames : List Frame) (mode : Mode) (ts us vs front : List TokenKind) → SpellsFrames frames ts → SpellsFrame frame us
    → SpellsMode mode vs → (ts ++ us) ++ vs ≡ front → Past (state (frame ∷ frames) mode) front
past_inside frame frames mode ts us vs front k l m e = past_is (frame ∷ frames) mode (ts ++ us) vs front (one_inside frame frames ts us l k) m e

-- before a term
pub past_term : (frames : List Frame) (sum : Sum) (ts us front : List TokenKind) → SpellsFrames frames ts → SpellsSum sum us → ts ++ us ≡ front
    → Past (state frames (factor_next (before sum no_product 0))) front
past_term frames sum ts us front k l e =
    past_is frames _ ts (us ++ []) front k (at_atom _ _ (stands_left sum no_product 0 us [] l product_none)) (ap (λ x. ts ++ x) (append-nil us) ∙ e)

-- before the first term of a number in one more frame
pub past_fresh : (frame : Frame) (frames : List Frame) (ts us front : List TokenKind) → SpellsFrames frames ts → SpellsFrame frame us → ts ++ us ≡ front
    → Past (state (frame ∷ frames) (factor_next fresh)) front
past_fresh frame frames ts us front k l e =
    past_term (frame ∷ frames) no_sum (ts ++ us) [] front (one_inside frame frames ts us l k) sum_none (append-nil _ ∙ e)

-- an atom with its minus signs
pub factor_of : (signs : ℕ) (n : Number) (ts : List TokenKind) → SpellsFactor ts n → SpellsFactor (signs_of signs ++ ts) (signed_by signs n)
factor_of zero n ts k = k
factor_of (suc signs) n ts k = rw append_assoc (factor_of signs (negative n) (token.Sign sign.Minus ∷ ts) (minus_sign ts n k))

-- a term that a factor ends
pub term_of : (product : Product) (n : Number) (ts us : List TokenKind) → SpellsProduct product ts → SpellsFactor us n
    → SpellsTerm (ts ++ us) (multiplied product n)
term_of _ n _ us product_none k = one_factor us n k
term_of _ n _ us (product_of_times ts a l) k = rw append_assoc (times ts us a n l k)
term_of _ n _ us (product_of_over ts a l) k = rw append_assoc (over ts us a n l k)

-- a number that a term ends
pub number_of : (sum : Sum) (n : Number) (ts us : List TokenKind) → SpellsSum sum ts → SpellsTerm us n → SpellsNumber (ts ++ us) (summed sum n)
number_of _ n _ us sum_none k = one_term us n k
number_of _ n _ us (sum_of_plus ts a l) k = rw append_assoc (plus ts us a n l k)
number_of _ n _ us (sum_of_minus ts a l) k = rw append_assoc (minus ts us a n l k)

-- a comparison with its `not`s
pub negation_of : (nots : ℕ) (c : Condition) (ts : List TokenKind) → SpellsNegation ts c → SpellsNegation (nots_of nots ++ ts) (negated_by nots c)
negation_of zero c ts k = k
negation_of (suc nots) c ts k = rw append_assoc (negation_of nots (negation c) (token.Key key.Not ∷ ts) (not_sign ts c k))

-- a conjunction that a negation ends
pub conjunction_of : (ands : Option Condition) (c : Condition) (ts us : List TokenKind) → SpellsAnds ands ts → SpellsNegation us c
    → SpellsConjunction (ts ++ us) (conjoined ands c)
conjunction_of _ c _ us no_and k = one_negation us c k
conjunction_of _ c _ us (some_and ts a l) k = rw append_assoc (and_also ts us a c l k)

-- a condition that a conjunction ends
pub disjunction_of : (ors : Option Condition) (c : Condition) (ts us : List TokenKind) → SpellsOrs ors ts → SpellsConjunction us c
    → SpellsCondition (ts ++ us) (disjoined ors c)
disjunction_of _ c _ us no_or k = one_conjunction us c k
disjunction_of _ c _ us (some_or ts a l) k = rw append_assoc (or_else ts us a c l k)

-- a condition that a comparison ends
pub whole_condition : (logic : Logic) (c : Condition) (ts us : List TokenKind) → SpellsLogic logic ts → SpellsNegation us c
    → SpellsCondition (ts ++ us) (condition_of logic c)
whole_condition _ c _ us (logic_left ors ands nots os bs k l) m =
    let last = conjunction_of ands (negated_by nots c) bs (nots_of nots ++ us) l (negation_of nots c us m) in
    rw append_assoc (rw append_assoc (disjunction_of ors (conjoined ands (negated_by nots c)) os (bs ++ (nots_of nots ++ us)) k last))

-- nothing stands left of the first comparison
pub nothing_left : SpellsLogic no_logic []
nothing_left = logic_left None None 0 [] [] no_or no_and

-- what stands left of a comparison after `and`, `or` and `not`
pub left_and : (logic : Logic) (c : Condition) (ts us : List TokenKind) → SpellsLogic logic ts → SpellsNegation us c
    → SpellsLogic (with_and logic c) (ts ++ (us ++ token.Key key.And ∷ []))
left_and _ c _ us (logic_left ors ands nots os bs k l) m =
    let last = conjunction_of ands (negated_by nots c) bs (nots_of nots ++ us) l (negation_of nots c us m) in
    let e : os ++ (((bs ++ (nots_of nots ++ us)) ++ token.Key key.And ∷ []) ++ []) ≡ (os ++ (bs ++ nots_of nots)) ++ (us ++ token.Key key.And ∷ []) =
    simp (append_assoc, append-nil) in
    rw e at (logic_left ors (Some (conjoined ands (negated_by nots c))) 0 os _ k (some_and _ _ last))

pub left_or : (logic : Logic) (c : Condition) (ts us : List TokenKind) → SpellsLogic logic ts → SpellsNegation us c
    → SpellsLogic (with_or logic c) (ts ++ (us ++ token.Key key.Or ∷ []))
left_or _ c _ us (logic_left ors ands nots os bs k l) m =
    let logic = a_logic ors ands nots in
    let all = whole_condition logic c (os ++ (bs ++ nots_of nots)) us (logic_left ors ands nots os bs k l) m in
    let e : (((os ++ (bs ++ nots_of nots)) ++ us) ++ token.Key key.Or ∷ []) ++ [] ≡ (os ++ (bs ++ nots_of nots)) ++ (us ++ token.Key key.Or ∷ []) =
    simp (append_assoc, append-nil) in
    rw e at (logic_left (Some (condition_of logic c)) None 0 _ [] (some_or _ _ all) no_and)

pub left_not : (logic : Logic) (ts : List TokenKind) → SpellsLogic logic ts → SpellsLogic (with_not logic) (ts ++ token.Key key.Not ∷ [])
left_not _ _ (logic_left ors ands nots os bs k l) =
    let e : os ++ (bs ++ nots_of (suc nots)) ≡ (os ++ (bs ++ nots_of nots)) ++ token.Key key.Not ∷ [] = simp append_assoc in
    rw e at (logic_left ors ands (suc nots) os bs k l)

-- nothing stands left of an atom where a comparison or `not` may begin
pub no_signs : (signs : ℕ) → is_fresh (before no_sum no_product signs) ≡ true → signs_of signs ≡ []
no_signs zero e = refl
no_signs (suc signs) e = absurd (false≢true e)

pub nothing_before : (left : Before) (ts : List TokenKind) → is_fresh left ≡ true → SpellsBefore left ts → ts ≡ []
nothing_before _ _ e (stands_left _ _ signs _ _ sum_none product_none) = no_signs signs e
nothing_before _ _ e _ = absurd (false≢true e)

pub compare_before : (frames : List Frame) (left : Before) (ts : List TokenKind) → may_compare frames left ≡ true → SpellsBefore left ts → ts ≡ []
compare_before (a_condition opening logic ∷ rest) left ts e l = nothing_before left ts e l
compare_before _ left ts e l = absurd (false≢true e)

-- a statement with its number
pub simple_of : (head : Head) (n : Number) (ts us : List TokenKind) → SpellsHead head ts → SpellsNumber us n → SpellsSimple (ts ++ us) (headed head n)
simple_of _ n _ us (head_assigns name k) l = assignment name us n k l
simple_of _ n _ us (head_pays leg k) l = payment leg us n k l

-- the arguments of a choice, with one more
pub arguments_of : (op : Operator) (first n : Number) (ts us : List TokenKind) → SpellsFirst op (Some first) ts → SpellsNumber us n
    → SpellsArguments op (ts ++ us) (binary op first n)
arguments_of _ _ n _ us (one_first op ts a k) l = rw append_assoc (two op ts us a n k l)
arguments_of _ _ n _ us (more_first op ts a k) l = rw append_assoc (one_more_number op ts us a n k l)

-- the same, with its comma
pub first_of_more : (op : Operator) (first : Option Number) (n : Number) (ts us : List TokenKind) → SpellsFirst op first ts → SpellsNumber us n
    → SpellsFirst op (Some (with_argument op first n)) (ts ++ (us ++ token.Sign sign.Comma ∷ []))
first_of_more op None n _ us (no_first _) l = one_first op us n l
first_of_more op (Some first) n ts us k l = rw (← append_assoc) (more_first op (ts ++ us) (binary op first n) (arguments_of op first n ts us k l))

-- a choice with its word and bracket
pub choice_of : (op : Operator) (k : Key) (ts : List TokenKind) (n : Number) → IsChoice op k → SpellsArguments op ts n
    → SpellsAtom (token.Key k ∷ bracketed ts) n
choice_of _ _ ts n is_least l = of_least ts n l
choice_of _ _ ts n is_greatest l = of_greatest ts n l

-- a call without arguments
pub call_of : (number : Number) (k : Key) → IsCall number k → SpellsAtom (token.Key k ∷ bracketed []) number
call_of _ _ is_spot = of_spot
call_of _ _ is_period = of_period
call_of _ _ is_days = of_days
