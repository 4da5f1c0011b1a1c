-- A script that tokens spell is read from them.
use Rattle.std.proofs.Common.{◌≡◌, ℕ, List, [], ◌∷◌, ◌++◌, Some, None, refl, sym, ap, ◌∙◌, append_assoc}
use Rattle.std.specs.Option.{option_map}
use Rattle.pay_dates.specs.declared.day.Day.{Day}
use Rattle.pay_dates.specs.declared.roll.Rule.{Rule}
use Rattle.pay_dates.specs.declared.roll.Rule.TheVariants.{Stay, Following, Preceding, Modified}
use Rattle.pay_dates.specs.declared.roll.Unit.{Unit as StepUnit}
use Rattle.pay_lexer.specs.declared.token.Key.TheVariants as key
use Rattle.pay_lexer.specs.declared.token.Sign.TheVariants as sign
use Rattle.pay_lexer.specs.declared.token.TokenKind.{TokenKind}
use Rattle.pay_lexer.specs.declared.token.TokenKind.TheVariants as token
use Rattle.pay_meaning.specs.Language.{Number, Condition, Statement, assign, pay, choose, Body, done, and_then, Terms, Item, scheduled, Script}
use Rattle.pay_meaning.specs.Words.{is_name, IsName, unit_word}
use Rattle.pay_grammar.specs.Grammar.{SpellsSimple, assignment, payment, SpellsStatement, simple, simple_ended, choice, choice_ended, SpellsChoice}
use Rattle.pay_grammar.specs.Grammar.{without_else, with_else, SpellsBody, no_statement, one_more, SpellsItem, SpellsScript, no_item, one_more_item}
use Rattle.pay_grammar.specs.Grammar.{SpellsNoScript, SpellsCount, rule_tokens, schedule_tokens, rolled}
use Rattle.pay_grammar.specs.Grammar.SpellsItem.{dated as of_date}
use Rattle.pay_grammar.specs.Reading.{Head, assigns, pays, Sum, no_logic, of_if, Owner, of_item, of_schedule, of_yes, of_no, Frame, a_script, a_body}
use Rattle.pay_grammar.specs.Reading.{a_statement, a_condition, from_next, count_next, unit_next, rule_next, free, heading, after_endif, named}
use Rattle.pay_grammar.specs.Reading.{factor_next, after, State, state, start, fresh, summed, headed, dated, terms_of, begun, step_free, step}
use Rattle.pay_grammar.specs.Reading.{finish, closed, read_on, script_in}
use Rattle.pay_grammar.specs.GrammarLaws.{SpelledScriptIsRead, OneScript}
use Rattle.pay_grammar.proofs.ConditionComplete.{passed, read_step, number_read, ReadsCondition, condition_read, then_read}
use Rattle.pay_grammar.proofs.CountLemmas.{count_read, unit_read}

-- the places that may stand after statements: between statements, after the last one's number, or after the last one's `endif`
data Stands : Owner → List Frame → Body → State → Type 0 where
  freely : (owner : Owner) (outer : List Frame) (body : Body) → Stands owner outer body (state (a_body owner body ∷ outer) free)
  after_number : (owner : Owner) (outer : List Frame) (body : Body) (head : Head) (sum : Sum) (term : Number) (last : Statement)
      → headed head (summed sum term) ≡ last → Stands owner outer (and_then body last) (state (a_statement head ∷ a_body owner body ∷ outer) (after sum term))
  after_choice : (owner : Owner) (outer : List Frame) (body : Body) → Stands owner outer body (state (a_body owner body ∷ outer) after_endif)

-- a token that may follow them leads on as it does between statements, and so does the end
stands_word : (owner : Owner) (outer : List Frame) (body : Body) (place : State) (name : List ℕ) → Stands owner outer body place
    → step place (token.Word name) ≡ step_free (a_body owner body ∷ outer) (token.Word name)
stands_word _ _ _ _ name (freely owner outer body) = refl
stands_word _ _ _ _ name (after_number owner outer body head sum term last e) =
    ap (λ x. step_free (a_body owner (and_then body x) ∷ outer) (token.Word name)) e
stands_word _ _ _ _ name (after_choice owner outer body) = refl

stands_date : (owner : Owner) (outer : List Frame) (body : Body) (place : State) (following : Day) → Stands owner outer body place
    → step place (token.Date following) ≡ step_free (a_body owner body ∷ outer) (token.Date following)
stands_date _ _ _ _ following (freely owner outer body) = refl
stands_date _ _ _ _ following (after_number owner outer body head sum term last e) =
    ap (λ x. step_free (a_body owner (and_then body x) ∷ outer) (token.Date following)) e
stands_date _ _ _ _ following (after_choice owner outer body) = refl

stands_if : (owner : Owner) (outer : List Frame) (body : Body) (place : State) → Stands owner outer body place
    → step place (token.Key key.If) ≡ step_free (a_body owner body ∷ outer) (token.Key key.If)
stands_if _ _ _ _ (freely owner outer body) = refl
stands_if _ _ _ _ (after_number owner outer body head sum term last e) =
    ap (λ x. step_free (a_body owner (and_then body x) ∷ outer) (token.Key key.If)) e
stands_if _ _ _ _ (after_choice owner outer body) = refl

stands_else : (owner : Owner) (outer : List Frame) (body : Body) (place : State) → Stands owner outer body place
    → step place (token.Key key.Else) ≡ step_free (a_body owner body ∷ outer) (token.Key key.Else)
stands_else _ _ _ _ (freely owner outer body) = refl
stands_else _ _ _ _ (after_number owner outer body head sum term last e) =
    ap (λ x. step_free (a_body owner (and_then body x) ∷ outer) (token.Key key.Else)) e
stands_else _ _ _ _ (after_choice owner outer body) = refl

stands_endif : (owner : Owner) (outer : List Frame) (body : Body) (place : State) → Stands owner outer body place
    → step place (token.Key key.Endif) ≡ step_free (a_body owner body ∷ outer) (token.Key key.Endif)
stands_endif _ _ _ _ (freely owner outer body) = refl
stands_endif _ _ _ _ (after_number owner outer body head sum term last e) =
    ap (λ x. step_free (a_body owner (and_then body x) ∷ outer) (token.Key key.Endif)) e
stands_endif _ _ _ _ (after_choice owner outer body) = refl

stands_schedule : (owner : Owner) (outer : List Frame) (body : Body) (place : State) → Stands owner outer body place
    → step place (token.Key key.Schedule) ≡ step_free (a_body owner body ∷ outer) (token.Key key.Schedule)
stands_schedule _ _ _ _ (freely owner outer body) = refl
stands_schedule _ _ _ _ (after_number owner outer body head sum term last e) =
    ap (λ x. step_free (a_body owner (and_then body x) ∷ outer) (token.Key key.Schedule)) e
stands_schedule _ _ _ _ (after_choice owner outer body) = refl

stands_end : (owner : Owner) (outer : List Frame) (body : Body) (place : State) → Stands owner outer body place
    → step place (token.Key key.End) ≡ step_free (a_body owner body ∷ outer) (token.Key key.End)
stands_end _ _ _ _ (freely owner outer body) = refl
stands_end _ _ _ _ (after_number owner outer body head sum term last e) =
    ap (λ x. step_free (a_body owner (and_then body x) ∷ outer) (token.Key key.End)) e
stands_end _ _ _ _ (after_choice owner outer body) = refl

stands_last : (owner : Owner) (outer : List Frame) (body : Body) (place : State) → Stands owner outer body place
    → finish place ≡ closed (a_body owner body ∷ outer)
stands_last _ _ _ _ (freely owner outer body) = refl
stands_last _ _ _ _ (after_number owner outer body head sum term last e) = ap (λ x. closed (a_body owner (and_then body x) ∷ outer)) e
stands_last _ _ _ _ (after_choice owner outer body) = refl

-- what stands after tokens that spell a statement with a number, without its `;`
record ReadsSimple (ts : List TokenKind) (last : Statement) : Type 0 where
  head : Head
  sum : Sum
  term : Number
  is : headed head (summed sum term) ≡ last
  reads : (owner : Owner) (outer : List Frame) (body : Body) (place : State) (rest : List TokenKind) → Stands owner outer body place
      → read_on place (ts ++ rest) ≡ read_on (state (a_statement head ∷ a_body owner body ∷ outer) (after sum term)) rest

stands_named : (owner : Owner) (outer : List Frame) (body : Body) (place : State) (name : List ℕ) (rest : List TokenKind) → IsName name
    → Stands owner outer body place → read_on place (token.Word name ∷ rest) ≡ read_on (state (a_body owner body ∷ outer) (named name)) rest
stands_named owner outer body place name rest k stands =
    let to = state (a_body owner body ∷ outer) (named name) in
    read_step place (token.Word name) to rest (stands_word owner outer body place name stands ∙ passed (is_name name) to k)

simple_read : (ts : List TokenKind) (s : Statement) → SpellsSimple ts s → ReadsSimple ts s
simple_read _ _ (assignment name ts n k m) =
    let r = number_read ts n m in
    record {
      head = assigns name;
      sum = r.sum;
      term = r.last;
      is = ap (assign name) r.is;
      reads = λ owner outer body place rest stands. stands_named owner outer body place name (token.Sign sign.Equals ∷ ts ++ rest) k stands
          ∙ r.reads (a_statement (assigns name) ∷ a_body owner body ∷ outer) rest;
    }
simple_read _ _ (payment leg ts n k m) =
    let r = number_read ts n m in
    record {
      head = pays leg;
      sum = r.sum;
      term = r.last;
      is = ap (pay leg) r.is;
      reads = λ owner outer body place rest stands. stands_named owner outer body place leg (token.Key key.Pays ∷ ts ++ rest) k stands
          ∙ r.reads (a_statement (pays leg) ∷ a_body owner body ∷ outer) rest;
    }

-- tokens that lead from one place to one that may stand after these statements
record Leads (from : State) (ts : List TokenKind) (owner : Owner) (outer : List Frame) (body : Body) : Type 0 where
  to : State
  stands : Stands owner outer body to
  reads : (rest : List TokenKind) → read_on from (ts ++ rest) ≡ read_on to rest

-- one after another
leads_on : (from : State) (ts us : List TokenKind) (owner : Owner) (outer : List Frame) (body longer : Body) → (k : Leads from ts owner outer body)
    → Leads k.to us owner outer longer → Leads from (ts ++ us) owner outer longer
leads_on from ts us owner outer body longer k m =
    record { to = m.to; stands = m.stands; reads = λ rest. rw append_assoc (k.reads (us ++ rest) ∙ m.reads rest) }

-- and then the token that ends these statements
leads_past : (from : State) (ts : List TokenKind) (owner : Owner) (outer : List Frame) (body : Body) → (k : Leads from ts owner outer body)
    → (t : TokenKind) (us rest : List TokenKind) (to : State) → step k.to t ≡ Some to → read_on from ((ts ++ t ∷ us) ++ rest) ≡ read_on to (us ++ rest)
leads_past from ts owner outer body k t us rest to e = rw append_assoc (k.reads (t ∷ us ++ rest) ∙ read_step k.to t to (us ++ rest) e)

-- `if`, a condition and `then` lead to the first branch
if_read : (ts : List TokenKind) (c : Condition) → ReadsCondition ts c → (owner : Owner) (outer : List Frame) (body : Body) (place : State)
    → Stands owner outer body place → (us rest : List TokenKind)
    → read_on place (token.Key key.If ∷ ((ts ++ token.Key key.Then ∷ us) ++ rest))
    ≡ read_on (state (a_body (of_yes c) done ∷ a_body owner body ∷ outer) free) (us ++ rest)
if_read ts c r owner outer body place stands us rest =
    let frames = a_body owner body ∷ outer in
    let to = state (a_condition of_if no_logic ∷ frames) (factor_next fresh) in
    read_step place (token.Key key.If) to ((ts ++ token.Key key.Then ∷ us) ++ rest) (stands_if owner outer body place stands)
    ∙ then_read ts c r frames us rest

mutual
  statement_read : (us : List TokenKind) (s : Statement) → SpellsStatement us s → (owner : Owner) (outer : List Frame) (body : Body) (place : State)
      → Stands owner outer body place → Leads place us owner outer (and_then body s)
  statement_read _ _ (simple us s k) owner outer body place stands =
      let r = simple_read us s k in
      record {
        to = state (a_statement r.head ∷ a_body owner body ∷ outer) (after r.sum r.term);
        stands = after_number owner outer body r.head r.sum r.term s r.is;
        reads = λ rest. r.reads owner outer body place rest stands;
      }
  statement_read _ _ (simple_ended us s k) owner outer body place stands =
      let r = simple_read us s k in
      record {
        to = state (a_body owner (and_then body s) ∷ outer) free;
        stands = freely owner outer (and_then body s);
        reads = λ rest. rw append_assoc (r.reads owner outer body place (token.Sign sign.Semicolon ∷ rest) stands
            ∙ ap (λ x. read_on (state (a_body owner (and_then body x) ∷ outer) free) rest) r.is);
      }
  statement_read _ _ (choice us s k) owner outer body place stands =
      record {
        to = state (a_body owner (and_then body s) ∷ outer) after_endif;
        stands = after_choice owner outer (and_then body s);
        reads = λ rest. choice_read us s k owner outer body place stands rest;
      }
  statement_read _ _ (choice_ended us s k) owner outer body place stands =
      record {
        to = state (a_body owner (and_then body s) ∷ outer) free;
        stands = freely owner outer (and_then body s);
        reads = λ rest. rw append_assoc (choice_read us s k owner outer body place stands (token.Sign sign.Semicolon ∷ rest));
      }

  -- tokens that spell an `if` lead to the place after its `endif`
  choice_read : (us : List TokenKind) (s : Statement) → SpellsChoice us s → (owner : Owner) (outer : List Frame) (body : Body) (place : State)
      → Stands owner outer body place → (rest : List TokenKind)
      → read_on place (us ++ rest) ≡ read_on (state (a_body owner (and_then body s) ∷ outer) after_endif) rest
  choice_read _ _ (without_else ts us c a k m) owner outer body place stands rest =
      let frames = a_body owner body ∷ outer in
      let yes = body_read us a m (of_yes c) frames in
      let begin = state (a_body (of_yes c) done ∷ frames) free in
      let end = state (a_body owner (and_then body (choose c a done)) ∷ outer) after_endif in
      if_read ts c (condition_read ts c k) owner outer body place stands (us ++ token.Key key.Endif ∷ []) rest
      ∙ leads_past begin us (of_yes c) frames a yes (token.Key key.Endif) [] rest end
      (stands_endif (of_yes c) frames a yes.to yes.stands)
  choice_read _ _ (with_else ts us vs c a b k m l) owner outer body place stands rest =
      let frames = a_body owner body ∷ outer in
      let yes = body_read us a m (of_yes c) frames in
      let begin = state (a_body (of_yes c) done ∷ frames) free in
      let no = body_read vs b l (of_no c a) frames in
      let middle = state (a_body (of_no c a) done ∷ frames) free in
      let end = state (a_body owner (and_then body (choose c a b)) ∷ outer) after_endif in
      if_read ts c (condition_read ts c k) owner outer body place stands (us ++ token.Key key.Else ∷ (vs ++ token.Key key.Endif ∷ [])) rest
      ∙ leads_past begin us (of_yes c) frames a yes (token.Key key.Else) (vs ++ token.Key key.Endif ∷ []) rest middle
      (stands_else (of_yes c) frames a yes.to yes.stands)
      ∙ leads_past middle vs (of_no c a) frames b no (token.Key key.Endif) [] rest end (stands_endif (of_no c a) frames b no.to no.stands)

  body_read : (ts : List TokenKind) (b : Body) → SpellsBody ts b → (owner : Owner) (outer : List Frame)
      → Leads (state (a_body owner done ∷ outer) free) ts owner outer b
  body_read _ _ no_statement owner outer = record { to = state (a_body owner done ∷ outer) free; stands = freely owner outer done; reads = λ rest. refl }
  body_read _ _ (one_more ts us b s k m) owner outer =
      let r = body_read ts b k owner outer in
      leads_on (state (a_body owner done ∷ outer) free) ts us owner outer b (and_then b s) r (statement_read us s m owner outer b r.to r.stands)

-- a rule and `do`, or `do` alone, lead to the first statement of a schedule
rule_read : (first last : Day) (every : ℕ) (unit : StepUnit) (rule : Rule) (frames : List Frame) (us rest : List TokenKind)
    → read_on (state frames (heading (rule_next first last every unit))) (((rule_tokens rule ++ token.Key key.Do ∷ []) ++ us) ++ rest)
    ≡ read_on (begun frames (terms_of first last every unit rule)) (us ++ rest)
rule_read first last every unit Stay frames us rest = refl
rule_read first last every unit Following frames us rest = refl
rule_read first last every unit Preceding frames us rest = refl
rule_read first last every unit Modified frames us rest = refl

-- the terms of a schedule lead to its first statement
terms_read : (terms : Terms) (digits : List ℕ) → SpellsCount digits terms.every → (place : State) (frames : List Frame) (us rest : List TokenKind)
    → step place (token.Key key.Schedule) ≡ Some (state frames (heading from_next))
    → read_on place ((schedule_tokens terms digits ++ us) ++ rest) ≡ read_on (begun frames terms) (us ++ rest)
terms_read terms digits k place frames us rest e =
    let words = rule_tokens terms.rule ++ token.Key key.Do ∷ [] in
    let dates = token.Date terms.first ∷ token.Key key.To ∷ token.Date terms.last ∷ token.Key key.Every ∷ [] in
    let unit = token.Word (unit_word terms.unit) in
    let counts = state frames (heading (count_next terms.first terms.last)) in
    let units = state frames (heading (unit_next terms.first terms.last terms.every)) in
    let rules = state frames (heading (rule_next terms.first terms.last terms.every terms.unit)) in
    let later = (words ++ us) ++ rest in
    read_step place (token.Key key.Schedule) (state frames (heading from_next)) (token.Key key.From ∷ (dates ++ token.Number digits ∷ unit ∷ later)) e
    ∙ read_step counts (token.Number digits) units (unit ∷ later)
    (ap (option_map (λ every. state frames (heading (unit_next terms.first terms.last every)))) (count_read digits terms.every k))
    ∙ read_step units unit rules later
    (ap (option_map (λ x. state frames (heading (rule_next terms.first terms.last terms.every x)))) (unit_read terms.unit))
    ∙ rule_read terms.first terms.last terms.every terms.unit terms.rule frames us rest

-- what stands after tokens that spell items: a place from which a date or `schedule` begins one more item, and the script may end
record ReadsScript (ts : List TokenKind) (items : Script) : Type 0 where
  to : State
  dates : (date : Day) → step to (token.Date date) ≡ Some (dated date items)
  schedules : step to (token.Key key.Schedule) ≡ Some (state (a_script items ∷ []) (heading from_next))
  ends : finish to ≡ Some items
  reads : (rest : List TokenKind) → read_on start (ts ++ rest) ≡ read_on to rest

-- tokens that lead to the place where no item is open, as after the `end` of a schedule
between_read : (ts : List TokenKind) (items : Script)
    → ((rest : List TokenKind) → read_on start (ts ++ rest) ≡ read_on (state (a_script items ∷ []) free) rest) → ReadsScript ts items
between_read ts items reads =
    record { to = state (a_script items ∷ []) free; dates = λ date. refl; schedules = refl; ends = refl; reads = reads }

item_read : (ts us : List TokenKind) (items : Script) (i : Item) → ReadsScript ts items → SpellsItem us i → ReadsScript (ts ++ us) (items ++ i ∷ [])
item_read ts _ items _ r (of_date date us b k) =
    let m = body_read us b k (of_item date) (a_script items ∷ []) in
    record {
      to = m.to;
      dates = λ following. stands_date (of_item date) (a_script items ∷ []) b m.to following m.stands;
      schedules = stands_schedule (of_item date) (a_script items ∷ []) b m.to m.stands;
      ends = stands_last (of_item date) (a_script items ∷ []) b m.to m.stands;
      reads =
          λ rest. rw append_assoc (r.reads (token.Date date ∷ us ++ rest)
          ∙ read_step r.to (token.Date date) (dated date items) (us ++ rest) (r.dates date)
          ∙ m.reads rest);
    }
item_read ts _ items _ r (rolled terms digits us b c k) =
    let outer = a_script items ∷ [] in
    let m = body_read us b k (of_schedule terms) outer in
    let ended = us ++ token.Key key.End ∷ [] in
    let to = state (a_script (items ++ scheduled terms b ∷ []) ∷ []) free in
    between_read (ts ++ (schedule_tokens terms digits ++ ended)) (items ++ scheduled terms b ∷ [])
    (λ rest. ap (read_on start) (append_assoc ts (schedule_tokens terms digits ++ ended) rest)
    ∙ r.reads ((schedule_tokens terms digits ++ ended) ++ rest)
    ∙ terms_read terms digits c r.to outer ended rest r.schedules
    ∙ leads_past (begun outer terms) us (of_schedule terms) outer b m (token.Key key.End) [] rest to
    (stands_end (of_schedule terms) outer b m.to m.stands))

items_read : (ts : List TokenKind) (items : Script) → SpellsScript ts items → ReadsScript ts items
items_read _ _ no_item = between_read [] [] (λ rest. refl)
items_read _ _ (one_more_item ts us items i k m) = item_read ts us items i (items_read ts items k) m

append_nil : (ts : List TokenKind) → ts ++ [] ≡ ts
append_nil [] = refl
append_nil (t ∷ ts) = ap (λ x. t ∷ x) (append_nil ts)

-- a script that the tokens spell is read from them
pub spelled_script_is_read : SpelledScriptIsRead
unfolding script_in
spelled_script_is_read ts s k =
    let r = items_read ts s k in
    ap (read_on start) (sym (append_nil ts)) ∙ r.reads [] ∙ r.ends

-- no tokens spell two scripts
pub one_script : OneScript
one_script ts a b k m = let e = spelled_script_is_read ts a k in let f = spelled_script_is_read ts b m in cc

-- tokens from which no script is read spell none
pub spells_none : (ts : List TokenKind) → script_in ts ≡ None → SpellsNoScript ts
spells_none ts e s k = let f = spelled_script_is_read ts s k in cc
