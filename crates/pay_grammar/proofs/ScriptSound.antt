-- The script that is read from tokens is spelled by them.
use Rattle.std.proofs.Common.{◌≡◌, ℕ, zero, suc, ℤ, Bool, true, false, IsTrue, List, [], ◌∷◌, ◌++◌, Option, Some, None, Result, Ok, Err}
use Rattle.std.proofs.Common.{if◌then◌else◌, refl, append_assoc, append-nil}
use Rattle.std.specs.Option.{IfSome, option_map, option_and_then}
use Rattle.pay_dates.specs.declared.day.Day.{Day}
use Rattle.pay_dates.specs.declared.roll.Rule.TheVariants as rules
use Rattle.pay_dates.specs.declared.roll.Unit.{Unit as StepUnit}
use Rattle.pay_fixed.specs.declared.NumberFault.{NumberFault}
use Rattle.pay_fixed.specs.Decimal.{decimal_in}
use Rattle.pay_fixed.proofs.AsSpelled.{raw-spelled}
use Rattle.pay_lexer.specs.declared.token.Key.{Key}
use Rattle.pay_lexer.specs.declared.token.Key.TheVariants as key
use Rattle.pay_lexer.specs.declared.token.Sign.TheVariants as sign
use Rattle.pay_lexer.specs.declared.token.TokenKind.{TokenKind}
use Rattle.pay_lexer.specs.declared.token.TokenKind.TheVariants as token
use Rattle.pay_meaning.specs.Language.{least, greatest, Number, literal, variable, spot, period, days, absolute, binary, Comparison, less, at_most}
use Rattle.pay_meaning.specs.Language.{greater, at_least, equals, differs, bare, Condition, compare, Statement, Body, done, and_then, Terms, plain}
use Rattle.pay_meaning.specs.Language.{scheduled, Script}
use Rattle.pay_meaning.specs.Words.{is_name, IsName, unit_word}
use Rattle.pay_grammar.specs.Grammar.{SpellsNumber, SpellsTerm, one_atom, SpellsAtom, of_literal, of_variable, in_brackets, of_absolute, sign_of}
use Rattle.pay_grammar.specs.Grammar.{SpellsNegation, two_numbers, condition_in_brackets, SpellsSimple, SpellsStatement, simple, simple_ended, choice}
use Rattle.pay_grammar.specs.Grammar.{choice_ended, SpellsChoice, without_else, with_else, SpellsBody, no_statement, one_more, SpellsCount, rolled}
use Rattle.pay_grammar.specs.Grammar.{SpellsScript, no_item, one_more_item}
use Rattle.pay_grammar.specs.Grammar.SpellsItem.{dated as of_date}
use Rattle.pay_grammar.specs.Reading.{assigns, pays, Sum, no_sum, no_product, Before, Logic, a_logic, Opening, of_if, of_bracket, Owner, of_item}
use Rattle.pay_grammar.specs.Reading.{of_schedule, of_no, Frame, a_script, a_body, a_statement, a_condition, a_comparison, a_bracket, Heading}
use Rattle.pay_grammar.specs.Reading.{from_next, count_next, unit_next, rule_next, Mode, free, heading, named, factor_next, State, state, start, fresh}
use Rattle.pay_grammar.specs.Reading.{summed, signed_by, arrived, headed, no_logic, condition_of, with_and, with_or, with_not, with_statement, ended}
use Rattle.pay_grammar.specs.Reading.{closed, dated, step_schedule, step_end, count_in, unit_in, terms_of, begun, step_heading, step_word, step_if}
use Rattle.pay_grammar.specs.Reading.{step_else, step_endif, step_free, step_after_endif, step_named, step_literal, with_sign, is_fresh, may_compare}
use Rattle.pay_grammar.specs.Reading.{step_open, step_not, step_factor, step_bracket, step_call_named, step_call_opened, step_group, step_then}
use Rattle.pay_grammar.specs.Reading.{step_and, step_or, step_condition, step_compared, step_comparison, step_number_group, step_close, step_comma}
use Rattle.pay_grammar.specs.Reading.{step_semicolon, step_ended, step_after, step_in, step, finish_in, finish, read_on, script_in}
use Rattle.pay_grammar.specs.GrammarLaws.{ScriptIsSpelled}
use Rattle.pay_grammar.proofs.PlaceSpelled.{SpellsSum, sum_none, sum_of_plus, sum_of_minus, product_none, product_of_times, product_of_over, signs_of}
use Rattle.pay_grammar.proofs.PlaceSpelled.{SpellsBefore, stands_left, no_or, no_and, nots_of, SpellsLogic, logic_left, opening_of, SpellsOwner}
use Rattle.pay_grammar.proofs.PlaceSpelled.{owner_item, owner_schedule, owner_yes, owner_no, head_assigns, head_pays, is_least, is_greatest, no_first}
use Rattle.pay_grammar.proofs.PlaceSpelled.{SpellsWord, word_absolute, word_choice, SpellsFrame, frame_script, frame_body, frame_statement}
use Rattle.pay_grammar.proofs.PlaceSpelled.{frame_condition, frame_comparison, frame_bracket, frame_absolute, frame_choice, SpellsFrames, none_open}
use Rattle.pay_grammar.proofs.PlaceSpelled.{one_inside, IsCall, is_spot, is_period, is_days, to_tokens, every_tokens, SpellsHeading, read_schedule}
use Rattle.pay_grammar.proofs.PlaceSpelled.{read_from, read_first, read_to, read_last, read_every, read_count, read_unit, read_rule, SpellsMode}
use Rattle.pay_grammar.proofs.PlaceSpelled.{at_free, at_heading, at_name, at_atom, at_factor, at_condition, at_word, at_call, at_bracket, Past, past}
use Rattle.pay_grammar.proofs.PlaceSpelled.{past_choice, past_is, past_choice_is, past_inside, past_term, past_fresh, factor_of, term_of, number_of}
use Rattle.pay_grammar.proofs.PlaceSpelled.{whole_condition, nothing_left, left_and, left_or, left_not, nothing_before, compare_before, simple_of}
use Rattle.pay_grammar.proofs.PlaceSpelled.{arguments_of, first_of_more, choice_of, call_of}
use Rattle.pay_grammar.proofs.ScheduleLemmas.{count_spelled, unit_spelled}

-- what holds of an option's value holds of what is made from it
some_map : {A B : Type 0} (P : A → Type 0) (Q : B → Type 0) (f : A → B) (o : Option A) → IfSome o P → ((x : A) → P x → Q (f x)) → IfSome (option_map f o) Q
some_map P Q f None k go = tt
some_map P Q f (Some x) k go = go x k

some_then : {A B : Type 0} (P : A → Type 0) (Q : B → Type 0) (f : A → Option B) (o : Option A) → IfSome o P → ((x : A) → P x → IfSome (f x) Q)
    → IfSome (option_and_then f o) Q
some_then P Q f None k go = tt
some_then P Q f (Some x) k go = go x k

-- what holds of each value that an option may have holds of its value
some_of : {A : Type 0} (P : A → Type 0) (o : Option A) → ((x : A) → o ≡ Some x → P x) → IfSome o P
some_of P None go = tt
some_of P (Some x) go = go x refl

-- one more statement among those that are open
more_spelled : (frames : List Frame) (s : Statement) (ts us : List TokenKind) → SpellsFrames frames ts → SpellsStatement us s
    → IfSome (with_statement frames s) (λ longer. SpellsFrames longer (ts ++ us))
more_spelled _ s _ us (one_inside _ frames ts _ (frame_body owner body os bs o l) k) m =
    let longer = frame_body owner (and_then body s) os (bs ++ us) o (one_more bs us body s l m) in
    let e : ts ++ (os ++ (bs ++ us)) ≡ (ts ++ (os ++ bs)) ++ us = simp append_assoc in
    rw e at (one_inside (a_body owner (and_then body s)) frames ts (os ++ (bs ++ us)) longer k)
more_spelled _ s _ us _ m = tt

-- a statement that a number ends, with these tokens after it
ended_spelled : (after_it : List TokenKind) → ((ts : List TokenKind) (s : Statement) → SpellsSimple ts s → SpellsStatement (ts ++ after_it) s)
    → (frames : List Frame) (n : Number) (ts us : List TokenKind) → SpellsFrames frames ts → SpellsNumber us n
    → IfSome (ended frames n) (λ rest. SpellsFrames rest (ts ++ (us ++ after_it)))
ended_spelled after_it whole _ n _ us (one_inside _ frames ts _ (frame_statement head hs l) k) m =
    let statement = whole (hs ++ us) (headed head n) (simple_of head n hs us l m) in
    rw append_assoc (rw append_assoc at (more_spelled frames (headed head n) ts ((hs ++ us) ++ after_it) k statement))
ended_spelled after_it whole _ n _ us _ m = tt

ended_bare : (frames : List Frame) (n : Number) (ts us : List TokenKind) → SpellsFrames frames ts → SpellsNumber us n
    → IfSome (ended frames n) (λ rest. SpellsFrames rest (ts ++ us))
ended_bare frames n ts us k l = rw append-nil at (ended_spelled [] (λ vs s m. rw append-nil (simple vs s m)) frames n ts us k l)

-- the script that may end between statements
closed_spelled : (frames : List Frame) (ts : List TokenKind) → SpellsFrames frames ts → IfSome (closed frames) (λ s. SpellsScript ts s)
closed_spelled _ _ (one_inside _ _ _ _ (frame_script items ts k) none_open) = k
closed_spelled _ _ (one_inside _ _ _ _ (frame_body _ body _ us (owner_item date) l) (one_inside _ _ _ _ (frame_script items ts k) none_open)) =
    one_more_item ts (token.Date date ∷ us) items (plain date body) k (of_date date us body l)
closed_spelled _ _ _ = tt

-- after the date of a new item
past_date : (items : Script) (date : Day) (ts : List TokenKind) → SpellsScript ts items → Past (dated date items) (ts ++ token.Date date ∷ [])
past_date items date ts k =
    let before_it = one_inside (a_script items) [] [] ts (frame_script items ts k) none_open in
    past_inside (a_body (of_item date) done) (a_script items ∷ []) free ts (token.Date date ∷ []) [] _ before_it
    (frame_body (of_item date) done (token.Date date ∷ []) [] (owner_item date) no_statement) at_free (append-nil _)

-- after `schedule`
past_schedule : (frames : List Frame) (ts : List TokenKind) → SpellsFrames frames ts
    → IfSome (step_schedule frames) (λ place. Past place (ts ++ token.Key key.Schedule ∷ []))
past_schedule frames ts k =
    some_map (λ s. SpellsScript ts s) (λ place. Past place (ts ++ token.Key key.Schedule ∷ [])) (λ items. state (a_script items ∷ []) (heading from_next))
    (closed frames) (closed_spelled frames ts k)
    (λ items l. past (a_script items ∷ []) (heading from_next) ts _ (one_inside (a_script items) [] [] ts (frame_script items ts l) none_open)
    (at_heading from_next _ read_schedule))

-- after `end`, which ends a schedule
past_rolled : (frames : List Frame) (ts : List TokenKind) → SpellsFrames frames ts
    → IfSome (step_end frames) (λ place. Past place (ts ++ token.Key key.End ∷ []))
past_rolled _ _ (one_inside _ _ _ _ (frame_body _ body _ us (owner_schedule terms digits c) l) (one_inside _ _ _ _ (frame_script items ts k) none_open)) =
    let whole = one_more_item ts _ items (scheduled terms body) k (rolled terms digits us body c l) in
    let longer = items ++ scheduled terms body ∷ [] in
    past_is (a_script longer ∷ []) free _ [] _ (one_inside (a_script longer) [] [] _ (frame_script longer _ whole) none_open) at_free
    (simp (append_assoc, append-nil))
past_rolled _ _ _ = tt

-- after one more word, date or count in the terms of a schedule
past_terms : (frames : List Frame) (awaited : Heading) (ts us vs : List TokenKind) (t : TokenKind) → SpellsFrames frames ts → SpellsHeading awaited vs
    → vs ≡ us ++ t ∷ [] → Past (state frames (heading awaited)) ((ts ++ us) ++ t ∷ [])
past_terms frames awaited ts us vs t k l e =
    past_is frames (heading awaited) ts vs _ k (at_heading awaited vs l) (rw e (simp append_assoc))

-- after the count
past_count : (frames : List Frame) (first last : Day) (ts : List TokenKind) (digits : List ℕ) → SpellsFrames frames ts
    → IfSome (step_heading frames (count_next first last) (token.Number digits))
    (λ place. Past place ((ts ++ to_tokens first last (token.Key key.Every ∷ [])) ++ token.Number digits ∷ []))
past_count frames first last ts digits k =
    some_map (λ every. SpellsCount digits every) (λ place. Past place ((ts ++ to_tokens first last (token.Key key.Every ∷ [])) ++ token.Number digits ∷ []))
    (λ every. state frames (heading (unit_next first last every))) (count_in digits)
    (some_of (λ every. SpellsCount digits every) (count_in digits) (count_spelled digits))
    (λ every c. past_terms frames _ ts _ _ _ k (read_count first last digits every c) refl)

-- after the unit
past_unit : (frames : List Frame) (first last : Day) (digits : List ℕ) (every : ℕ) (ts : List TokenKind) (letters : List ℕ) → SpellsFrames frames ts
    → SpellsCount digits every → IfSome (step_heading frames (unit_next first last every) (token.Word letters))
    (λ place. Past place ((ts ++ every_tokens first last digits []) ++ token.Word letters ∷ []))
past_unit frames first last digits every ts letters k c =
    some_map (λ unit. letters ≡ unit_word unit) (λ place. Past place ((ts ++ every_tokens first last digits []) ++ token.Word letters ∷ []))
    (λ unit. state frames (heading (rule_next first last every unit))) (unit_in letters)
    (some_of (λ unit. letters ≡ unit_word unit) (unit_in letters) (unit_spelled letters))
    (λ unit e. rw e (past_terms frames _ ts _ _ _ k (read_unit first last digits every unit c) refl))

-- after `do`
past_begun : (frames : List Frame) (terms : Terms) (ts us vs : List TokenKind) → SpellsFrames frames ts → SpellsOwner (of_schedule terms) vs
    → vs ≡ us ++ token.Key key.Do ∷ [] → Past (begun frames terms) ((ts ++ us) ++ token.Key key.Do ∷ [])
past_begun frames terms ts us vs k o e =
    past_inside (a_body (of_schedule terms) done) frames free ts _ [] _ k (frame_body (of_schedule terms) done vs [] o no_statement) at_free
    (rw e (simp (append_assoc, append-nil)))

-- after a rule, or `do` in its place
past_rule : (frames : List Frame) (first last : Day) (digits : List ℕ) (every : ℕ) (unit : StepUnit) (ts : List TokenKind) (t : TokenKind)
    → SpellsFrames frames ts → SpellsCount digits every → IfSome (step_heading frames (rule_next first last every unit) t)
    (λ place. Past place ((ts ++ every_tokens first last digits (token.Word (unit_word unit) ∷ [])) ++ t ∷ []))
past_rule frames first last digits every unit ts (token.Key key.Following) k c =
    past_terms frames _ ts _ _ _ k (read_rule (terms_of first last every unit rules.Following) digits c) refl
past_rule frames first last digits every unit ts (token.Key key.Preceding) k c =
    past_terms frames _ ts _ _ _ k (read_rule (terms_of first last every unit rules.Preceding) digits c) refl
past_rule frames first last digits every unit ts (token.Key key.Modified) k c =
    past_terms frames _ ts _ _ _ k (read_rule (terms_of first last every unit rules.Modified) digits c) refl
past_rule frames first last digits every unit ts (token.Key key.Do) k c =
    let terms = terms_of first last every unit rules.Stay in
    past_begun frames terms ts _ _ k (owner_schedule terms digits c) refl
past_rule frames first last digits every unit ts _ k c = tt

-- in the terms of a schedule
past_heading : (frames : List Frame) (awaited : Heading) (ts us : List TokenKind) (t : TokenKind) → SpellsFrames frames ts → SpellsHeading awaited us
    → IfSome (step_heading frames awaited t) (λ place. Past place ((ts ++ us) ++ t ∷ []))
past_heading frames _ ts _ (token.Key key.From) k read_schedule = past_terms frames _ ts _ _ _ k read_from refl
past_heading frames _ ts _ (token.Date first) k read_from = past_terms frames _ ts _ _ _ k (read_first first) refl
past_heading frames _ ts _ (token.Key key.To) k (read_first first) = past_terms frames _ ts _ _ _ k (read_to first) refl
past_heading frames _ ts _ (token.Date last) k (read_to first) = past_terms frames _ ts _ _ _ k (read_last first last) refl
past_heading frames _ ts _ (token.Key key.Every) k (read_last first last) = past_terms frames _ ts _ _ _ k (read_every first last) refl
past_heading frames _ ts _ (token.Number digits) k (read_every first last) = past_count frames first last ts digits k
past_heading frames _ ts _ (token.Word letters) k (read_count first last digits every c) = past_unit frames first last digits every ts letters k c
past_heading frames _ ts _ t k (read_unit first last digits every unit c) = past_rule frames first last digits every unit ts t k c
past_heading frames _ ts _ (token.Key key.Do) k (read_rule terms digits c) =
    past_begun frames terms ts _ _ k (owner_schedule terms digits c) refl
past_heading frames _ ts _ _ k _ = tt

-- a test that leads on, where it holds
past_chosen : (test : Bool) (to : State) (front : List TokenKind) → (IsTrue test → Past to front)
    → IfSome (if test then Some to else None) (λ place. Past place front)
past_chosen true to front k = k refl
past_chosen false to front k = tt

past_word : (frames : List Frame) (ts : List TokenKind) (letters : List ℕ) → SpellsFrames frames ts
    → IfSome (step_word frames letters) (λ place. Past place (ts ++ token.Word letters ∷ []))
past_word _ _ letters (one_inside _ frames ts _ (frame_body owner body os us o l) k) =
    past_chosen (is_name letters) (state (a_body owner body ∷ frames) (named letters)) _
    (λ h. past_inside (a_body owner body) frames (named letters) ts (os ++ us) (token.Word letters ∷ []) _ k
    (frame_body owner body os us o l) (at_name letters h) refl)
past_word _ _ letters _ = tt

-- after `if`
past_if : (frames : List Frame) (ts : List TokenKind) → SpellsFrames frames ts → IfSome (step_if frames) (λ place. Past place (ts ++ token.Key key.If ∷ []))
past_if _ _ (one_inside _ frames ts _ (frame_body owner body os us o l) k) =
    let inside = one_inside (a_body owner body) frames ts (os ++ us) (frame_body owner body os us o l) k in
    past_fresh (a_condition of_if no_logic) (a_body owner body ∷ frames) (ts ++ (os ++ us)) _ _ inside (frame_condition of_if no_logic [] nothing_left) refl
past_if _ _ _ = tt

-- after `else`
past_else : (frames : List Frame) (ts : List TokenKind) → SpellsFrames frames ts
    → IfSome (step_else frames) (λ place. Past place (ts ++ token.Key key.Else ∷ []))
past_else _ _ (one_inside _ frames ts _ (frame_body _ body _ us (owner_yes c cs i) l) k) =
    past_inside (a_body (of_no c body) done) frames free ts _ [] _ k (frame_body (of_no c body) done _ [] (owner_no c body cs us i l) no_statement) at_free
    (simp (append_assoc, append-nil))
past_else _ _ _ = tt

-- after `endif`
past_endif : (frames : List Frame) (ts : List TokenKind) → SpellsFrames frames ts
    → IfSome (step_endif frames) (λ place. Past place (ts ++ token.Key key.Endif ∷ []))
past_endif _ _ (one_inside _ _ _ _ (frame_body _ a _ us (owner_yes c cs i) l) (one_inside _ frames ts _ (frame_body owner body os bs o m) k)) =
    past_choice_is frames owner body _ ts os bs _ _ k o m (without_else cs us c a i l) (simp append_assoc)
past_endif _ _ (one_inside _ _ _ _ (frame_body _ b _ vs (owner_no c a cs us i j) l) (one_inside _ frames ts _ (frame_body owner body os bs o m) k)) =
    past_choice_is frames owner body _ ts os bs _ _ k o m (with_else cs us vs c a b i j l) (simp append_assoc)
past_endif _ _ _ = tt

past_free : (frames : List Frame) (ts : List TokenKind) (t : TokenKind) → SpellsFrames frames ts
    → IfSome (step_free frames t) (λ place. Past place (ts ++ t ∷ []))
past_free frames ts (token.Date date) k =
    some_map (λ s. SpellsScript ts s) (λ place. Past place (ts ++ token.Date date ∷ [])) (dated date) (closed frames)
    (closed_spelled frames ts k) (λ items l. past_date items date ts l)
past_free frames ts (token.Word letters) k = past_word frames ts letters k
past_free frames ts (token.Key key.Schedule) k = past_schedule frames ts k
past_free frames ts (token.Key key.End) k = past_rolled frames ts k
past_free frames ts (token.Key key.If) k = past_if frames ts k
past_free frames ts (token.Key key.Else) k = past_else frames ts k
past_free frames ts (token.Key key.Endif) k = past_endif frames ts k
past_free frames ts _ k = tt

-- what is open after an `if`, with its `;` and without
choice_inside : (frames : List Frame) (owner : Owner) (body : Body) (s : Statement) (ts us vs ws front : List TokenKind) → SpellsFrames frames ts
    → SpellsOwner owner us → SpellsBody vs body → SpellsStatement ws s → ts ++ (us ++ (vs ++ ws)) ≡ front
    → SpellsFrames (a_body owner (and_then body s) ∷ frames) front
choice_inside frames owner body s ts us vs ws front k o l m e =
    rw e at (one_inside (a_body owner (and_then body s)) frames ts _ (frame_body owner _ us (vs ++ ws) o (one_more vs ws body s l m)) k)

-- after `endif`
past_after_endif : (frames : List Frame) (owner : Owner) (body : Body) (s : Statement) (ts us vs ws : List TokenKind) (t : TokenKind)
    → SpellsFrames frames ts → SpellsOwner owner us → SpellsBody vs body → SpellsChoice ws s
    → IfSome (step_after_endif (a_body owner (and_then body s) ∷ frames) t) (λ place. Past place ((ts ++ (us ++ (vs ++ ws))) ++ t ∷ []))
past_after_endif frames owner body s ts us vs ws (token.Sign sign.Semicolon) k o l m =
    let mark = token.Sign sign.Semicolon ∷ [] in
    past_is _ free _ [] _ (choice_inside frames owner body s ts us vs (ws ++ mark) ((ts ++ (us ++ (vs ++ ws))) ++ mark) k o l (choice_ended ws s m)
    (simp append_assoc)) at_free (append-nil _)
past_after_endif frames owner body s ts us vs ws t k o l m =
    past_free (a_body owner (and_then body s) ∷ frames) (ts ++ (us ++ (vs ++ ws))) t
    (choice_inside frames owner body s ts us vs ws (ts ++ (us ++ (vs ++ ws))) k o l (choice ws s m) refl)

past_named : (frames : List Frame) (name : List ℕ) (ts : List TokenKind) (t : TokenKind) → SpellsFrames frames ts → IsName name
    → IfSome (step_named frames name t) (λ place. Past place ((ts ++ token.Word name ∷ []) ++ t ∷ []))
past_named frames name ts (token.Sign sign.Equals) k h =
    past_fresh (a_statement (assigns name)) frames ts _ _ k (frame_statement _ _ (head_assigns name h)) (simp append_assoc)
past_named frames name ts (token.Key key.Pays) k h =
    past_fresh (a_statement (pays name)) frames ts _ _ k (frame_statement _ _ (head_pays name h)) (simp append_assoc)
past_named frames name ts _ k h = tt

-- after an atom
past_arrived : (frames : List Frame) (left : Before) (n : Number) (ts us vs front : List TokenKind) → SpellsFrames frames ts → SpellsBefore left us
    → SpellsAtom vs n → ts ++ (us ++ vs) ≡ front → Past (arrived frames left n) front
past_arrived frames _ n ts _ vs front k (stands_left sum product signs us ps l m) a e =
    let term = term_of product (signed_by signs n) ps (signs_of signs ++ vs) m (factor_of signs n vs (one_atom vs n a)) in
    rw (← e) (past_is frames _ ts _ _ k (at_factor sum _ us (ps ++ (signs_of signs ++ vs)) l term) (simp append_assoc))

past_literal : (frames : List Frame) (left : Before) (ts us : List TokenKind) (digits : List ℕ) (r : Result ℤ NumberFault) → SpellsFrames frames ts
    → SpellsBefore left us → decimal_in digits ≡ r → IfSome (step_literal frames left r) (λ place. Past place ((ts ++ us) ++ token.Number digits ∷ []))
past_literal frames left ts us digits (Ok raw) k l e =
    past_arrived frames left (literal raw) ts us (token.Number digits ∷ []) _ k l (of_literal digits raw (raw-spelled digits raw e)) (simp append_assoc)
past_literal frames left ts us digits (Err fault) k l e = tt

past_sign : (frames : List Frame) (left : Before) (ts us : List TokenKind) → SpellsFrames frames ts → SpellsBefore left us
    → Past (state frames (factor_next (with_sign left))) ((ts ++ us) ++ token.Sign sign.Minus ∷ [])
past_sign frames _ ts _ k (stands_left sum product signs us ps l m) =
    past_is frames _ ts _ _ k (at_atom _ _ (stands_left sum product (suc signs) us ps l m)) (simp append_assoc)

-- after `(`, which opens a condition where a comparison may begin
past_either : (test : Bool) (one other : State) (front : List TokenKind) → (IsTrue test → Past one front) → Past other front
    → Past (if test then one else other) front
past_either true one other front k l = k refl
past_either false one other front k l = l

past_open : (frames : List Frame) (left : Before) (ts us : List TokenKind) → SpellsFrames frames ts → SpellsBefore left us
    → Past (step_open frames left) ((ts ++ us) ++ token.Sign sign.ParenLeft ∷ [])
past_open frames left ts us k l =
    past_either (may_compare frames left) (state (a_condition of_bracket no_logic ∷ frames) (factor_next fresh))
    (state (a_bracket left ∷ frames) (factor_next fresh)) _
    (λ h. past_fresh (a_condition of_bracket no_logic) frames ts _ _ k (frame_condition of_bracket no_logic [] nothing_left)
    (rw (compare_before frames left us h l) (simp append-nil)))
    (past_fresh (a_bracket left) frames ts _ _ k (frame_bracket left us l) (simp append_assoc))

-- after `not`
past_not : (frames : List Frame) (left : Before) (ts us : List TokenKind) → SpellsFrames frames ts → SpellsBefore left us
    → IfSome (step_not frames left) (λ place. Past place ((ts ++ us) ++ token.Key key.Not ∷ []))
past_not _ left _ us (one_inside _ frames ts _ (frame_condition opening logic vs i) k) l =
    past_chosen (is_fresh left) (state (a_condition opening (with_not logic) ∷ frames) (factor_next fresh)) _
    (λ h. past_fresh (a_condition opening (with_not logic)) frames ts _ _ k (frame_condition opening _ _ (left_not logic vs i))
    (rw (nothing_before left us h l) (simp (append_assoc, append-nil))))
past_not _ left _ us _ l = tt

past_want : (frames : List Frame) (left : Before) (ts us : List TokenKind) (t : TokenKind) → SpellsFrames frames ts → SpellsBefore left us
    → IfSome (step_factor frames left t) (λ place. Past place ((ts ++ us) ++ t ∷ []))
past_want frames left ts us (token.Number digits) k l = past_literal frames left ts us digits (decimal_in digits) k l refl
past_want frames left ts us (token.Word name) k l =
    past_chosen (is_name name) (arrived frames left (variable name)) _
    (λ h. past_arrived frames left (variable name) ts us (token.Word name ∷ []) _ k l (of_variable name h) (simp append_assoc))
past_want frames left ts us (token.Sign sign.Minus) k l = past_sign frames left ts us k l
past_want frames left ts us (token.Sign sign.ParenLeft) k l = past_open frames left ts us k l
past_want frames left ts us (token.Key key.Min) k l =
    past_is frames _ ts _ _ k (at_word _ _ (word_choice least key.Min left us is_least l)) (simp append_assoc)
past_want frames left ts us (token.Key key.Max) k l =
    past_is frames _ ts _ _ k (at_word _ _ (word_choice greatest key.Max left us is_greatest l)) (simp append_assoc)
past_want frames left ts us (token.Key key.Abs) k l = past_is frames _ ts _ _ k (at_word _ _ (word_absolute left us l)) (simp append_assoc)
past_want frames left ts us (token.Key key.Spot) k l = past_is frames _ ts _ _ k (at_call spot key.Spot left us is_spot l) (simp append_assoc)
past_want frames left ts us (token.Key key.Period) k l = past_is frames _ ts _ _ k (at_call period key.Period left us is_period l) (simp append_assoc)
past_want frames left ts us (token.Key key.Days) k l = past_is frames _ ts _ _ k (at_call days key.Days left us is_days l) (simp append_assoc)
past_want frames left ts us (token.Key key.Not) k l = past_not frames left ts us k l
past_want frames left ts us _ k l = tt

-- the frame that a word and its bracket open
frame_of : (frame : Frame) (ts : List TokenKind) → SpellsWord frame ts → SpellsFrame frame (ts ++ token.Sign sign.ParenLeft ∷ [])
frame_of _ _ (word_absolute left ts l) = rw append_assoc (frame_absolute left ts l)
frame_of _ _ (word_choice op k left ts c l) = rw append_assoc (frame_choice op k left None ts [] c l (no_first op))

past_opens : (frames : List Frame) (frame : Frame) (ts us : List TokenKind) (t : TokenKind) → SpellsFrames frames ts → SpellsWord frame us
    → IfSome (step_bracket frames frame t) (λ place. Past place ((ts ++ us) ++ t ∷ []))
past_opens frames frame ts us (token.Sign sign.ParenLeft) k l =
    past_fresh frame frames ts _ _ k (frame_of frame us l) (simp append_assoc)
past_opens frames frame ts us _ k l = tt

past_call_named : (frames : List Frame) (number : Number) (word : Key) (left : Before) (ts us : List TokenKind) (t : TokenKind) → SpellsFrames frames ts
    → IsCall number word → SpellsBefore left us
    → IfSome (step_call_named frames number left t) (λ place. Past place ((ts ++ (us ++ token.Key word ∷ [])) ++ t ∷ []))
past_call_named frames number word left ts us (token.Sign sign.ParenLeft) k c l =
    past_is frames _ ts _ _ k (at_bracket number word left us c l) (simp append_assoc)
past_call_named frames number word left ts us _ k c l = tt

past_call_opened : (frames : List Frame) (number : Number) (word : Key) (left : Before) (ts us : List TokenKind) (t : TokenKind) → SpellsFrames frames ts
    → IsCall number word → SpellsBefore left us
    → IfSome (step_call_opened frames number left t) (λ place. Past place ((ts ++ (us ++ token.Key word ∷ token.Sign sign.ParenLeft ∷ [])) ++ t ∷ []))
past_call_opened frames number word left ts us (token.Sign sign.ParenRight) k c l =
    past_arrived frames left number ts us _ _ k l (call_of number word c) (simp append_assoc)
past_call_opened frames number word left ts us _ k c l = tt

-- after a comparison or a condition in brackets: `)`, `then`, `and` or `or`
past_group : (frames : List Frame) (c : Condition) (ts us : List TokenKind) → SpellsFrames frames ts → SpellsNegation us c
    → IfSome (step_group frames c) (λ place. Past place ((ts ++ us) ++ token.Sign sign.ParenRight ∷ []))
past_group _ c _ us (one_inside _ frames ts _ (frame_condition of_bracket logic vs i) k) l =
    let whole = condition_in_brackets (vs ++ us) (condition_of logic c) (whole_condition logic c vs us i l) in
    past_is frames _ ts _ _ k (at_condition _ _ whole) (simp append_assoc)
past_group _ c _ us _ l = tt

past_then : (frames : List Frame) (c : Condition) (ts us : List TokenKind) → SpellsFrames frames ts → SpellsNegation us c
    → IfSome (step_then frames c) (λ place. Past place ((ts ++ us) ++ token.Key key.Then ∷ []))
past_then _ c _ us (one_inside _ frames ts _ (frame_condition of_if logic vs i) k) l =
    let owner = owner_yes (condition_of logic c) (vs ++ us) (whole_condition logic c vs us i l) in
    past_inside _ frames free ts _ [] _ k (frame_body _ done _ [] owner no_statement) at_free (simp (append_assoc, append-nil))
past_then _ c _ us _ l = tt

past_and : (frames : List Frame) (c : Condition) (ts us : List TokenKind) → SpellsFrames frames ts → SpellsNegation us c
    → IfSome (step_and frames c) (λ place. Past place ((ts ++ us) ++ token.Key key.And ∷ []))
past_and _ c _ us (one_inside _ frames ts _ (frame_condition opening logic vs i) k) l =
    past_fresh _ frames ts _ _ k (frame_condition opening (with_and logic c) _ (left_and logic c vs us i l)) (simp append_assoc)
past_and _ c _ us _ l = tt

past_or : (frames : List Frame) (c : Condition) (ts us : List TokenKind) → SpellsFrames frames ts → SpellsNegation us c
    → IfSome (step_or frames c) (λ place. Past place ((ts ++ us) ++ token.Key key.Or ∷ []))
past_or _ c _ us (one_inside _ frames ts _ (frame_condition opening logic vs i) k) l =
    past_fresh _ frames ts _ _ k (frame_condition opening (with_or logic c) _ (left_or logic c vs us i l)) (simp append_assoc)
past_or _ c _ us _ l = tt

past_condition : (frames : List Frame) (c : Condition) (ts us : List TokenKind) (t : TokenKind) → SpellsFrames frames ts → SpellsNegation us c
    → IfSome (step_condition frames c t) (λ place. Past place ((ts ++ us) ++ t ∷ []))
past_condition frames c ts us (token.Sign sign.ParenRight) k l = past_group frames c ts us k l
past_condition frames c ts us (token.Key key.Then) k l = past_then frames c ts us k l
past_condition frames c ts us (token.Key key.And) k l = past_and frames c ts us k l
past_condition frames c ts us (token.Key key.Or) k l = past_or frames c ts us k l
past_condition frames c ts us _ k l = tt

-- after the right number of a comparison
past_compared : (frames : List Frame) (n : Number) (ts us : List TokenKind) (t : TokenKind) → SpellsFrames frames ts → SpellsNumber us n
    → IfSome (step_compared frames n t) (λ place. Past place ((ts ++ us) ++ t ∷ []))
past_compared _ n _ us t (one_inside _ frames ts _ (frame_comparison op left vs i) k) m =
    let e : (ts ++ (vs ++ token.Sign (sign_of op) ∷ us)) ++ t ∷ [] ≡ ((ts ++ (vs ++ token.Sign (sign_of op) ∷ [])) ++ us) ++ t ∷ [] = simp append_assoc in
    rw e at (past_condition frames (compare op left n bare) ts (vs ++ token.Sign (sign_of op) ∷ us) t k (two_numbers op vs us left n i m))
past_compared _ n _ us t _ m = tt

-- after the sign of a comparison
past_comparison : (frames : List Frame) (n : Number) (op : Comparison) (ts us : List TokenKind) → SpellsFrames frames ts → SpellsNumber us n
    → IfSome (step_comparison frames n op) (λ place. Past place ((ts ++ us) ++ token.Sign (sign_of op) ∷ []))
past_comparison _ n op _ us (one_inside _ frames ts _ (frame_condition opening logic vs i) k) m =
    let inside = one_inside _ frames ts _ (frame_condition opening logic vs i) k in
    past_fresh (a_comparison op n) (a_condition opening logic ∷ frames) _ _ _ inside (frame_comparison op n us m) (simp append_assoc)
past_comparison _ n op _ us _ m = tt

-- after `)` and a number that is all of a bracket
past_plain_group : (nots : ℕ) (frames : List Frame) (n : Number) (ts us : List TokenKind) → SpellsFrames frames ts → SpellsNumber us n
    → IfSome (step_number_group of_bracket (a_logic None None nots) frames n)
    (λ place. Past place (((ts ++ token.Sign sign.ParenLeft ∷ nots_of nots) ++ us) ++ token.Sign sign.ParenRight ∷ []))
past_plain_group zero frames n ts us k m =
    past_arrived frames fresh n ts [] _ _ k (stands_left no_sum no_product 0 [] [] sum_none product_none) (in_brackets us n m) (simp append_assoc)
past_plain_group (suc nots) frames n ts us k m = tt

past_number_group : (opening : Opening) (logic : Logic) (frames : List Frame) (n : Number) (ts us vs : List TokenKind) → SpellsFrames frames ts
    → SpellsLogic logic vs → SpellsNumber us n
    → IfSome (step_number_group opening logic frames n) (λ place. Past place (((ts ++ opening_of opening ∷ vs) ++ us) ++ token.Sign sign.ParenRight ∷ []))
past_number_group of_bracket _ frames n ts us _ k (logic_left _ _ nots _ _ no_or no_and) m = past_plain_group nots frames n ts us k m
past_number_group opening logic frames n ts us vs k l m = tt

-- after `)`
past_close : (frames : List Frame) (n : Number) (ts us : List TokenKind) → SpellsFrames frames ts → SpellsNumber us n
    → IfSome (step_close frames n) (λ place. Past place ((ts ++ us) ++ token.Sign sign.ParenRight ∷ []))
past_close _ n _ us (one_inside _ frames ts _ (frame_bracket left vs l) k) m =
    past_arrived frames left n ts vs _ _ k l (in_brackets us n m) (simp append_assoc)
past_close _ n _ us (one_inside _ frames ts _ (frame_absolute left vs l) k) m =
    past_arrived frames left (absolute n) ts vs _ _ k l (of_absolute us n m) (simp append_assoc)
past_close _ n _ us (one_inside _ frames ts _ (frame_choice op word left (Some first) vs ws c l i) k) m =
    let whole = choice_of op word (ws ++ us) (binary op first n) c (arguments_of op first n ws us i m) in
    past_arrived frames left (binary op first n) ts vs _ _ k l whole (simp append_assoc)
past_close _ n _ us (one_inside _ frames ts _ (frame_comparison op left vs i) k) m =
    let e : (ts ++ (vs ++ token.Sign (sign_of op) ∷ us)) ++ token.Sign sign.ParenRight ∷ []
    ≡ ((ts ++ (vs ++ token.Sign (sign_of op) ∷ [])) ++ us) ++ token.Sign sign.ParenRight ∷ [] = simp append_assoc in
    rw e at (past_group frames (compare op left n bare) ts (vs ++ token.Sign (sign_of op) ∷ us) k (two_numbers op vs us left n i m))
past_close _ n _ us (one_inside _ frames ts _ (frame_condition opening logic vs i) k) m = past_number_group opening logic frames n ts us vs k i m
past_close _ n _ us _ m = tt

-- after `,`
past_comma : (frames : List Frame) (n : Number) (ts us : List TokenKind) → SpellsFrames frames ts → SpellsNumber us n
    → IfSome (step_comma frames n) (λ place. Past place ((ts ++ us) ++ token.Sign sign.Comma ∷ []))
past_comma _ n _ us (one_inside _ frames ts _ (frame_choice op word left first vs ws c l i) k) m =
    past_fresh _ frames ts _ _ k (frame_choice op word left _ vs _ c l (first_of_more op first n ws us i m)) (simp append_assoc)
past_comma _ n _ us _ m = tt

-- after `;`
past_semicolon : (frames : List Frame) (n : Number) (ts us : List TokenKind) → SpellsFrames frames ts → SpellsNumber us n
    → IfSome (step_semicolon frames n) (λ place. Past place ((ts ++ us) ++ token.Sign sign.Semicolon ∷ []))
past_semicolon frames n ts us k l =
    let mark = token.Sign sign.Semicolon ∷ [] in
    some_map (λ rest. SpellsFrames rest (ts ++ (us ++ mark))) (λ place. Past place ((ts ++ us) ++ mark)) (λ rest. state rest free) (ended frames n)
    (ended_spelled mark simple_ended frames n ts us k l) (λ rest m. past_is rest free _ [] _ m at_free (simp (append_assoc, append-nil)))

-- after what begins the next item or statement
past_ended : (frames : List Frame) (n : Number) (ts us : List TokenKind) (t : TokenKind) → SpellsFrames frames ts → SpellsNumber us n
    → IfSome (step_ended frames n t) (λ place. Past place ((ts ++ us) ++ t ∷ []))
past_ended frames n ts us t k l =
    some_then (λ rest. SpellsFrames rest (ts ++ us)) (λ place. Past place ((ts ++ us) ++ t ∷ [])) (λ rest. step_free rest t) (ended frames n)
    (ended_bare frames n ts us k l) (λ rest m. past_free rest (ts ++ us) t m)

past_after : (frames : List Frame) (sum : Sum) (term : Number) (ts us vs : List TokenKind) (t : TokenKind) → SpellsFrames frames ts → SpellsSum sum us
    → SpellsTerm vs term → IfSome (step_after frames sum term t) (λ place. Past place ((ts ++ (us ++ vs)) ++ t ∷ []))
past_after frames sum term ts us vs (token.Sign sign.Plus) k l m =
    past_term frames _ ts _ _ k (sum_of_plus (us ++ vs) (summed sum term) (number_of sum term us vs l m)) (simp append_assoc)
past_after frames sum term ts us vs (token.Sign sign.Minus) k l m =
    past_term frames _ ts _ _ k (sum_of_minus (us ++ vs) (summed sum term) (number_of sum term us vs l m)) (simp append_assoc)
past_after frames sum term ts us vs (token.Sign sign.Star) k l m =
    past_is frames _ ts _ _ k (at_atom _ _ (stands_left sum _ 0 us _ l (product_of_times vs term m))) (simp (append_assoc, append-nil))
past_after frames sum term ts us vs (token.Sign sign.Slash) k l m =
    past_is frames _ ts _ _ k (at_atom _ _ (stands_left sum _ 0 us _ l (product_of_over vs term m))) (simp (append_assoc, append-nil))
past_after frames sum term ts us vs (token.Sign sign.ParenRight) k l m = past_close frames (summed sum term) ts (us ++ vs) k (number_of sum term us vs l m)
past_after frames sum term ts us vs (token.Sign sign.Comma) k l m = past_comma frames (summed sum term) ts (us ++ vs) k (number_of sum term us vs l m)
past_after frames sum term ts us vs (token.Sign sign.Semicolon) k l m = past_semicolon frames (summed sum term) ts (us ++ vs) k (number_of sum term us vs l m)
past_after frames sum term ts us vs (token.Sign sign.Less) k l m =
    past_comparison frames (summed sum term) less ts (us ++ vs) k (number_of sum term us vs l m)
past_after frames sum term ts us vs (token.Sign sign.LessEq) k l m =
    past_comparison frames (summed sum term) at_most ts (us ++ vs) k (number_of sum term us vs l m)
past_after frames sum term ts us vs (token.Sign sign.More) k l m =
    past_comparison frames (summed sum term) greater ts (us ++ vs) k (number_of sum term us vs l m)
past_after frames sum term ts us vs (token.Sign sign.MoreEq) k l m =
    past_comparison frames (summed sum term) at_least ts (us ++ vs) k (number_of sum term us vs l m)
past_after frames sum term ts us vs (token.Sign sign.Equals) k l m =
    past_comparison frames (summed sum term) equals ts (us ++ vs) k (number_of sum term us vs l m)
past_after frames sum term ts us vs (token.Sign sign.Differs) k l m =
    past_comparison frames (summed sum term) differs ts (us ++ vs) k (number_of sum term us vs l m)
past_after frames sum term ts us vs (token.Date date) k l m =
    past_ended frames (summed sum term) ts (us ++ vs) (token.Date date) k (number_of sum term us vs l m)
past_after frames sum term ts us vs (token.Word letters) k l m =
    past_ended frames (summed sum term) ts (us ++ vs) (token.Word letters) k (number_of sum term us vs l m)
past_after frames sum term ts us vs (token.Key key.Schedule) k l m =
    past_ended frames (summed sum term) ts (us ++ vs) (token.Key key.Schedule) k (number_of sum term us vs l m)
past_after frames sum term ts us vs (token.Key key.End) k l m =
    past_ended frames (summed sum term) ts (us ++ vs) (token.Key key.End) k (number_of sum term us vs l m)
past_after frames sum term ts us vs (token.Key key.If) k l m =
    past_ended frames (summed sum term) ts (us ++ vs) (token.Key key.If) k (number_of sum term us vs l m)
past_after frames sum term ts us vs (token.Key key.Else) k l m =
    past_ended frames (summed sum term) ts (us ++ vs) (token.Key key.Else) k (number_of sum term us vs l m)
past_after frames sum term ts us vs (token.Key key.Endif) k l m =
    past_ended frames (summed sum term) ts (us ++ vs) (token.Key key.Endif) k (number_of sum term us vs l m)
past_after frames sum term ts us vs (token.Key key.Then) k l m =
    past_compared frames (summed sum term) ts (us ++ vs) (token.Key key.Then) k (number_of sum term us vs l m)
past_after frames sum term ts us vs (token.Key key.And) k l m =
    past_compared frames (summed sum term) ts (us ++ vs) (token.Key key.And) k (number_of sum term us vs l m)
past_after frames sum term ts us vs (token.Key key.Or) k l m =
    past_compared frames (summed sum term) ts (us ++ vs) (token.Key key.Or) k (number_of sum term us vs l m)
past_after frames sum term ts us vs _ k l m = tt

past_in : (frames : List Frame) (mode : Mode) (ts us : List TokenKind) (t : TokenKind) → SpellsFrames frames ts → SpellsMode mode us
    → IfSome (step_in frames mode t) (λ place. Past place ((ts ++ us) ++ t ∷ []))
past_in frames _ ts _ t k at_free = rw append-nil (past_free frames ts t k)
past_in frames _ ts _ t k (at_heading awaited us l) = past_heading frames awaited ts us t k l
past_in frames _ ts _ t k (at_name name h) = past_named frames name ts t k h
past_in frames _ ts _ t k (at_atom left us l) = past_want frames left ts us t k l
past_in frames _ ts _ t k (at_factor sum term us vs l m) = past_after frames sum term ts us vs t k l m
past_in frames _ ts _ t k (at_condition c us l) = past_condition frames c ts us t k l
past_in frames _ ts _ t k (at_word frame us l) = past_opens frames frame ts us t k l
past_in frames _ ts _ t k (at_call number word left us c l) = past_call_named frames number word left ts us t k c l
past_in frames _ ts _ t k (at_bracket number word left us c l) = past_call_opened frames number word left ts us t k c l

-- a token that is taken leads on
past_step : (place : State) (front : List TokenKind) (t : TokenKind) → Past place front → IfSome (step place t) (λ next. Past next (front ++ t ∷ []))
past_step _ _ t (past frames mode ts us k l) = past_in frames mode ts us t k l
past_step _ _ t (past_choice frames owner body s ts us vs ws k o l m) = past_after_endif frames owner body s ts us vs ws t k o l m

-- the script that ends at what is awaited
end_in : (frames : List Frame) (mode : Mode) (ts us : List TokenKind) → SpellsFrames frames ts → SpellsMode mode us
    → IfSome (finish_in frames mode) (λ s. SpellsScript (ts ++ us) s)
end_in frames _ ts _ k at_free = rw append-nil (closed_spelled frames ts k)
end_in frames _ ts _ k (at_factor sum term us vs l m) =
    some_then (λ rest. SpellsFrames rest (ts ++ (us ++ vs))) (λ s. SpellsScript (ts ++ (us ++ vs)) s) closed (ended frames (summed sum term))
    (ended_bare frames (summed sum term) ts (us ++ vs) k (number_of sum term us vs l m)) (λ rest i. closed_spelled rest (ts ++ (us ++ vs)) i)
end_in frames _ ts _ k _ = tt

-- a script that ends at a place is spelled by the tokens that lead there
past_end : (place : State) (front : List TokenKind) → Past place front → IfSome (finish place) (λ s. SpellsScript front s)
past_end _ _ (past frames mode ts us k l) = end_in frames mode ts us k l
past_end _ _ (past_choice frames owner body s ts us vs ws k o l m) =
    closed_spelled (a_body owner (and_then body s) ∷ frames) (ts ++ (us ++ (vs ++ ws)))
    (choice_inside frames owner body s ts us vs ws (ts ++ (us ++ (vs ++ ws))) k o l (choice ws s m) refl)

-- what is read from a place on
past_read_on : (place : State) (front ts : List TokenKind) → Past place front → IfSome (read_on place ts) (λ s. SpellsScript (front ++ ts) s)
past_read_on place front [] k = rw append-nil (past_end place front k)
past_read_on place front (t ∷ ts) k =
    some_then (λ next. Past next (front ++ t ∷ [])) (λ s. SpellsScript (front ++ t ∷ ts) s) (λ next. read_on next ts) (step place t)
    (past_step place front t k) (λ next l. rw append_assoc at (past_read_on next (front ++ t ∷ []) ts l))

-- nothing leads to the place before a script
past_start : Past start []
past_start = past (a_script [] ∷ []) free [] [] (one_inside (a_script []) [] [] [] (frame_script [] [] no_item) none_open) at_free

-- the tokens spell the script that is read from them
pub script_is_spelled : ScriptIsSpelled
unfolding script_in
script_is_spelled ts s e = rw e at (past_read_on start [] ts past_start)
