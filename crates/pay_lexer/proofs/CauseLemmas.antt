-- One step of the lexer: what it takes, and why it is refused.
use Rattle.std.proofs.Common.{◌≡◌, ℕ, suc, ◌+◌, ◌-◌, ◌≤◌, ◌<◌, true, false, List, [], ◌∷◌, ◌++◌, length, take, drop, Option, Some, None, IsSome}
use Rattle.std.proofs.Common.{Result, Ok, Err, IfErr, refl, sym, ◌∙◌, ap, subst, arith, append_assoc}
use Rattle.std.specs.Option.{option_map}
use Rattle.std.proofs.lemmas.Bool.{false≢true}
use Rattle.std.proofs.lemmas.List.{take-append-drop, length-take-le, length-drop, append-nil}
use Rattle.std.proofs.Math.Seq.{take-length}
use Rattle.pay_lexer.specs.declared.fault.LexFault.{LexFault}
use Rattle.pay_lexer.specs.declared.fault.LexFault.TheVariants as fault
use Rattle.pay_lexer.specs.declared.token.Token.{Token}
use Rattle.pay_lexer.specs.Spelling.{is_blank, is_inside_line, begins_comment, placed, mark_length, Stands, blank, comment, longest, IsBadFrom}
use Rattle.pay_lexer.specs.Spelling.{here, further, LeadsToToken, token_next, none_yet, IsCauseFrom, IsCause}
use Rattle.pay_lexer.specs.Lexing.{comment_rest, Front, token_at, token_then, tokens_after, tokens_in, with_tokens}
use Rattle.pay_lexer.specs.Lexer.{tokens_at, IsCauseAt}
use Rattle.pay_lexer.proofs.FrontLemmas.{front_while-back}
use Rattle.pay_lexer.proofs.LawLemmas.{tokens_in-mark}
use Rattle.pay_lexer.proofs.TokenLemmas.{mapped, front-spelled}
use Rattle.pay_lexer.proofs.LexingLemmas.{with_none, tokens_after-drop, comment-stands, token-stands, nothing-begins}

-- why the rest of a text is refused is why the text is
stands-later : (place : ℕ) (bytes rest : List ℕ) (ts : List Token) (cause : LexFault) → Stands place bytes rest ts
    → IsCauseFrom (place + length bytes) rest cause → IsCauseFrom place (bytes ++ rest) cause
stands-later place bytes rest ts (fault.BadByte bad) s k = further place bytes rest ts bad s k
stands-later _ _ _ _ fault.NoMemory (blank place byte rest h) k = none_yet place (byte ∷ []) rest (blank place byte rest h) k
stands-later _ _ _ _ fault.NoMemory (comment place bytes rest h) k = none_yet place bytes rest (comment place bytes rest h) k
stands-later _ _ _ _ fault.NoMemory (longest place bytes rest kind s l h) k =
    token_next place bytes rest (placed place (length bytes) kind) (longest place bytes rest kind s l h)

pub blank-later : (place byte : ℕ) (rest : List ℕ) → is_blank byte ≡ true → (cause : LexFault) → IsCauseFrom (suc place + 0) rest cause
    → IsCauseFrom place (byte ∷ rest) cause
blank-later place byte rest h cause k =
    let P : ℕ → Type 0 = λ p. IsCauseFrom p rest cause in
    let e : suc place + 0 ≡ place + 1 = omega arith in
    stands-later place (byte ∷ []) rest [] cause (blank place byte rest h) (subst P e k)

pub comment-later : (place byte n : ℕ) (rest : List ℕ) → begins_comment (byte ∷ rest) ≡ true → n ≡ length (comment_rest rest)
    → (cause : LexFault) → IsCauseFrom (suc place + n) (drop n rest) cause → IsCauseFrom place (byte ∷ rest) cause
comment-later place byte n rest h same cause k =
    let P : ℕ → Type 0 = λ p. IsCauseFrom p (drop (length (comment_rest rest)) rest) cause in
    let e : suc place + length (comment_rest rest) ≡ place + length (byte ∷ comment_rest rest) = omega arith in
    let whole = stands-later place (byte ∷ comment_rest rest) (drop (length (comment_rest rest)) rest) [] cause (comment-stands place byte rest h)
    (subst P e (rw same at k)) in
    let Q : List ℕ → Type 0 = λ ys. IsCauseFrom place (byte ∷ ys) cause in
    subst Q (front_while-back is_inside_line rest) whole

pub token-later : (place byte n : ℕ) (rest : List ℕ) → begins_comment (byte ∷ rest) ≡ false
    → option_map (λ (found : Front). found.more) (token_at byte rest) ≡ Some n
    → (cause : LexFault) → IsCauseFrom (suc place + n) (drop n rest) cause → IsCauseFrom place (byte ∷ rest) cause
token-later place byte n rest no_comment found cause k =
    let m = mapped (λ (found : Front). found.more) (token_at byte rest) n found in
    let front : Front = m.0 in
    let size : suc place + front.more ≡ place + length (byte ∷ take front.more rest) =
    omega (arith, length-take-le front.more rest (front-spelled byte rest front m.1).1) in
    let P : ℕ → Type 0 = λ p. IsCauseFrom p (drop front.more rest) cause in
    let whole = stands-later place (byte ∷ take front.more rest) (drop front.more rest) (placed place (suc front.more) front.kind ∷ []) cause
    (token-stands place byte rest front no_comment m.1) (subst P size (rw (← m.2) at k)) in
    let Q : List ℕ → Type 0 = λ ys. IsCauseFrom place (byte ∷ ys) cause in
    subst Q (take-append-drop front.more rest) whole

token-first : (place byte : ℕ) (rest : List ℕ) (o : Option Front) → begins_comment (byte ∷ rest) ≡ false → token_at byte rest ≡ o → IsSome o
    → LeadsToToken place (byte ∷ rest)
token-first place byte rest None no_comment e h = absurd (false≢true h)
token-first place byte rest (Some front) no_comment e h =
    let Q : List ℕ → Type 0 = λ ys. LeadsToToken place (byte ∷ ys) in
    subst Q (take-append-drop front.more rest)
    (token_next place (byte ∷ take front.more rest) (drop front.more rest) (placed place (suc front.more) front.kind)
    (token-stands place byte rest front no_comment e))

-- why no token was taken
pub token-refused : (place byte : ℕ) (rest : List ℕ) (r : Result ℕ LexFault) → is_blank byte ≡ false → begins_comment (byte ∷ rest) ≡ false
    → ((bad : ℕ) → r ≡ Err (fault.BadByte bad) → (bad ≡ place) × (token_at byte rest ≡ None)) → (r ≡ Err fault.NoMemory → IsSome (token_at byte rest))
    → IfErr r (IsCauseFrom place (byte ∷ rest))
token-refused place byte rest (Ok more) no_blank no_comment none memory = tt
token-refused place byte rest (Err (fault.BadByte bad)) no_blank no_comment none memory =
    let h = none bad refl in
    let P : ℕ → Type 0 = λ b. IsBadFrom place (byte ∷ rest) b in
    subst P (sym h.0) (here place byte rest (nothing-begins place byte rest no_blank no_comment h.1))
token-refused place byte rest (Err fault.NoMemory) no_blank no_comment none memory =
    token-first place byte rest (token_at byte rest) no_comment refl (memory refl)

taken-one : (xs : List Token) (t : Token) (o : Result (List Token) ℕ) → with_tokens xs (with_tokens (t ∷ []) o) ≡ with_tokens (xs ++ t ∷ []) o
taken-one xs t (Ok ts) = ap Ok (sym (append_assoc xs (t ∷ []) ts))
taken-one xs t (Err bad) = refl

-- one token more is taken
pub taken_then : (place end : ℕ) (o : Option Front) (others : ℕ → Result (List Token) ℕ) (front : Front) (xs ys : List Token) → o ≡ Some front
    → end ≡ place + suc front.more
    → ys ≡ xs ++ (record { kind = front.kind; start = place; end = end }) ∷ []
    → with_tokens xs (token_then place o others) ≡ with_tokens ys (others front.more)
taken_then place end o others front xs ys found size pushed =
    rw (found, pushed, size) (taken-one xs (placed place (suc front.more) front.kind) (others front.more))

-- the text after what was taken, and its place
place-after : (size place more : ℕ) (rest : List ℕ) → place ≡ size - length rest - 1 → length rest < size → more ≤ length rest
    → suc place + more ≡ size - length (drop more rest)
place-after size place more rest e small within = omega (arith, e, small, within, length-drop more rest)

place-before : (size place first : ℕ) (rest : List ℕ) → place ≡ size - length rest - 1 → length rest < size → place ≡ size - length (first ∷ rest)
place-before size place first rest e small = omega (arith, e, small)

-- the tokens of a text are those taken and those of what is left
pub next-taken : (size place first more : ℕ) (rest left : List ℕ) (xs ys : List Token) → place ≡ size - length rest - 1 → length rest < size
    → more ≤ length rest
    → left ≡ drop more rest → with_tokens xs (tokens_after 0 place (first ∷ rest)) ≡ with_tokens ys (tokens_after more (suc place) rest)
    → with_tokens xs (tokens_at size (first ∷ rest)) ≡ with_tokens ys (tokens_at size left)
next-taken size place first more rest left xs ys e small within same h =
    ap (λ (p : ℕ). with_tokens xs (tokens_after 0 p (first ∷ rest))) (sym (place-before size place first rest e small))
    ∙ (h ∙ (ap (with_tokens ys) (tokens_after-drop more (suc place) rest)
    ∙ (ap (λ (p : ℕ). with_tokens ys (tokens_after 0 p (drop more rest))) (place-after size place more rest e small within)
    ∙ ap (λ (text : List ℕ). with_tokens ys (tokens_at size text)) (sym same))))

-- why what is left is refused is why the text is
pub next-later : (size place first more : ℕ) (rest left : List ℕ) → place ≡ size - length rest - 1 → length rest < size → more ≤ length rest
    → left ≡ drop more rest
    → ((cause : LexFault) → IsCauseFrom (suc place + more) (drop more rest) cause → IsCauseFrom place (first ∷ rest) cause)
    → (cause : LexFault) → IsCauseAt size left cause → IsCauseAt size (first ∷ rest) cause
next-later size place first more rest left e small within same h cause k =
    let P : ℕ → Type 0 = λ p. IsCauseFrom p (drop more rest) cause in
    let Q : ℕ → Type 0 = λ p. IsCauseFrom p (first ∷ rest) cause in
    let R : List ℕ → Type 0 = λ text. IsCauseAt size text cause in
    subst Q (place-before size place first rest e small) (h cause (subst P (sym (place-after size place more rest e small within)) (subst R same k)))

pub next_refused : (size place first : ℕ) (rest : List ℕ) (cause : LexFault) → place ≡ size - length rest - 1 → length rest < size
    → IsCauseFrom place (first ∷ rest) cause → IsCauseAt size (first ∷ rest) cause
next_refused size place first rest cause e small k =
    let Q : ℕ → Type 0 = λ p. IsCauseFrom p (first ∷ rest) cause in
    subst Q (place-before size place first rest e small) k

-- the rest after a step
pub rest_after : (more : ℕ) (rest : List ℕ) → take (length rest - more) (drop more rest) ≡ drop more rest
rest_after more rest = rw (← length-drop more rest) (take-length (drop more rest))

-- before the first step nothing is taken
start-place : (m : ℕ) (text : List ℕ) → m ≤ length text → m ≡ length text - length (drop m text)
start-place m text within = omega (arith, within, length-drop m text)

pub start-taken : (text left : List ℕ) (m : ℕ) (xs : List Token) → m ≡ mark_length text → m ≤ length text → left ≡ drop m text → xs ≡ []
    → tokens_in text ≡ with_tokens xs (tokens_at (length text) left)
start-taken text left m xs e within same none =
    rw (none, same) (tokens_in-mark text
    ∙ (ap (λ (n : ℕ). tokens_after 0 n (drop n text)) (sym e)
    ∙ (ap (λ (p : ℕ). tokens_after 0 p (drop m text)) (start-place m text within)
    ∙ sym (with_none (tokens_at (length text) (drop m text))))))

pub start-later : (text left : List ℕ) (m : ℕ) → m ≡ mark_length text → m ≤ length text → left ≡ drop m text → (cause : LexFault)
    → IsCauseAt (length text) left cause → IsCause text cause
start-later text left m e within same cause k =
    let P : ℕ → Type 0 = λ n. IsCauseFrom n (drop n text) cause in
    let Q : ℕ → Type 0 = λ p. IsCauseFrom p (drop m text) cause in
    let R : List ℕ → Type 0 = λ xs. IsCauseAt (length text) xs cause in
    subst P e (subst Q (sym (start-place m text within)) (subst R same k))

-- after the last step all is taken
pub all-taken : (size : ℕ) (left : List ℕ) (xs : List Token) (o : Result (List Token) ℕ) → length left < 1 → o ≡ with_tokens xs (tokens_at size left)
    → o ≡ Ok xs
all-taken size [] xs o h e = e ∙ ap Ok (append-nil xs)
all-taken size (byte ∷ left) xs o h e = absurd (omega (arith, h))
