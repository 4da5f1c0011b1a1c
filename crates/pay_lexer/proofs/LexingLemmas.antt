-- What is read from a text is what the text spells, or its first place where nothing begins.
use Rattle.std.proofs.Common.{◌≡◌, ℕ, zero, suc, ◌+◌, true, false, Bool, nat_eq, List, [], ◌∷◌, ◌++◌, length, take, drop, Option, Some, None}
use Rattle.std.proofs.Common.{Result, Ok, Err, inl, inr, refl, sym, ◌∙◌, ap, subst, arith}
use Rattle.std.specs.List.{list_all}
use Rattle.std.proofs.lemmas.Bool.{cases_Bool, and_parts, eqb-true, false≢true}
use Rattle.std.proofs.lemmas.Option.{none-some}
use Rattle.std.proofs.lemmas.List.{take-append-drop, length-take-le, append-nil}
use Rattle.std.proofs.Math.Seq.{drop-append_seam}
use Rattle.pay_lexer.specs.declared.token.Token.{Token}
use Rattle.pay_lexer.specs.declared.token.TokenKind.{TokenKind}
use Rattle.pay_lexer.specs.Tokens.{SpellsToken}
use Rattle.pay_lexer.specs.Spelling.{is_blank, is_inside_line, ends_line, begins_comment, IsLongest, placed, Stands, blank, comment, longest}
use Rattle.pay_lexer.specs.Spelling.{SpellsFrom, at_end, one_more, NothingBegins, IsBadFrom, here, further}
use Rattle.pay_lexer.specs.Lexing.{comment_rest, Front, token_at, with_tokens, token_then, tokens_after}
use Rattle.pay_lexer.proofs.FrontLemmas.{front_while-all, front_while-back, front_while-append}
use Rattle.pay_lexer.proofs.TokenLemmas.{front_of, blank-first, front-spelled, reached, front-longest, token-bytes}

-- what a reading says: these tokens are spelled, or this is the first place where nothing begins
abbrev pub IsReading : ℕ → List ℕ → Result (List Token) ℕ → Type 0
IsReading place text (Ok ts) = SpellsFrom place text ts
IsReading place text (Err bad) = IsBadFrom place text bad

-- after the bytes of what stands before, the text is read as usual
pub tokens_after-drop : (n place : ℕ) (xs : List ℕ) → tokens_after n place xs ≡ tokens_after 0 (place + n) (drop n xs)
tokens_after-drop zero place xs = ap (λ (p : ℕ). tokens_after 0 p xs) (omega arith)
tokens_after-drop (suc n) place [] = refl
tokens_after-drop (suc n) place (x ∷ xs) = tokens_after-drop n (suc place) xs ∙ ap (λ (p : ℕ). tokens_after 0 p (drop n xs)) (omega arith)

pub with_none : (o : Result (List Token) ℕ) → with_tokens [] o ≡ o
with_none (Ok ts) = refl
with_none (Err bad) = refl

-- a comment begins with its two slashes
slashes : (bytes : List ℕ) → begins_comment bytes ≡ true → (more : List ℕ) × (bytes ≡ 47 ∷ 47 ∷ more)
slashes [] h = absurd (false≢true h)
slashes (a ∷ []) h = absurd (false≢true (and_parts (nat_eq 47 a) false h).1)
slashes (a ∷ b ∷ more) h =
    let p = and_parts (nat_eq 47 a) _ h in
    let q = and_parts (nat_eq 47 b) _ p.1 in
    (more, rw (← eqb-true 47 a p.0, ← eqb-true 47 b q.0) refl)

-- what begins with a comment begins with no blank
no_blank : (byte : ℕ) (rest : List ℕ) → begins_comment (byte ∷ rest) ≡ true → is_blank byte ≡ false
no_blank byte rest h = rw (← eqb-true 47 byte (and_parts (nat_eq 47 byte) _ h).0) refl

-- a comment ends where its line ends
line-stops : (rest : List ℕ) → ends_line rest ≡ true → comment_rest rest ≡ []
line-stops [] h = refl
line-stops (byte ∷ rest) h = rw h refl

stops-line : (xs : List ℕ) → ends_line (drop (length (comment_rest xs)) xs) ≡ true
stops-line [] = refl
stops-line (x ∷ xs) = elim (cases_Bool (nat_eq x 10)) [
  | inl hit ↦ rw hit hit
  | inr miss ↦ rw miss (stops-line xs)
]

-- what stands at a place, and the reading of what follows it, are a reading
stands-then : (place : ℕ) (bytes rest : List ℕ) (ts : List Token) (o : Result (List Token) ℕ) → Stands place bytes rest ts
    → IsReading (place + length bytes) rest o → IsReading place (bytes ++ rest) (with_tokens ts o)
stands-then place bytes rest ts (Ok us) s k = one_more place bytes rest ts us s k
stands-then place bytes rest ts (Err bad) s k = further place bytes rest ts bad s k

dropped-then : (place : ℕ) (bytes rest : List ℕ) (o : Result (List Token) ℕ) → Stands place bytes rest []
    → IsReading (place + length bytes) rest o → IsReading place (bytes ++ rest) o
dropped-then place bytes rest (Ok us) s k = one_more place bytes rest [] us s k
dropped-then place bytes rest (Err bad) s k = further place bytes rest [] bad s k

-- the rest of a comment's line makes it a comment
pub comment-stands : (place byte : ℕ) (rest : List ℕ) → begins_comment (byte ∷ rest) ≡ true
    → Stands place (byte ∷ comment_rest rest) (drop (length (comment_rest rest)) rest) []
comment-stands place byte [] h = absurd (false≢true (and_parts (nat_eq 47 byte) false h).1)
comment-stands place byte (next ∷ rest) h =
    let p = and_parts (nat_eq 47 byte) _ h in
    let q = and_parts (nat_eq 47 next) _ p.1 in
    rw (← eqb-true 47 byte p.0, ← eqb-true 47 next q.0)
    (comment place (47 ∷ 47 ∷ comment_rest rest) (drop (length (comment_rest rest)) rest)
    (record { begins = refl; one_line = front_while-all is_inside_line rest; whole = stops-line rest }))

-- where a blank and a comment don't begin and no token is found, nothing begins
pub nothing-begins : (place x : ℕ) (xs : List ℕ) → is_blank x ≡ false → begins_comment (x ∷ xs) ≡ false → token_at x xs ≡ None → NothingBegins place (x ∷ xs)
nothing-begins place x xs no_blank no_comment none _ _ _ cut (blank _ byte rest h) = absurd (false≢true (sym no_blank ∙ (ap first_is_blank (sym cut) ∙ h)))
  where
    first_is_blank : List ℕ → Bool
    first_is_blank [] = false
    first_is_blank (byte ∷ rest) = is_blank byte
nothing-begins place x xs no_blank no_comment none _ _ _ cut (comment _ bytes rest h) =
    let s = slashes bytes h.begins in
    let two : begins_comment (bytes ++ rest) ≡ true = rw s.1 refl in
    absurd (false≢true (sym no_comment ∙ (ap begins_comment (sym cut) ∙ two)))
nothing-begins place x xs no_blank no_comment none _ _ _ cut (longest _ bytes rest kind s l h) =
    let r = reached bytes rest kind s in
    absurd (none-some r.found (sym none ∙ (ap front_of (sym cut) ∙ r.is)))

-- the token that is found stands there
pub token-stands : (place byte : ℕ) (rest : List ℕ) (front : Front) → begins_comment (byte ∷ rest) ≡ false → token_at byte rest ≡ Some front
    → Stands place (byte ∷ take front.more rest) (drop front.more rest) (placed place (suc front.more) front.kind ∷ [])
token-stands place byte rest front no_comment e =
    let spelled = front-spelled byte rest front e in
    let size : length (byte ∷ take front.more rest) ≡ suc front.more = omega (arith, length-take-le front.more rest spelled.1) in
    let cut : (byte ∷ take front.more rest) ++ drop front.more rest ≡ byte ∷ rest = ap (λ (ys : List ℕ). byte ∷ ys) (take-append-drop front.more rest) in
    let P : ℕ → Type 0 = λ n. Stands place (byte ∷ take front.more rest) (drop front.more rest) (placed place n front.kind ∷ []) in
    subst P size (longest place (byte ∷ take front.more rest) (drop front.more rest) front.kind spelled.0 (front-longest byte rest front e)
    (ap begins_comment cut ∙ no_comment))

token-reads : (place byte : ℕ) (rest : List ℕ) → is_blank byte ≡ false → begins_comment (byte ∷ rest) ≡ false
    → ((n : ℕ) → IsReading (suc place + n) (drop n rest) (tokens_after n (suc place) rest))
    → (o : Option Front) → token_at byte rest ≡ o → IsReading place (byte ∷ rest) (token_then place o (λ n. tokens_after n (suc place) rest))
token-reads place byte rest no_blank no_comment others None e = here place byte rest (nothing-begins place byte rest no_blank no_comment e)
token-reads place byte rest no_blank no_comment others (Some front) e =
    let stands = token-stands place byte rest front no_comment e in
    let size : place + length (byte ∷ take front.more rest) ≡ suc place + front.more =
    omega (arith, length-take-le front.more rest (front-spelled byte rest front e).1) in
    let o : Result (List Token) ℕ = tokens_after front.more (suc place) rest in
    let P : ℕ → Type 0 = λ p. IsReading p (drop front.more rest) o in
    let both = stands-then place (byte ∷ take front.more rest) (drop front.more rest) (placed place (suc front.more) front.kind ∷ []) o stands
    (subst P (sym size) (others front.more)) in
    let Q : List ℕ → Type 0 = λ ys. IsReading place (byte ∷ ys) (with_tokens (placed place (suc front.more) front.kind ∷ []) o) in
    subst Q (take-append-drop front.more rest) both

-- a blank or a comment is dropped, and else a token is read
one-read : (place byte : ℕ) (rest : List ℕ) → ((n : ℕ) → IsReading (suc place + n) (drop n rest) (tokens_after n (suc place) rest))
    → IsReading place (byte ∷ rest) (tokens_after 0 place (byte ∷ rest))
one-read place byte rest others = elim (cases_Bool (is_blank byte)) [
  | inl hit ↦
      let P : ℕ → Type 0 = λ p. IsReading p rest (tokens_after 0 (suc place) rest) in
      let e : suc place + 0 ≡ place + 1 = omega arith in
      rw hit (dropped-then place (byte ∷ []) rest (tokens_after 0 (suc place) rest) (blank place byte rest hit) (subst P e (others 0)))
  | inr no_blank ↦ elim (cases_Bool (begins_comment (byte ∷ rest))) [
    | inl hit ↦
        let n : ℕ = length (comment_rest rest) in
        let o : Result (List Token) ℕ = tokens_after n (suc place) rest in
        let P : ℕ → Type 0 = λ p. IsReading p (drop n rest) o in
        let e : suc place + n ≡ place + length (byte ∷ comment_rest rest) = omega arith in
        let both : IsReading place ((byte ∷ comment_rest rest) ++ drop n rest) o =
        dropped-then place (byte ∷ comment_rest rest) (drop n rest) o (comment-stands place byte rest hit) (subst P e (others n)) in
        let Q : List ℕ → Type 0 = λ ys. IsReading place (byte ∷ ys) o in
        rw (no_blank, hit) (subst Q (front_while-back is_inside_line rest) both)
    | inr no_comment ↦ rw (no_blank, no_comment) (token-reads place byte rest no_blank no_comment others (token_at byte rest) refl)
  ]
]

-- what is read is a reading
pub tokens_after-reads : (n place : ℕ) (xs : List ℕ) → IsReading (place + n) (drop n xs) (tokens_after n place xs)
tokens_after-reads zero place [] = at_end (place + 0)
tokens_after-reads (suc n) place [] = at_end (place + suc n)
tokens_after-reads (suc n) place (x ∷ xs) =
    let P : ℕ → Type 0 = λ p. IsReading p (drop n xs) (tokens_after n (suc place) xs) in
    let e : suc place + n ≡ place + suc n = omega arith in
    subst P e (tokens_after-reads n (suc place) xs)
tokens_after-reads zero place (x ∷ xs) =
    let P : ℕ → Type 0 = λ p. IsReading p (x ∷ xs) (tokens_after 0 place (x ∷ xs)) in
    let e : place ≡ place + 0 = omega arith in
    subst P e (one-read place x xs (λ n. tokens_after-reads n (suc place) xs))

-- the longest token of a text is read
token-read : (place : ℕ) (bytes rest : List ℕ) (kind : TokenKind) → SpellsToken bytes kind → IsLongest bytes rest → begins_comment (bytes ++ rest) ≡ false
    → tokens_after 0 place (bytes ++ rest) ≡ with_tokens (placed place (length bytes) kind ∷ []) (tokens_after 0 (place + length bytes) rest)
token-read place [] rest kind s l no_comment = absurd (omega (arith, token-bytes [] kind s))
token-read place (byte ∷ more) rest kind s l no_comment =
    let r = reached (byte ∷ more) rest kind s in
    let no_blank : is_blank byte ≡ false = elim (cases_Bool (is_blank byte)) [
      | inl hit ↦ absurd (none-some r.found (sym (blank-first byte (more ++ rest) hit) ∙ r.is))
      | inr miss ↦ miss
    ] in
    let spelled = front-spelled byte (more ++ rest) r.found r.is in
    let cut : (byte ∷ take r.found.more (more ++ rest)) ++ drop r.found.more (more ++ rest) ≡ byte ∷ (more ++ rest) =
    ap (λ (ys : List ℕ). byte ∷ ys) (take-append-drop r.found.more (more ++ rest)) in
    let longest_bytes = l (byte ∷ take r.found.more (more ++ rest)) (drop r.found.more (more ++ rest)) r.found.kind cut spelled.0 in
    let size : r.found.more ≡ length more = omega (arith, r.within, longest_bytes, length-take-le r.found.more (more ++ rest) spelled.1) in
    let same : r.found.kind ≡ kind = r.same (omega (arith, size)) in
    let place_after : suc place + length more ≡ place + length (byte ∷ more) = omega arith in
    let others : tokens_after r.found.more (suc place) (more ++ rest) ≡ tokens_after 0 (place + length (byte ∷ more)) rest =
    rw size (tokens_after-drop (length more) (suc place) (more ++ rest) ∙ rw drop-append_seam (ap (λ (p : ℕ). tokens_after 0 p rest) place_after)) in
    rw (no_blank, no_comment, r.is) (rw (others, same, size) refl)

-- the comment at the front of a text is dropped
comment-dropped : (place : ℕ) (more rest : List ℕ) → list_all is_inside_line more ≡ true → ends_line rest ≡ true
    → tokens_after 0 place ((47 ∷ 47 ∷ more) ++ rest) ≡ tokens_after 0 (place + length (47 ∷ 47 ∷ more)) rest
comment-dropped place more rest all ends =
    let whole : comment_rest (47 ∷ (more ++ rest)) ≡ 47 ∷ more =
    ap (λ (ys : List ℕ). 47 ∷ ys) (front_while-append is_inside_line more rest all
    ∙ (ap (λ (ys : List ℕ). more ++ ys) (line-stops rest ends) ∙ append-nil more)) in
    let e : suc place + length (47 ∷ more) ≡ place + length (47 ∷ 47 ∷ more) = omega arith in
    ap (λ (ys : List ℕ). tokens_after (length ys) (suc place) (47 ∷ (more ++ rest))) whole
    ∙ (tokens_after-drop (length (47 ∷ more)) (suc place) ((47 ∷ more) ++ rest)
    ∙ rw drop-append_seam (ap (λ (p : ℕ). tokens_after 0 p rest) e))

-- what stands at a place is read there
stands-read : (place : ℕ) (bytes rest : List ℕ) (ts : List Token) → Stands place bytes rest ts
    → tokens_after 0 place (bytes ++ rest) ≡ with_tokens ts (tokens_after 0 (place + length bytes) rest)
stands-read _ _ _ _ (blank place byte rest h) =
    let e : suc place ≡ place + 1 = omega arith in
    rw h (ap (λ (p : ℕ). tokens_after 0 p rest) e ∙ sym (with_none (tokens_after 0 (place + 1) rest)))
stands-read _ _ _ _ (comment place bytes rest h) =
    let s = slashes bytes h.begins in
    let P : List ℕ → Type 0 = λ ys. tokens_after 0 place (ys ++ rest) ≡ tokens_after 0 (place + length ys) rest in
    let all : list_all is_inside_line (47 ∷ 47 ∷ s.0) ≡ true = rw s.1 at h.one_line in
    subst P (sym s.1) (comment-dropped place s.0 rest all h.whole) ∙ sym (with_none (tokens_after 0 (place + length bytes) rest))
stands-read _ _ _ _ (longest place bytes rest kind s l h) = token-read place bytes rest kind s l h

-- the tokens that a text spells are read
pub spelled-read : (place : ℕ) (text : List ℕ) (ts : List Token) → SpellsFrom place text ts → tokens_after 0 place text ≡ Ok ts
spelled-read _ _ _ (at_end place) = refl
spelled-read _ _ _ (one_more place bytes rest ts us s k) =
    stands-read place bytes rest ts s ∙ ap (with_tokens ts) (spelled-read (place + length bytes) rest us k)

-- and so is the first place where nothing begins
pub bad-read : (place : ℕ) (text : List ℕ) (bad : ℕ) → IsBadFrom place text bad → tokens_after 0 place text ≡ Err bad
bad-read _ _ _ (here place byte rest nothing) = elim (cases_Bool (is_blank byte)) [
  | inl hit ↦ absurd (nothing (byte ∷ []) rest [] refl (blank place byte rest hit))
  | inr no_blank ↦ elim (cases_Bool (begins_comment (byte ∷ rest))) [
    | inl hit ↦ absurd (nothing (byte ∷ comment_rest rest) (drop (length (comment_rest rest)) rest) []
        (ap (λ (ys : List ℕ). byte ∷ ys) (front_while-back is_inside_line rest)) (comment-stands place byte rest hit))
    | inr no_comment ↦ rw (no_blank, no_comment) (none-read place byte rest (λ front e. nothing (byte ∷ take front.more rest) (drop front.more rest) _
        (ap (λ (ys : List ℕ). byte ∷ ys) (take-append-drop front.more rest)) (token-stands place byte rest front no_comment e)) (token_at byte rest) refl)
  ]
]
  where
    none-read : (place byte : ℕ) (rest : List ℕ) → ((front : Front) → token_at byte rest ≡ Some front → ⊥) → (o : Option Front) → token_at byte rest ≡ o
        → token_then place o (λ n. tokens_after n (suc place) rest) ≡ Err place
    none-read place byte rest no_token None e = refl
    none-read place byte rest no_token (Some front) e = absurd (no_token front e)
bad-read _ _ _ (further place bytes rest ts bad s k) =
    stands-read place bytes rest ts s ∙ ap (with_tokens ts) (bad-read (place + length bytes) rest bad k)
