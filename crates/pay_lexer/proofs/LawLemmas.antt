-- The laws of tokens, from what reading finds.
use Rattle.std.proofs.Common.{◌≡◌, ℕ, zero, suc, ◌+◌, ◌-◌, ◌≤◌, false, nat_eq, List, [], ◌∷◌, ◌++◌, length, map, take, drop, Option, Some, None}
use Rattle.std.proofs.Common.{is_some, Result, Ok, Err, inl, inr, refl, sym, ◌∙◌, ap, subst, arith, append_assoc}
use Rattle.std.specs.List.{list_any, slice_range, starts_with}
use Rattle.std.specs.Option.{option_map}
use Rattle.std.specs.Str.{bytes_eq}
use Rattle.std.proofs.lemmas.Bool.{cases_Bool, and_parts, false≢true}
use Rattle.std.proofs.lemmas.Option.{same_Some, none-some}
use Rattle.std.proofs.lemmas.List.{take-append-drop, length-append, length-drop, length-take-le}
use Rattle.std.proofs.Math.Seq.{take-append_seam, drop-append_seam}
use Rattle.pay_meaning.specs.Words.{is_keyword}
use Rattle.pay_lexer.specs.declared.token.Key.{Key}
use Rattle.pay_lexer.specs.declared.token.Token.{Token}
use Rattle.pay_lexer.specs.declared.token.TokenKind.{TokenKind}
use Rattle.pay_lexer.specs.Tokens.{key_in, key_of, keys}
use Rattle.pay_lexer.specs.Spelling.{is_blank, begins_comment, placed, mark_length, Stands, blank, comment, longest, SpellsFrom, at_end, one_more}
use Rattle.pay_lexer.specs.Lexing.{comment_rest, Front, token_at, token_then, tokens_after, tokens_in, with_tokens, kind_then, kinds_after}
use Rattle.pay_lexer.specs.Lexing.{kinds_in, kinds, kinds_of}
use Rattle.pay_lexer.specs.LexingLaws.{TokensAreSpelled, SpelledTokensAreRead, OneTokenList, BadPlaceIsFirst, FirstBadPlaceIsRead, OneBadPlace}
use Rattle.pay_lexer.specs.LexingLaws.{AreSlices, TokensAreSlices, NoMoreTokensThanBytes, KindsAreOfTokens, ReadKindsAreSpelled, KeywordsAgree}
use Rattle.pay_lexer.proofs.TokenLemmas.{token-bytes}
use Rattle.pay_lexer.proofs.LexingLemmas.{IsReading, tokens_after-drop, tokens_after-reads, spelled-read, bad-read}

-- the tokens of a text are those after its mark
pub tokens_in-mark : (text : List ℕ) → tokens_in text ≡ tokens_after 0 (mark_length text) (drop (mark_length text) text)
unfolding tokens_in
tokens_in-mark text = tokens_after-drop (mark_length text) 0 text ∙ ap (λ (p : ℕ). tokens_after 0 p (drop (mark_length text) text)) (omega arith)

-- what is read of a text is a reading of it
pub tokens_in-reads : (text : List ℕ) → IsReading (mark_length text) (drop (mark_length text) text) (tokens_in text)
unfolding tokens_in
tokens_in-reads text =
    let P : ℕ → Type 0 = λ p. IsReading p (drop (mark_length text) text) (tokens_after (mark_length text) 0 text) in
    let e : 0 + mark_length text ≡ mark_length text = omega arith in
    subst P e (tokens_after-reads (mark_length text) 0 text)

pub tokens_are_spelled : TokensAreSpelled
tokens_are_spelled text ts e = subst (IsReading (mark_length text) (drop (mark_length text) text)) e (tokens_in-reads text)

pub bad_place_is_first : BadPlaceIsFirst
bad_place_is_first text bad e = subst (IsReading (mark_length text) (drop (mark_length text) text)) e (tokens_in-reads text)

pub spelled_tokens_are_read : SpelledTokensAreRead
spelled_tokens_are_read text ts s = tokens_in-mark text ∙ spelled-read (mark_length text) (drop (mark_length text) text) ts s

pub first_bad_place_is_read : FirstBadPlaceIsRead
first_bad_place_is_read text bad b = tokens_in-mark text ∙ bad-read (mark_length text) (drop (mark_length text) text) bad b

same-ok : (ts us : List Token) (o : Result (List Token) ℕ) → o ≡ Ok ts → o ≡ Ok us → ts ≡ us
same-ok ts us o e f = cc

same-err : (a b : ℕ) (o : Result (List Token) ℕ) → o ≡ Err a → o ≡ Err b → a ≡ b
same-err a b o e f = cc

not-both : (ts : List Token) (a : ℕ) (o : Result (List Token) ℕ) → o ≡ Err a → o ≡ Ok ts → ⊥
not-both ts a o e f = cc

pub one_token_list : OneTokenList
one_token_list text ts us s k = same-ok ts us (tokens_in text) (spelled_tokens_are_read text ts s) (spelled_tokens_are_read text us k)

pub one_bad_place : OneBadPlace
one_bad_place text bad b = (
  λ other k. same-err bad other (tokens_in text) (first_bad_place_is_read text bad b) (first_bad_place_is_read text other k),
  λ ts s. not-both ts bad (tokens_in text) (first_bad_place_is_read text bad b) (spelled_tokens_are_read text ts s),
)

-- the mark stands in the text
mark-within : (text : List ℕ) → mark_length text ≤ length text
mark-within [] = omega arith
mark-within (a ∷ []) = elim (cases_Bool (starts_with nat_eq (a ∷ []) (239 ∷ 187 ∷ 191 ∷ []))) [
  | inl hit ↦ absurd (false≢true (and_parts (nat_eq 239 a) false hit).1)
  | inr miss ↦ rw miss (omega arith)
]
mark-within (a ∷ b ∷ []) = elim (cases_Bool (starts_with nat_eq (a ∷ b ∷ []) (239 ∷ 187 ∷ 191 ∷ []))) [
  | inl hit ↦ absurd (false≢true (and_parts (nat_eq 187 b) false (and_parts (nat_eq 239 a) _ hit).1).1)
  | inr miss ↦ rw miss (omega arith)
]
mark-within (a ∷ b ∷ c ∷ more) = elim (cases_Bool (starts_with nat_eq (a ∷ b ∷ c ∷ more) (239 ∷ 187 ∷ 191 ∷ []))) [
  | inl hit ↦ rw hit (omega arith)
  | inr miss ↦ rw miss (omega arith)
]

-- one token at most stands at a place, and it has bytes there
stands-count : (place : ℕ) (bytes rest : List ℕ) (ts : List Token) → Stands place bytes rest ts → length ts ≤ length bytes
stands-count _ _ _ _ (blank place byte rest h) = omega arith
stands-count _ _ _ _ (comment place bytes rest h) = omega arith
stands-count _ _ _ _ (longest place bytes rest kind s l h) = omega (arith, token-bytes bytes kind s)

spelled-count : (place : ℕ) (text : List ℕ) (ts : List Token) → SpellsFrom place text ts → length ts ≤ length text
spelled-count _ _ _ (at_end place) = omega arith
spelled-count _ _ _ (one_more place bytes rest ts us s k) =
    omega (arith, stands-count place bytes rest ts s, spelled-count (place + length bytes) rest us k, length-append ts us, length-append bytes rest)

pub no_more_tokens_than_bytes : NoMoreTokensThanBytes
no_more_tokens_than_bytes text ts s =
    omega (arith, spelled-count (mark_length text) (drop (mark_length text) text) ts s, length-drop (mark_length text) text)

-- what begins after a place begins after an earlier one
earlier : (text : List ℕ) (place sooner : ℕ) (ts : List Token) → sooner ≤ place → AreSlices text place ts → AreSlices text sooner ts
earlier text place sooner [] h k = k
earlier text place sooner (t ∷ ts) h k = (k.0, omega (arith, k.1), k.2)

-- the bytes in the middle of a text are the slice from their place on
middle : (before bytes rest : List ℕ) (place : ℕ) → length before ≡ place → slice_range (before ++ (bytes ++ rest)) place (place + length bytes) ≡ bytes
middle before bytes rest place e =
    let size : place + length bytes - place ≡ length bytes = omega arith in
    rw (size, ← e, drop-append_seam) (take-append_seam bytes rest)

stands-slices : (before bytes rest : List ℕ) (place : ℕ) (ts us : List Token) → length before ≡ place → Stands place bytes rest ts
    → AreSlices (before ++ (bytes ++ rest)) (place + length bytes) us → AreSlices (before ++ (bytes ++ rest)) place (ts ++ us)
stands-slices before _ _ _ _ us e (blank place byte rest h) k = earlier _ _ place us (omega arith) k
stands-slices before _ _ _ _ us e (comment place bytes rest h) k = earlier _ _ place us (omega arith) k
stands-slices before _ _ _ _ us e (longest place bytes rest kind s l h) k = (
  record {
    rises = omega (arith, token-bytes bytes kind s);
    within = omega (arith, length-append before (bytes ++ rest), length-append bytes rest);
    spelled = rw (middle before bytes rest place e) s;
  },
  omega arith,
  k,
)

spelled-slices : (before text : List ℕ) (place : ℕ) (ts : List Token) → SpellsFrom place text ts → length before ≡ place → AreSlices (before ++ text) place ts
spelled-slices before _ _ _ (at_end place) e = tt
spelled-slices before _ _ _ (one_more place bytes rest ts us s k) e =
    let others = spelled-slices (before ++ bytes) rest (place + length bytes) us k (omega (arith, length-append before bytes)) in
    stands-slices before bytes rest place ts us e s (rw append_assoc at others)

pub tokens_are_slices : TokensAreSlices
tokens_are_slices text ts s =
    let n : ℕ = mark_length text in
    let whole = spelled-slices (take n text) (drop n text) n ts s (length-take-le n text (mark-within text)) in
    let P : List ℕ → Type 0 = λ xs. AreSlices xs n ts in
    earlier text n 0 ts (omega arith) (subst P (take-append-drop n text) whole)

-- a token's kind before other kinds
kind-then : (o : Option Front) (place : ℕ) (f : ℕ → Option (List TokenKind)) (g : ℕ → Result (List Token) ℕ) → ((n : ℕ) → f n ≡ kinds_of (g n))
    → kind_then o f ≡ kinds_of (token_then place o g)
kind-then None place f g h = refl
kind-then (Some front) place f g h = ap (option_map (λ ks. front.kind ∷ ks)) (h front.more) ∙ of-others (g front.more)
  where
    of-others : (o : Result (List Token) ℕ)
        → option_map (λ ks. front.kind ∷ ks) (kinds_of o) ≡ kinds_of (with_tokens (placed place (suc front.more) front.kind ∷ []) o)
    of-others (Ok ts) = refl
    of-others (Err bad) = refl

kinds-read : (n place : ℕ) (xs : List ℕ) → kinds_after n xs ≡ kinds_of (tokens_after n place xs)
kinds-read zero place [] = refl
kinds-read (suc n) place [] = refl
kinds-read (suc n) place (x ∷ xs) = kinds-read n (suc place) xs
kinds-read zero place (x ∷ xs) = elim (cases_Bool (is_blank x)) [
  | inl hit ↦ rw hit (kinds-read 0 (suc place) xs)
  | inr no_blank ↦ elim (cases_Bool (begins_comment (x ∷ xs))) [
    | inl hit ↦ rw (no_blank, hit) (kinds-read (length (comment_rest xs)) (suc place) xs)
    | inr no_comment ↦ rw (no_blank, no_comment)
        (kind-then (token_at x xs) place (λ n. kinds_after n xs) (λ n. tokens_after n (suc place) xs) (λ n. kinds-read n (suc place) xs))
  ]
]

pub kinds_are_of_tokens : KindsAreOfTokens
unfolding kinds_in tokens_in
kinds_are_of_tokens text = kinds-read (mark_length text) 0 text

kinds-some : (o : Result (List Token) ℕ) (ks : List TokenKind) → kinds_of o ≡ Some ks → (ts : List Token) × (kinds ts ≡ ks) × (o ≡ Ok ts)
kinds-some (Ok ts) ks e = (ts, same_Some _ _ e, refl)
kinds-some (Err bad) ks e = absurd (none-some ks e)

pub read_kinds_are_spelled : ReadKindsAreSpelled
read_kinds_are_spelled text ks e =
    let s = kinds-some (tokens_in text) ks (sym (kinds_are_of_tokens text) ∙ e) in
    (s.0, s.1, tokens_are_spelled text s.0 s.2)

-- a word is one of those with a key exactly where it has a key
key-among : (entries : List (List ℕ × Key)) (letters : List ℕ)
    → list_any (bytes_eq letters) (map (λ entry. entry.0) entries) ≡ is_some (key_in entries letters)
key-among [] letters = refl
key-among (entry ∷ rest) letters = elim (cases_Bool (bytes_eq letters entry.0)) [
  | inl hit ↦ rw hit refl
  | inr miss ↦ rw miss (key-among rest letters)
]

pub keywords_agree : KeywordsAgree
unfolding is_keyword key_of
keywords_agree letters = key-among keys letters
