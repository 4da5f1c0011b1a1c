-- A number or a word before a byte that goes on neither, and a date before any text, are read whole.
use Rattle.std.proofs.Common.{◌≡◌, ℕ, zero, suc, true, false, Bool, ◌||◌, not, nat_eq, List, [], ◌∷◌, ◌++◌, length, map, take, drop, Option, Some}
use Rattle.std.proofs.Common.{None, is_some, inl, inr, refl, sym, ◌∙◌, ap, subst, arith, append_assoc}
use Rattle.std.specs.List.{list_all}
use Rattle.std.specs.Option.{option_map}
use Rattle.std.proofs.lemmas.Bool.{cases_Bool, and_parts, and_from, false≢true}
use Rattle.std.proofs.lemmas.Bool.Decides.{nat_tests}
use Rattle.std.proofs.lemmas.Option.{none-some}
use Rattle.std.proofs.lemmas.List.{append-nil}
use Rattle.std.proofs.Math.Seq.{take-append_seam, drop-append_seam}
use Rattle.pay_dates.specs.Days.{Date, day_in, day_text, IsDay}
use Rattle.pay_dates.proofs.DayLemmas.{day_text-length, day_in-day_text}
use Rattle.pay_meaning.specs.Words.{is_letter, is_digit, is_lower_word, is_keyword}
use Rattle.pay_lexer.specs.declared.token.Key.{Key}
use Rattle.pay_lexer.specs.declared.token.TokenKind.{TokenKind}
use Rattle.pay_lexer.specs.declared.token.TokenKind.TheVariants as token
use Rattle.pay_lexer.specs.Forms.{IsNumber, whole, with_point, lower, IsPlainWord}
use Rattle.pay_lexer.specs.Tokens.{word_token, key_or_word, key_of}
use Rattle.pay_lexer.specs.Spelling.{is_blank}
use Rattle.pay_lexer.specs.Lexing.{front_while, is_word_byte, decimals_at, number_rest, word_rest, Front, date_front, number_front, word_front}
use Rattle.pay_lexer.specs.Lexing.{day_at, token_at, kinds_after}
use Rattle.pay_lexer.proofs.FrontLemmas.{front_while-append, digits-first, number_rest-digits}
use Rattle.pay_lexer.proofs.TokenLemmas.{blank-first, digit-first, letter-first}
use Rattle.pay_lexer.proofs.LawLemmas.{keywords_agree}

-- a byte that goes on no word and no number
pub record Ends (byte : ℕ) : Type 0 where
  pub no_word : is_word_byte byte ≡ false
  pub no_digit : is_digit byte ≡ false
  pub no_point : nat_eq byte 46 ≡ false

-- after the bytes of what stands before, the text is read as usual
pub kinds_after-drop : (n : ℕ) (xs : List ℕ) → kinds_after n xs ≡ kinds_after 0 (drop n xs)
kinds_after-drop zero xs = refl
kinds_after-drop (suc n) [] = refl
kinds_after-drop (suc n) (x ∷ xs) = kinds_after-drop n xs

-- a token whose bytes are found at the front of a text
front-whole : (first : ℕ) (more rest : List ℕ) (front : Front) → nat_eq 47 first ≡ false → token_at first (more ++ rest) ≡ Some front
    → front.more ≡ length more
    → kinds_after 0 (first ∷ (more ++ rest)) ≡ option_map (λ ks. front.kind ∷ ks) (kinds_after 0 rest)
front-whole first more rest front no_slash found size =
    let no_blank : is_blank first ≡ false = elim (cases_Bool (is_blank first)) [
      | inl hit ↦ absurd (none-some front (sym (blank-first first (more ++ rest) hit) ∙ found))
      | inr miss ↦ miss
    ] in
    let others : kinds_after front.more (more ++ rest) ≡ kinds_after 0 rest =
    rw size (kinds_after-drop (length more) (more ++ rest) ∙ rw drop-append_seam refl) in
    rw (no_blank, no_slash, found) (ap (option_map (λ ks. front.kind ∷ ks)) others)

digit-no_slash : (byte : ℕ) → is_digit byte ≡ true → nat_eq 47 byte ≡ false
digit-no_slash byte h = grind (arith, nat_tests)

letter-no_slash : (byte : ℕ) → is_letter (lower byte) ≡ true → nat_eq 47 byte ≡ false
letter-no_slash byte h = grind (arith, nat_tests)

-- the rest of a number, before a byte that ends it
number-rest_whole : (digits : List ℕ) (byte : ℕ) (rest : List ℕ) → IsNumber digits → Ends byte
    → (first : ℕ) × (more : List ℕ) × (digits ≡ first ∷ more) × (is_digit first ≡ true) × (number_rest (more ++ byte ∷ rest) ≡ more)
number-rest_whole digits byte rest (whole _ h) e =
    let d = digits-first digits h in
    let stops : front_while is_digit (byte ∷ rest) ≡ [] = rw e.no_digit refl in
    let none : decimals_at (byte ∷ rest) ≡ [] = rw e.no_point refl in
    (d.0, d.1, d.2, d.3, number_rest-digits d.1 (byte ∷ rest) d.4 stops ∙ rw none (append-nil d.1))
number-rest_whole _ byte rest (with_point digits decimals h k) e =
    let d = digits-first digits h in
    let f = digits-first decimals k in
    let stops : front_while is_digit (byte ∷ rest) ≡ [] = rw e.no_digit refl in
    let all : front_while is_digit (decimals ++ byte ∷ rest) ≡ decimals =
    front_while-append is_digit decimals (byte ∷ rest) k.1 ∙ rw stops (append-nil decimals) in
    let tail : decimals_at (46 ∷ (decimals ++ byte ∷ rest)) ≡ 46 ∷ decimals = rw all (rw f.2 refl) in (
      d.0,
      d.1 ++ 46 ∷ decimals,
      ap (λ (ds : List ℕ). ds ++ 46 ∷ decimals) d.2,
      d.3,
      rw append_assoc (number_rest-digits d.1 (46 ∷ (decimals ++ byte ∷ rest)) d.4 refl ∙ ap (λ (ys : List ℕ). d.1 ++ ys) tail),
    )

pub number_whole : (digits : List ℕ) (byte : ℕ) (rest : List ℕ) → IsNumber digits → Ends byte
    → kinds_after 0 (digits ++ byte ∷ rest) ≡ option_map (λ ks. token.Number digits ∷ ks) (kinds_after 0 (byte ∷ rest))
number_whole digits byte rest h e =
    let n = number-rest_whole digits byte rest h e in
    let found : token_at n.0 (n.1 ++ byte ∷ rest) ≡ Some (number_front n.0 n.1) =
    digit-first n.0 (n.1 ++ byte ∷ rest) n.3 ∙ ap (λ (ys : List ℕ). Some (number_front n.0 ys)) n.4 in
    let P : List ℕ → Type 0 = λ ds. kinds_after 0 (ds ++ byte ∷ rest) ≡ option_map (λ ks. token.Number ds ∷ ks) (kinds_after 0 (byte ∷ rest)) in
    subst P (sym n.2) (front-whole n.0 n.1 (byte ∷ rest) (number_front n.0 n.1) (digit-no_slash n.0 n.3) found refl)

-- letters in lower case and digits stay as they are
lower-same : (byte : ℕ) → (is_letter byte || is_digit byte) ≡ true → lower byte ≡ byte
lower-same byte h = grind (arith, nat_tests)

lower-all : (bytes : List ℕ) → list_all (λ byte. is_letter byte || is_digit byte) bytes ≡ true → map lower bytes ≡ bytes
lower-all [] h = refl
lower-all (byte ∷ rest) h =
    let p = and_parts (is_letter byte || is_digit byte) (list_all (λ b. is_letter b || is_digit b) rest) h in
    rw (lower-same byte p.0, lower-all rest p.1) refl

word-bytes : (bytes : List ℕ) → list_all (λ byte. is_letter byte || is_digit byte) bytes ≡ true → list_all is_word_byte bytes ≡ true
word-bytes [] h = refl
word-bytes (byte ∷ rest) h =
    let p = and_parts (is_letter byte || is_digit byte) (list_all (λ b. is_letter b || is_digit b) rest) h in
    and_from (is_word_byte byte) (list_all is_word_byte rest) (rw (lower-same byte p.0) p.0) (word-bytes rest p.1)

no-key : (key : Option Key) (letters : List ℕ) → is_some key ≡ false → key_or_word key letters ≡ token.Word letters
no-key None letters h = refl
no-key (Some key) letters h = absurd (false≢true (sym h))

pub word_whole : (letters : List ℕ) (byte : ℕ) (rest : List ℕ) → IsPlainWord letters → Ends byte
    → kinds_after 0 (letters ++ byte ∷ rest) ≡ option_map (λ ks. token.Word letters ∷ ks) (kinds_after 0 (byte ∷ rest))
word_whole [] byte rest h e = absurd (false≢true h)
word_whole (first ∷ more) byte rest h e =
    let p = and_parts (is_lower_word (first ∷ more)) (not (is_keyword (first ∷ more))) h in
    let q = and_parts (is_letter first) (list_all (λ b. is_letter b || is_digit b) more) p.0 in
    let same : lower first ≡ first = lower-same first (rw q.0 refl) in
    let letter : is_letter (lower first) ≡ true = rw same q.0 in
    let stops : front_while is_word_byte (byte ∷ rest) ≡ [] = rw e.no_word refl in
    let all : word_rest (more ++ byte ∷ rest) ≡ more =
    front_while-append is_word_byte more (byte ∷ rest) (word-bytes more q.1) ∙ rw stops (append-nil more) in
    let kept : is_some (key_of (first ∷ more)) ≡ false = sym (keywords_agree (first ∷ more)) ∙ not-true (is_keyword (first ∷ more)) p.1 in
    let lowered : map lower (first ∷ more) ≡ first ∷ more = rw (same, lower-all more q.1) refl in
    let plain : word_token (map lower (first ∷ more)) ≡ token.Word (first ∷ more) =
    ap word_token lowered ∙ no-key (key_of (first ∷ more)) (first ∷ more) kept in
    let found : token_at first (more ++ byte ∷ rest) ≡ Some (word_front first more) =
    letter-first first (more ++ byte ∷ rest) letter ∙ ap (λ (ys : List ℕ). Some (word_front first ys)) all in
    let read = front-whole first more (byte ∷ rest) (word_front first more) (letter-no_slash first letter) found refl in
    let P : TokenKind → Type 0 = λ kind. kinds_after 0 (first ∷ (more ++ byte ∷ rest)) ≡ option_map (λ ks. kind ∷ ks) (kinds_after 0 (byte ∷ rest)) in
    subst P plain read
  where
    not-true : (b : Bool) → not b ≡ true → b ≡ false
    not-true true k = sym k
    not-true false k = refl

pub date_whole : (date : Date) (rest : List ℕ) → IsDay date
    → kinds_after 0 (64 ∷ (day_text date ++ rest)) ≡ option_map (λ ks. token.Date date ∷ ks) (kinds_after 0 rest)
date_whole date rest h =
    let ten = day_text-length date h in
    let P : ℕ → Type 0 = λ n. take n (day_text date ++ rest) ≡ day_text date in
    let text : take 10 (day_text date ++ rest) ≡ day_text date = subst P ten (take-append_seam (day_text date) rest) in
    let day : day_at (day_text date ++ rest) ≡ Some date = ap day_in text ∙ day_in-day_text date h in
    front-whole 64 (day_text date) rest (date_front date) refl (ap (option_map date_front) day) (sym ten)
