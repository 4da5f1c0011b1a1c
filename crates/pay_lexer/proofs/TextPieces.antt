-- Pieces of a text that are read by themselves: each gives its tokens, either whatever follows it, or where a byte follows that ends words and numbers.
use Rattle.std.proofs.Common.{◌≡◌, ℕ, Bool, true, false, not, ◌&&◌, ◌||◌, nat_le, nat_eq, List, [], ◌∷◌, ◌++◌, length, map, take, Option, Some}
use Rattle.std.proofs.Common.{None, is_some, refl, sym, ◌∙◌, ap, subst, arith, append_assoc}
use Rattle.std.specs.List.{list_all, starts_with}
use Rattle.std.proofs.lemmas.Bool.{and_parts, false≢true}
use Rattle.std.proofs.lemmas.Bool.Decides.{nat_tests}
use Rattle.std.proofs.lemmas.List.{append-nil}
use Rattle.std.proofs.Math.Seq.{take-append_seam}
use Rattle.pay_dates.specs.Days.{IsDay, day_text, day_in}
use Rattle.pay_dates.specs.declared.day.Day.{Day}
use Rattle.pay_dates.proofs.DayLemmas.{day_text-length, day_in-day_text}
use Rattle.pay_meaning.specs.Words.{is_letter, is_digit, is_lower_word, is_keyword, is_name, IsName}
use Rattle.pay_lexer.specs.declared.token.Key.{Key}
use Rattle.pay_lexer.specs.declared.token.TokenKind.{TokenKind}
use Rattle.pay_lexer.specs.declared.token.TokenKind.TheVariants as token
use Rattle.pay_lexer.specs.Forms.{lower, IsNumber, whole, with_point}
use Rattle.pay_lexer.specs.Tokens.{key_of, word_token}
use Rattle.pay_lexer.specs.Spelling.{is_blank, begins_comment}
use Rattle.pay_lexer.specs.Lexing.{front_while, is_word_byte, decimals_at, number_rest, word_rest, Front, number_front, token_at, kind_then}
use Rattle.pay_lexer.specs.Lexing.{kinds_after}
use Rattle.pay_lexer.proofs.LawLemmas.{keywords_agree}
use Rattle.pay_lexer.proofs.FrontLemmas.{front_while-append, digits-first, number_rest-digits}

-- a piece that gives these tokens whatever follows
pub record Apart (text : List ℕ) (ks : List TokenKind) : Type 0 where
  pub reads : (rest : List ℕ) (us : List TokenKind) → kinds_after 0 rest ≡ Some us → kinds_after 0 (text ++ rest) ≡ Some (ks ++ us)

-- a byte that goes on with no word and no number
pub record Ends (byte : ℕ) : Type 0 where
  pub no_word : is_word_byte byte ≡ false
  pub no_digit : is_digit byte ≡ false
  pub no_point : nat_eq byte 46 ≡ false

-- a piece that gives these tokens where such a byte follows
pub record Ended (text : List ℕ) (ks : List TokenKind) : Type 0 where
  pub reads : (byte : ℕ) (rest : List ℕ) (us : List TokenKind) → Ends byte → kinds_after 0 (byte ∷ rest) ≡ Some us
      → kinds_after 0 (text ++ byte ∷ rest) ≡ Some (ks ++ us)

-- a piece that gives its tokens whatever follows gives them there too
pub alone : {text : List ℕ} {ks : List TokenKind} → Apart text ks → Ended text ks
alone a = record { reads = λ byte rest us ends e. a.reads (byte ∷ rest) us e }

pub nothing : Apart [] []
nothing = record { reads = λ rest us e. e }

-- a piece, and then another
pub then_apart : {text more : List ℕ} {ks ls : List TokenKind} → Apart text ks → Apart more ls → Apart (text ++ more) (ks ++ ls)
then_apart {text} {more} {ks} {ls} a b = record {
  reads = λ rest us e. rw (append_assoc text more rest, append_assoc ks ls us) (a.reads (more ++ rest) (ls ++ us) (b.reads rest us e));
}

pub then_ended : {text more : List ℕ} {ks ls : List TokenKind} → Apart text ks → Ended more ls → Ended (text ++ more) (ks ++ ls)
then_ended {text} {more} {ks} {ls} a b = record {
  reads = λ byte rest us ends e.
      rw (append_assoc text more (byte ∷ rest), append_assoc ks ls us) (a.reads (more ++ byte ∷ rest) (ls ++ us) (b.reads byte rest us ends e));
}

-- a piece, and then one that begins with a byte that ends words and numbers
pub ended_then : {text more : List ℕ} {ks ls : List TokenKind} → (byte : ℕ) → Ended text ks → Ends byte → Apart (byte ∷ more) ls
    → Apart (text ++ byte ∷ more) (ks ++ ls)
ended_then {text} {more} {ks} {ls} byte a ends b = record {
  reads = λ rest us e. rw (append_assoc text (byte ∷ more) rest, append_assoc ks ls us) (a.reads byte (more ++ rest) (ls ++ us) ends (b.reads rest us e));
}

-- after its first bytes a text is read as usual
skipped : (xs ys : List ℕ) → kinds_after (length xs) (xs ++ ys) ≡ kinds_after 0 ys
skipped [] ys = refl
skipped (x ∷ xs) ys = skipped xs ys

-- a text that begins with no `/` begins with no comment
no_comment : (byte : ℕ) (text : List ℕ) → nat_eq 47 byte ≡ false → begins_comment (byte ∷ text) ≡ false
no_comment byte text h = ap (λ (b : Bool). b && starts_with nat_eq text (47 ∷ [])) h

kind_read : (found : Option Front) (others : ℕ → Option (List TokenKind)) (front : Front) (us : List TokenKind) → found ≡ Some front
    → others front.more ≡ Some us → kind_then found others ≡ Some (front.kind ∷ us)
kind_read found others front us e k = rw (e, k) refl

-- where a token begins, it is read, and then the others
token_read : (byte : ℕ) (text : List ℕ) (front : Front) (us : List TokenKind) → is_blank byte ≡ false → nat_eq 47 byte ≡ false
    → token_at byte text ≡ Some front → kinds_after front.more text ≡ Some us → kinds_after 0 (byte ∷ text) ≡ Some (front.kind ∷ us)
token_read byte text front us no_blank no_slash e k =
    rw (no_blank, no_comment byte text no_slash) (kind_read (token_at byte text) (λ n. kinds_after n text) front us e k)

-- what a letter and a digit are not
letter-blank : (byte : ℕ) → is_letter byte ≡ true → is_blank byte ≡ false
letter-blank byte h = grind (arith, nat_tests)

letter-comment : (byte : ℕ) → is_letter byte ≡ true → nat_eq 47 byte ≡ false
letter-comment byte h = grind (arith, nat_tests)

letter-digit : (byte : ℕ) → is_letter byte ≡ true → is_digit byte ≡ false
letter-digit byte h = grind (arith, nat_tests)

digit-blank : (byte : ℕ) → is_digit byte ≡ true → is_blank byte ≡ false
digit-blank byte h = grind (arith, nat_tests)

digit-comment : (byte : ℕ) → is_digit byte ≡ true → nat_eq 47 byte ≡ false
digit-comment byte h = grind (arith, nat_tests)

-- a byte of a word in lower case
lower-same : (byte : ℕ) → (is_letter byte || is_digit byte) ≡ true → lower byte ≡ byte
lower-same byte h = grind (arith, nat_tests)

letter-word : (byte : ℕ) → is_letter byte ≡ true → (is_letter byte || is_digit byte) ≡ true
letter-word byte h = rw h refl

word-bytes : (bytes : List ℕ) → list_all (λ byte. is_letter byte || is_digit byte) bytes ≡ true
    → (list_all is_word_byte bytes ≡ true) × (map lower bytes ≡ bytes)
word-bytes [] h = (refl, refl)
word-bytes (byte ∷ rest) h =
    let parts = and_parts (is_letter byte || is_digit byte) (list_all (λ byte. is_letter byte || is_digit byte) rest) h in
    let same = lower-same byte parts.0 in
    let others = word-bytes rest parts.1 in
    (rw (same, parts.0) others.0, rw (same, others.1) refl)

front-ends : (test : ℕ → Bool) (byte : ℕ) (rest : List ℕ) → test byte ≡ false → front_while test (byte ∷ rest) ≡ []
front-ends test byte rest h = rw h refl

-- letters in lower case are read as their word where a byte follows that ends it
word_read : (first : ℕ) (more : List ℕ) (byte : ℕ) (rest : List ℕ) (us : List TokenKind) → is_letter first ≡ true
    → list_all (λ byte. is_letter byte || is_digit byte) more ≡ true → Ends byte → kinds_after 0 (byte ∷ rest) ≡ Some us
    → kinds_after 0 (first ∷ (more ++ byte ∷ rest)) ≡ Some (word_token (first ∷ more) ∷ us)
word_read first more byte rest us h k ends e =
    let same = lower-same first (letter-word first h) in
    let bytes = word-bytes more k in
    let whole_word : word_rest (more ++ byte ∷ rest) ≡ more =
    front_while-append is_word_byte more (byte ∷ rest) bytes.0
    ∙ (ap (λ (ys : List ℕ). more ++ ys) (front-ends is_word_byte byte rest ends.no_word) ∙ append-nil more) in
    let found : token_at first (more ++ byte ∷ rest) ≡ Some (record { kind = word_token (first ∷ more); more = length more }) =
    rw (letter-digit first h, same, h, whole_word, bytes.1) refl in
    let front : Front = record { kind = word_token (first ∷ more); more = length more } in
    token_read first (more ++ byte ∷ rest) front us (letter-blank first h) (letter-comment first h) found (skipped more (byte ∷ rest) ∙ e)

no_key : (k : Option Key) → is_some k ≡ false → k ≡ None
no_key None h = refl
no_key (Some k) h = absurd (false≢true (sym h))

-- a word that is no keyword is itself
plain_word : (letters : List ℕ) → is_keyword letters ≡ false → word_token letters ≡ token.Word letters
plain_word letters h = rw (no_key (key_of letters) (sym (keywords_agree letters) ∙ h)) refl

not_true : (b : Bool) → not b ≡ true → b ≡ false
not_true true h = absurd (false≢true h)
not_true false h = refl

-- a name is read whole
pub name_read : (name : List ℕ) → IsName name → Ended name (token.Word name ∷ [])
unfolding is_name
name_read [] h = absurd (false≢true h)
name_read (first ∷ more) h =
    let parts = and_parts (nat_le (length (first ∷ more)) 64 && is_lower_word (first ∷ more)) (not (is_keyword (first ∷ more))) h in
    let lower_word = (and_parts (nat_le (length (first ∷ more)) 64) (is_lower_word (first ∷ more)) parts.0).1 in
    let word = and_parts (is_letter first) (list_all (λ byte. is_letter byte || is_digit byte) more) lower_word in
    let plain = plain_word (first ∷ more) (not_true (is_keyword (first ∷ more)) parts.1) in
    record {
      reads = λ byte rest us ends e. rw plain at (word_read first more byte rest us word.0 word.1 ends e);
    }

-- a number that is the rest of a digit is read whole
number_from : (first : ℕ) (more : List ℕ) → is_digit first ≡ true
    → ((byte : ℕ) (rest : List ℕ) → Ends byte → number_rest (more ++ byte ∷ rest) ≡ more) → Ended (first ∷ more) (token.Number (first ∷ more) ∷ [])
number_from first more h front = record {
  reads = λ byte rest us ends e.
      let found : token_at first (more ++ byte ∷ rest) ≡ Some (number_front first more) = rw (h, front byte rest ends) refl in
      token_read first (more ++ byte ∷ rest) (number_front first more) us (digit-blank first h) (digit-comment first h) found (skipped more (byte ∷ rest) ∙ e);
}

no_decimals : (byte : ℕ) (rest : List ℕ) → nat_eq byte 46 ≡ false → decimals_at (byte ∷ rest) ≡ []
no_decimals byte rest h = rw h refl

-- a number is read whole
pub number_read : (digits : List ℕ) → IsNumber digits → Ended digits (token.Number digits ∷ [])
number_read digits (whole _ h) =
    let d = digits-first digits h in
    let read = number_from d.0 d.1 d.3 (λ byte rest ends.
    number_rest-digits d.1 (byte ∷ rest) d.4 (front-ends is_digit byte rest ends.no_digit)
    ∙ (ap (λ (ys : List ℕ). d.1 ++ ys) (no_decimals byte rest ends.no_point) ∙ append-nil d.1)) in
    rw (sym d.2) at read
number_read _ (with_point digits decimals h k) =
    let d = digits-first digits h in
    let f = digits-first decimals k in
    let read = number_from d.0 (d.1 ++ 46 ∷ decimals) d.3 (λ byte rest ends.
    let goes_on : front_while is_digit (decimals ++ byte ∷ rest) ≡ decimals =
    front_while-append is_digit decimals (byte ∷ rest) k.1
    ∙ (ap (λ (ys : List ℕ). decimals ++ ys) (front-ends is_digit byte rest ends.no_digit) ∙ append-nil decimals) in
    let tail : decimals_at (46 ∷ (decimals ++ byte ∷ rest)) ≡ 46 ∷ decimals = rw goes_on (rw f.2 refl) in
    rw append_assoc (number_rest-digits d.1 (46 ∷ (decimals ++ byte ∷ rest)) d.4 refl ∙ ap (λ (ys : List ℕ). d.1 ++ ys) tail)) in
    subst (λ (ds : List ℕ). Ended (ds ++ 46 ∷ decimals) (token.Number (ds ++ 46 ∷ decimals) ∷ [])) (sym d.2) read

-- a date is read whole, whatever follows
pub date_read : (date : Day) → IsDay date → Apart (64 ∷ day_text date) (token.Date date ∷ [])
date_read date h = record {
  reads = λ rest us e.
      let ten : length (day_text date) ≡ 10 = day_text-length date h in
      let text : take 10 (day_text date ++ rest) ≡ day_text date =
      ap (λ n. take n (day_text date ++ rest)) (sym ten) ∙ take-append_seam (day_text date) rest in
      let back : day_in (day_text date) ≡ Some date = day_in-day_text date h in
      let after : kinds_after 10 (day_text date ++ rest) ≡ Some us =
      ap (λ n. kinds_after n (day_text date ++ rest)) (sym ten) ∙ (skipped (day_text date) rest ∙ e) in
      token_read 64 (day_text date ++ rest) (record { kind = token.Date date; more = 10 }) us refl refl (rw (text, back) refl) after;
}
