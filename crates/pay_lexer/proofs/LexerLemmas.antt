-- What the code of the lexer rests on: lengths of fronts, days of short texts, and one token more.
use Rattle.std.proofs.Common.{◌≡◌, ℕ, ◌+◌, ◌<◌, List, [], ◌∷◌, length, take, drop, Option, Some, None, is_some, IsTrue, ◌||◌, false, ◌∙◌, refl, sym}
use Rattle.std.proofs.Common.{ap, arith}
use Rattle.pay_dates.specs.Days.{Date, day_in}
use Rattle.pay_dates.proofs.DayLemmas.{day_text-length, day_text-day_in}
use Rattle.pay_lexer.specs.Lexing.{point_and, number_rest, word_rest, is_word_byte}
use Rattle.pay_lexer.proofs.FrontLemmas.{front_while-all, front_while-back, front-take, number_rest-back}
use Rattle.pay_lexer.specs.declared.token.Key.{Key}
use Rattle.pay_lexer.specs.Forms.{lower, IsWord, IsPlainWord}
use Rattle.pay_lexer.specs.Tokens.{key_of}
use Rattle.pay_meaning.specs.Words.{is_letter, is_digit, is_lower_word, is_keyword}
use Rattle.std.proofs.lemmas.Bool.{and_from}
use Rattle.std.proofs.lemmas.Option.{none-some}
use Rattle.std.proofs.lemmas.List.Folds.{list_all-map}
use Rattle.pay_lexer.proofs.LawLemmas.{keywords_agree}

-- a point stands only before digits
pub point_none : (ds : List ℕ) → length ds ≡ 0 → length (point_and ds) ≡ 0
point_none [] h = refl
point_none (d ∷ ds) h = absurd (omega arith)

pub point_some : (ds : List ℕ) → 0 < length ds → length (point_and ds) ≡ length ds + 1
point_some [] h = absurd (omega arith)
point_some (d ∷ ds) h = omega arith

pub ruleset point_lengths = (point_none, point_some)

day-length : (xs : List ℕ) (o : Option Date) → day_in xs ≡ o → length xs < 10 → o ≡ None
day-length xs None e h = refl
day-length xs (Some d) e h =
    let back = day_text-day_in xs d e in
    absurd (omega (arith, ap length back.1, day_text-length d back.0))

-- fewer than ten bytes write no day
pub day_in_short : (xs : List ℕ) → length xs < 10 → day_in xs ≡ None
day_in_short xs h = day-length xs (day_in xs) refl h

-- the first bytes of the text are the rest of the number
pub number_rest_taken : (xs : List ℕ) (n : ℕ) → n ≡ length (number_rest xs) → take n xs ≡ number_rest xs
number_rest_taken xs n e =
    let back = number_rest-back xs in
    rw e (front-take (number_rest xs) back.0 xs back.1).0

pub word_rest_taken : (xs : List ℕ) (n : ℕ) → n ≡ length (word_rest xs) → take n xs ≡ word_rest xs
word_rest_taken xs n e = rw e (front-take (word_rest xs) (drop (length (word_rest xs)) xs) xs (front_while-back is_word_byte xs)).0

no_key : (key : Option Key) → key ≡ None → is_some key ≡ false
no_key None e = refl
no_key (Some key) e = absurd (none-some key (sym e))

-- a word in lower case that has no key is one that the language doesn't keep for itself
pub plain_word : (letters : List ℕ) → IsTrue (is_lower_word letters) → key_of letters ≡ None → IsPlainWord letters
plain_word letters word none =
    let kept : is_keyword letters ≡ false = keywords_agree letters ∙ no_key (key_of letters) none in
    rw (word, kept) refl

-- a letter and the rest of a word are a word
pub word_rest_word : (byte : ℕ) (rest : List ℕ) → IsTrue (is_letter (lower byte)) → IsWord (byte ∷ word_rest rest)
word_rest_word byte rest h =
    and_from (is_letter (lower byte)) _ h (list_all-map (λ b. is_letter b || is_digit b) lower (word_rest rest) ∙ front_while-all is_word_byte rest)
