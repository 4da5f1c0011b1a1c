-- The token that is taken at a place of a text is spelled by its bytes, and is the longest there.
use Rattle.std.proofs.Common.{◌≡◌, ℕ, suc, ◌≤◌, ◌<◌, Bool, if◌then◌else◌, true, false, ◌||◌, nat_eq, List, [], ◌∷◌, ◌++◌, length, map, take, drop}
use Rattle.std.proofs.Common.{Option, Some, None, ◌⊎◌, inl, inr, refl, sym, ◌∙◌, ap, subst, arith, append_assoc}
use Rattle.std.specs.Option.{option_map}
use Rattle.std.specs.List.{list_all}
use Rattle.std.proofs.lemmas.Bool.{cases_Bool, and_parts, and_from, eqb-true, or_cases, false≢true}
use Rattle.std.proofs.lemmas.Bool.Decides.{nat_tests}
use Rattle.std.proofs.lemmas.Option.{same_Some, none-some}
use Rattle.std.proofs.lemmas.List.Folds.{list_all-map}
use Rattle.std.proofs.lemmas.List.{length-append, take-append-drop, length-take, length-take-le}
use Rattle.std.proofs.Math.Seq.{take-append_seam}
use Rattle.pay_dates.specs.Days.{Date, day_in, day_text, IsDay}
use Rattle.pay_dates.proofs.DayLemmas.{day_text-length, day_in-day_text, day_text-day_in}
use Rattle.pay_meaning.specs.Words.{is_letter, is_digit}
use Rattle.pay_lexer.specs.declared.token.Sign.{Sign}
use Rattle.pay_lexer.specs.declared.token.Sign.TheVariants as sign
use Rattle.pay_lexer.specs.declared.token.TokenKind.{TokenKind}
use Rattle.pay_lexer.specs.declared.token.TokenKind.TheVariants as token
use Rattle.pay_lexer.specs.Forms.{IsNumber, whole, with_point, lower, IsWord}
use Rattle.pay_lexer.specs.Tokens.{word_token, sign_text, SpellsToken, of_date, of_number, of_word, of_sign}
use Rattle.pay_lexer.specs.Spelling.{is_blank, IsLongest}
use Rattle.pay_lexer.specs.Lexing.{front_while, is_word_byte, decimals_at, number_rest, word_rest, Front, date_front, number_front, word_front}
use Rattle.pay_lexer.specs.Lexing.{short_sign, long_sign, day_at, begins_equals, sign_alone, sign_with_equals, longer_sign, sign_at, token_at}
use Rattle.pay_lexer.proofs.FrontLemmas.{front_while-all, front_while-back, front_while-append, front-take, same_front, digits-first}
use Rattle.pay_lexer.proofs.FrontLemmas.{number_rest-back, number_rest_number, number_rest-digits}

-- what a mapped option came from
pub mapped : {A B : Type 0} (f : A → B) (o : Option A) (y : B) → option_map f o ≡ Some y → (x : A) × (o ≡ Some x) × (f x ≡ y)
mapped f None y e = absurd (none-some y e)
mapped f (Some x) y e = (x, refl, same_Some (f x) y e)

-- a digit begins a number
pub digit-first : (byte : ℕ) (rest : List ℕ) → is_digit byte ≡ true → token_at byte rest ≡ Some (number_front byte (number_rest rest))
digit-first byte rest h = rw h refl

-- a letter is no digit
letter-no_digit : (byte : ℕ) → is_letter (lower byte) ≡ true → is_digit byte ≡ false
letter-no_digit byte h = grind (arith, nat_tests)

-- a letter begins a word
pub letter-first : (byte : ℕ) (rest : List ℕ) → is_letter (lower byte) ≡ true → token_at byte rest ≡ Some (word_front byte (word_rest rest))
letter-first byte rest h = rw (letter-no_digit byte h, h) refl

-- the sign that a test picks, or one of those after it
picked : (test : Bool) (first : Sign) (others : Option Sign) (s : Sign) → (if test then Some first else others) ≡ Some s
    → ((test ≡ true) × (first ≡ s)) ⊎ (others ≡ Some s)
picked true first others s h = inl (refl, same_Some first s h)
picked false first others s h = inr h

-- the text of the sign that is picked for a byte
picked-text : (byte code : ℕ) (first : Sign) (others : Option Sign) (s : Sign) (more : List ℕ) → sign_text first ≡ code ∷ more
    → (others ≡ Some s → sign_text s ≡ byte ∷ more) → (if nat_eq byte code then Some first else others) ≡ Some s → sign_text s ≡ byte ∷ more
picked-text byte code first others s more text later h = elim (picked (nat_eq byte code) first others s h) [
  | inl hit ↦ rw (← hit.1, eqb-true byte code hit.0) text
  | inr miss ↦ later miss
]

-- the text of a sign of one byte
alone-text : (byte : ℕ) (s : Sign) → sign_alone byte ≡ Some s → sign_text s ≡ byte ∷ []
alone-text byte s h =
    picked-text byte 43 sign.Plus _ s [] refl
    (picked-text byte 45 sign.Minus _ s [] refl
    (picked-text byte 42 sign.Star _ s [] refl
    (picked-text byte 47 sign.Slash _ s [] refl
    (picked-text byte 40 sign.ParenLeft _ s [] refl
    (picked-text byte 41 sign.ParenRight _ s [] refl
    (picked-text byte 44 sign.Comma _ s [] refl
    (picked-text byte 59 sign.Semicolon _ s [] refl
    (picked-text byte 61 sign.Equals _ s [] refl
    (picked-text byte 60 sign.Less _ s [] refl
    (picked-text byte 62 sign.More _ s [] refl (λ none. absurd (none-some s none))))))))))))
    h

-- the text of a sign of two bytes
with_equals-text : (byte : ℕ) (s : Sign) → sign_with_equals byte ≡ Some s → sign_text s ≡ byte ∷ 61 ∷ []
with_equals-text byte s h =
    picked-text byte 33 sign.Differs _ s (61 ∷ []) refl
    (picked-text byte 60 sign.LessEq _ s (61 ∷ []) refl
    (picked-text byte 62 sign.MoreEq _ s (61 ∷ []) refl (λ none. absurd (none-some s none))))
    h

-- a blank begins no token
pub blank-first : (byte : ℕ) (rest : List ℕ) → is_blank byte ≡ true → token_at byte rest ≡ None
blank-first byte rest h = elim (or_cases (nat_eq byte 32 || nat_eq byte 9 || nat_eq byte 13) (nat_eq byte 10) h) [
  | inr e ↦ rw (eqb-true byte 10 e) refl
  | inl h3 ↦ elim (or_cases (nat_eq byte 32 || nat_eq byte 9) (nat_eq byte 13) h3) [
    | inr e ↦ rw (eqb-true byte 13 e) refl
    | inl h2 ↦ elim (or_cases (nat_eq byte 32) (nat_eq byte 9) h2) [
      | inr e ↦ rw (eqb-true byte 9 e) refl
      | inl e ↦ rw (eqb-true byte 32 e) refl
    ]
  ]
]

-- a front's token is spelled by its bytes, which stand in the text
abbrev pub IsSpelled : ℕ → List ℕ → Front → Type 0
IsSpelled byte rest front = SpellsToken (byte ∷ take front.more rest) front.kind × (front.more ≤ length rest)

number-spelled : (byte : ℕ) (rest : List ℕ) → is_digit byte ≡ true → IsSpelled byte rest (number_front byte (number_rest rest))
number-spelled byte rest h =
    let back = number_rest-back rest in
    let front = front-take (number_rest rest) back.0 rest back.1 in
    (rw front.0 (of_number (byte ∷ number_rest rest) (number_rest_number byte rest h)), front.1)

word-spelled : (byte : ℕ) (rest : List ℕ) → is_letter (lower byte) ≡ true → IsSpelled byte rest (word_front byte (word_rest rest))
word-spelled byte rest h =
    let front = front-take (word_rest rest) (drop (length (word_rest rest)) rest) rest (front_while-back is_word_byte rest) in
    let tail : list_all (λ b. is_letter b || is_digit b) (map lower (word_rest rest)) ≡ true =
    list_all-map (λ b. is_letter b || is_digit b) lower (word_rest rest) ∙ front_while-all is_word_byte rest in
    (rw front.0 (of_word (byte ∷ word_rest rest) (and_from (is_letter (lower byte)) _ h tail)), front.1)

date-spelled : (rest : List ℕ) (date : Date) → day_at rest ≡ Some date → IsSpelled 64 rest (date_front date)
date-spelled rest date h =
    let back = day_text-day_in (take 10 rest) date h in
    let ten : length (take 10 rest) ≡ 10 = ap length (sym back.1) ∙ day_text-length date back.0 in
    (rw (← back.1) (of_date date back.0), omega (arith, ten, length-take 10 rest))

alone-spelled : (byte : ℕ) (rest : List ℕ) (front : Front) → option_map short_sign (sign_alone byte) ≡ Some front → IsSpelled byte rest front
alone-spelled byte rest front e =
    let m = mapped short_sign (sign_alone byte) front e in
    subst (IsSpelled byte rest) m.2 (rw (← alone-text byte m.0 m.1) (of_sign m.0), omega arith)

long-spelled : (byte : ℕ) (rest : List ℕ) (s : Sign) → sign_with_equals byte ≡ Some s → begins_equals rest ≡ true → IsSpelled byte rest (long_sign s)
long-spelled byte [] s e h = absurd (false≢true h)
long-spelled byte (next ∷ rest) s e h =
    let text : byte ∷ next ∷ [] ≡ sign_text s = rw (eqb-true next 61 h) (sym (with_equals-text byte s e)) in
    (rw text (of_sign s), omega arith)

longer-spelled : (byte : ℕ) (rest : List ℕ) (front : Front) (longer : Option Sign) → sign_with_equals byte ≡ longer
    → longer_sign longer (sign_alone byte) rest ≡ Some front → IsSpelled byte rest front
longer-spelled byte rest front None e h = alone-spelled byte rest front h
longer-spelled byte rest front (Some s) e h = elim (cases_Bool (begins_equals rest)) [
  | inl hit ↦ subst (IsSpelled byte rest) (same_Some _ _ (rw hit at h)) (long-spelled byte rest s e hit)
  | inr miss ↦ alone-spelled byte rest front (rw miss at h)
]

sign-spelled : (byte : ℕ) (rest : List ℕ) (front : Front) → sign_at byte rest ≡ Some front → IsSpelled byte rest front
sign-spelled byte rest front h = longer-spelled byte rest front (sign_with_equals byte) refl h

-- the token that is taken is spelled by its bytes
pub front-spelled : (byte : ℕ) (rest : List ℕ) (front : Front) → token_at byte rest ≡ Some front → IsSpelled byte rest front
front-spelled byte rest front e = elim (cases_Bool (is_digit byte)) [
  | inl digit ↦ subst (IsSpelled byte rest) (same_Some _ _ (rw digit at e)) (number-spelled byte rest digit)
  | inr a ↦ elim (cases_Bool (is_letter (lower byte))) [
    | inl letter ↦ subst (IsSpelled byte rest) (same_Some _ _ (rw (a, letter) at e)) (word-spelled byte rest letter)
    | inr b ↦ elim (cases_Bool (nat_eq byte 64)) [
      | inl at_sign ↦
          let m = mapped date_front (day_at rest) front (rw (a, b, at_sign) at e) in
          rw (eqb-true byte 64 at_sign) (subst (IsSpelled 64 rest) m.2 (date-spelled rest m.0 m.1))
      | inr c ↦ sign-spelled byte rest front (rw (a, b, c) at e)
    ]
  ]
]

-- the token at the front of a text, if there is one
abbrev pub front_of : List ℕ → Option Front
front_of [] = None
front_of (byte ∷ rest) = token_at byte rest

-- what it is that bytes are reached: the token that is taken there is at least as long, and is this one if it is no longer
pub record IsReached (bytes rest : List ℕ) (kind : TokenKind) : Type 0 where
  pub found : Front
  pub is : front_of (bytes ++ rest) ≡ Some found
  pub within : length bytes ≤ suc found.more
  pub same : suc found.more ≡ length bytes → found.kind ≡ kind

date-reached : (date : Date) (rest : List ℕ) → IsDay date → IsReached (64 ∷ day_text date) rest (token.Date date)
date-reached date rest h =
    let ten = day_text-length date h in
    let P : ℕ → Type 0 = λ n. take n (day_text date ++ rest) ≡ day_text date in
    let text : take 10 (day_text date ++ rest) ≡ day_text date = subst P ten (take-append_seam (day_text date) rest) in
    let day : day_at (day_text date ++ rest) ≡ Some date = ap day_in text ∙ day_in-day_text date h in
    record {
      found = date_front date;
      is = ap (option_map date_front) day;
      within = omega (arith, ten);
      same = λ e. refl;
    }

-- a sign of one byte that begins no longer one
short-reached : (byte : ℕ) (rest : List ℕ) (s : Sign) → front_of (byte ∷ rest) ≡ Some (short_sign s) → IsReached (byte ∷ []) rest (token.Sign s)
short-reached byte rest s e = record { found = short_sign s; is = e; within = omega arith; same = λ e. refl }

long-reached : (byte : ℕ) (rest : List ℕ) (s : Sign) → front_of (byte ∷ 61 ∷ rest) ≡ Some (long_sign s) → IsReached (byte ∷ 61 ∷ []) rest (token.Sign s)
long-reached byte rest s e = record { found = long_sign s; is = e; within = omega arith; same = λ e. refl }

-- a sign of one byte that may be the first of two
either-reached : (byte : ℕ) (rest : List ℕ) (longer s : Sign) → front_of (byte ∷ rest) ≡ longer_sign (Some longer) (Some s) rest
    → IsReached (byte ∷ []) rest (token.Sign s)
either-reached byte rest longer s e = elim (cases_Bool (begins_equals rest)) [
  | inl hit ↦ record { found = long_sign longer; is = e ∙ rw hit refl; within = omega arith; same = λ e. absurd (omega (arith, e)) }
  | inr miss ↦ short-reached byte rest s (e ∙ rw miss refl)
]

sign-reached : (s : Sign) (rest : List ℕ) → IsReached (sign_text s) rest (token.Sign s)
sign-reached sign.Plus rest = short-reached 43 rest sign.Plus refl
sign-reached sign.Minus rest = short-reached 45 rest sign.Minus refl
sign-reached sign.Star rest = short-reached 42 rest sign.Star refl
sign-reached sign.Slash rest = short-reached 47 rest sign.Slash refl
sign-reached sign.ParenLeft rest = short-reached 40 rest sign.ParenLeft refl
sign-reached sign.ParenRight rest = short-reached 41 rest sign.ParenRight refl
sign-reached sign.Comma rest = short-reached 44 rest sign.Comma refl
sign-reached sign.Semicolon rest = short-reached 59 rest sign.Semicolon refl
sign-reached sign.Equals rest = short-reached 61 rest sign.Equals refl
sign-reached sign.Differs rest = long-reached 33 rest sign.Differs refl
sign-reached sign.Less rest = either-reached 60 rest sign.LessEq sign.Less refl
sign-reached sign.LessEq rest = long-reached 60 rest sign.LessEq refl
sign-reached sign.More rest = either-reached 62 rest sign.MoreEq sign.More refl
sign-reached sign.MoreEq rest = long-reached 62 rest sign.MoreEq refl

word-reached : (letters rest : List ℕ) → IsWord letters → IsReached letters rest (word_token (map lower letters))
word-reached [] rest h = absurd (false≢true h)
word-reached (byte ∷ more) rest h =
    let parts = and_parts (is_letter (lower byte)) (list_all (λ b. is_letter b || is_digit b) (map lower more)) h in
    let all : list_all is_word_byte more ≡ true = sym (list_all-map (λ b. is_letter b || is_digit b) lower more) ∙ parts.1 in
    let goes_on : word_rest (more ++ rest) ≡ more ++ word_rest rest = front_while-append is_word_byte more rest all in
    record {
      found = word_front byte (word_rest (more ++ rest));
      is = letter-first byte (more ++ rest) parts.0;
      within = omega (arith, ap length goes_on, length-append more (word_rest rest));
      same = λ e.
          let whole_word : word_rest (more ++ rest) ≡ more =
          same_front (word_rest (more ++ rest)) (drop (length (word_rest (more ++ rest))) (more ++ rest)) more rest
          (front_while-back is_word_byte (more ++ rest)) (omega (arith, e)) in
          ap (λ (ws : List ℕ). word_token (map lower (byte ∷ ws))) whole_word;
    }

-- a number is a digit and a rest, which the rest of the number that is taken has in front
record IsNumberRest (digits rest : List ℕ) : Type 0 where
  first : ℕ
  more : List ℕ
  is : digits ≡ first ∷ more
  digit : is_digit first ≡ true
  within : length more ≤ length (number_rest (more ++ rest))

number-rest : (digits rest : List ℕ) → IsNumber digits → IsNumberRest digits rest
number-rest digits rest (whole _ h) =
    let d = digits-first digits h in
    let goes_on : front_while is_digit (d.1 ++ rest) ≡ d.1 ++ front_while is_digit rest = front_while-append is_digit d.1 rest d.4 in
    record {
      first = d.0;
      more = d.1;
      is = d.2;
      digit = d.3;
      within = omega (
        arith,
        ap length goes_on,
        length-append d.1 (front_while is_digit rest),
        length-append (front_while is_digit (d.1 ++ rest))
            (decimals_at (drop (length (front_while is_digit (d.1 ++ rest))) (d.1 ++ rest))),
      );
    }
number-rest _ rest (with_point digits decimals h k) =
    let d = digits-first digits h in
    let e = digits-first decimals k in
    let goes_on : front_while is_digit (decimals ++ rest) ≡ decimals ++ front_while is_digit rest = front_while-append is_digit decimals rest k.1 in
    let tail : decimals_at (46 ∷ (decimals ++ rest)) ≡ 46 ∷ (decimals ++ front_while is_digit rest) = rw goes_on (rw e.2 refl) in
    let goes_on : number_rest (d.1 ++ (46 ∷ (decimals ++ rest))) ≡ d.1 ++ (46 ∷ (decimals ++ front_while is_digit rest)) =
    number_rest-digits d.1 (46 ∷ (decimals ++ rest)) d.4 refl ∙ ap (λ (ys : List ℕ). d.1 ++ ys) tail in
    record {
      first = d.0;
      more = d.1 ++ 46 ∷ decimals;
      is = ap (λ (ds : List ℕ). ds ++ 46 ∷ decimals) d.2;
      digit = d.3;
      within = rw append_assoc (rw goes_on (omega (
        arith,
        length-append d.1 (46 ∷ decimals),
        length-append d.1
            (46 ∷ (decimals ++ front_while is_digit rest)),
        length-append decimals (front_while is_digit rest),
      )));
    }

number-reached : (digits rest : List ℕ) → IsNumber digits → IsReached digits rest (token.Number digits)
number-reached digits rest h =
    let n = number-rest digits rest h in
    let back = number_rest-back (n.more ++ rest) in
    rw n.is (record {
      found = number_front n.first (number_rest (n.more ++ rest));
      is = digit-first n.first (n.more ++ rest) n.digit;
      within = omega (arith, n.within);
      same = λ e.
          let whole_number : number_rest (n.more ++ rest) ≡ n.more = same_front (number_rest (n.more ++ rest)) back.0 n.more rest back.1 (omega (arith, e)) in
          ap (λ (ds : List ℕ). token.Number (n.first ∷ ds)) whole_number;
    })

-- bytes that spell a token are reached
pub reached : (bytes rest : List ℕ) (kind : TokenKind) → SpellsToken bytes kind → IsReached bytes rest kind
reached _ rest _ (of_date date h) = date-reached date rest h
reached _ rest _ (of_number digits h) = number-reached digits rest h
reached _ rest _ (of_word letters h) = word-reached letters rest h
reached _ rest _ (of_sign s) = sign-reached s rest

-- the token that is taken is the longest
pub front-longest : (byte : ℕ) (rest : List ℕ) (front : Front) → token_at byte rest ≡ Some front
    → IsLongest (byte ∷ take front.more rest) (drop front.more rest)
front-longest byte rest front e other back kind cut s =
    let r = reached other back kind s in
    let text : other ++ back ≡ byte ∷ rest = cut ∙ ap (λ (ys : List ℕ). byte ∷ ys) (take-append-drop front.more rest) in
    let same : Some r.found ≡ Some front = sym r.is ∙ (ap front_of text ∙ e) in
    let more : r.found.more ≡ front.more = ap (λ (f : Front). f.more) (same_Some r.found front same) in
    omega (arith, r.within, more, length-take-le front.more rest (front-spelled byte rest front e).1)

-- a token has bytes
pub token-bytes : (bytes : List ℕ) (kind : TokenKind) → SpellsToken bytes kind → 0 < length bytes
token-bytes [] kind s = absurd (none-some (reached [] [] kind s).found (reached [] [] kind s).is)
token-bytes (byte ∷ more) kind s = omega arith
