-- Fields that `csv` writes without quotes, and the line of four such fields.
use Rattle.std.proofs.Common.{◌≡◌, ◌==◌, ℕ, zero, suc, ◌+◌, ◌/◌, ◌%◌, ◌≤◌, nat_le, Bool, true, false, ◌||◌, ◌&&◌, not, IsTrue, inl, inr}
use Rattle.std.proofs.Common.{List, [], ◌∷◌, ◌++◌, length, ℤ, pos, unsigned_abs, refl, append_assoc, arith}
use Rattle.std.specs.Prelude.{int_lt, nat_lt}
use Rattle.std.specs.List.{list_all}
use Rattle.std.specs.Fmt.{digits, digits_onto, digit_glyph, decimal}
use Rattle.std.proofs.lemmas.Bool.{cases_Bool, and_parts}
use Rattle.std.proofs.lemmas.Bool.Decides.{nat_tests}
use Rattle.std.proofs.lemmas.List.Folds.{list_any-append}
use Rattle.csv.specs.Writing.{default_writer, needs_byte, fields_text, is_blank, row_text}
use Rattle.pay_fixed.specs.Decimal.{decimal_text, sign_text, point_text, without_zeros, keep, four_digits}
use Rattle.pay_meaning.specs.Words.{is_letter, is_digit, is_lower_word, is_keyword, is_name, IsName}
use Rattle.pay_tables.specs.Labels.{is_label, is_label_byte}
use Rattle.pay_report.specs.Detail.{line}
use Rattle.pay_report.specs.Lines.{IsPlain}

-- the bytes that need quotes come before `-`
plain_byte : (byte : ℕ) → 45 ≤ byte → needs_byte default_writer byte ≡ false
plain_byte byte h = grind (arith, nat_tests)

-- a byte before a field
plain-cons : (byte : ℕ) (rest : List ℕ) → 45 ≤ byte → IsPlain rest → IsPlain (byte ∷ rest)
plain-cons byte rest h plain = rw (plain_byte byte h) plain

-- one field after another
plain-append : (first second : List ℕ) → IsPlain first → IsPlain second → IsPlain (first ++ second)
plain-append first second h k = rw (list_any-append (needs_byte default_writer) first second, h) k

-- bytes that all pass a test
plain_tested : (test : ℕ → Bool) → ((byte : ℕ) → test byte ≡ true → 45 ≤ byte) → (field : List ℕ)
    → list_all test field ≡ true → IsPlain field
plain_tested test least [] h = refl
plain_tested test least (byte ∷ rest) h =
    let parts = and_parts (test byte) (list_all test rest) h in
    plain-cons byte rest (least byte parts.0) (plain_tested test least rest parts.1)

-- a byte of a label
label_byte : (byte : ℕ) → is_label_byte byte ≡ true → 45 ≤ byte
label_byte byte h = grind (arith, nat_tests)

-- a byte of a name
word_byte : (byte : ℕ) → (is_letter byte || is_digit byte) ≡ true → 45 ≤ byte
word_byte byte h = grind (arith, nat_tests)

-- a label
pub label_is_plain : (label : List ℕ) → IsTrue (is_label label) → IsPlain label
unfolding is_label
label_is_plain label h =
    plain_tested is_label_byte label_byte label (and_parts (nat_le 1 (length label) && nat_le (length label) 64) (list_all is_label_byte label) h).1

-- a name
pub name_is_plain : (name : List ℕ) → IsName name → IsPlain name
unfolding is_name
name_is_plain [] h = refl
name_is_plain (first ∷ rest) h =
    let short = and_parts (nat_le (length (first ∷ rest)) 64 && is_lower_word (first ∷ rest)) (not (is_keyword (first ∷ rest))) h in
    let word = and_parts (nat_le (length (first ∷ rest)) 64) (is_lower_word (first ∷ rest)) short.0 in
    let parts = and_parts (is_letter first) (list_all (λ byte. is_letter byte || is_digit byte) rest) word.1 in
    plain-cons first rest (word_byte first (rw parts.0 refl)) (plain_tested (λ byte. is_letter byte || is_digit byte) word_byte rest parts.1)

-- a digit before a field
plain-digit : (digit : ℕ) (rest : List ℕ) → IsPlain rest → IsPlain ((48 + digit) ∷ rest)
plain-digit digit rest h = plain-cons (48 + digit) rest (omega arith) h

-- what stands for a digit, before a field
plain-glyph : (digit : ℕ) (rest : List ℕ) → IsPlain rest → IsPlain (digit_glyph false digit ∷ rest)
plain-glyph digit rest h = elim (cases_Bool (nat_lt digit 10)) [
  | inl small ↦ rw small (plain-digit digit rest h)
  | inr large ↦ rw large (plain-cons (87 + digit) rest (omega arith) h)
]

-- the digits of a number before a field
plain-digits : (most number : ℕ) (rest : List ℕ) → IsPlain rest → IsPlain (digits_onto most 10 false number rest)
plain-digits zero number rest h = h
plain-digits (suc most) number rest h =
    let more = plain-glyph (number % 10) rest h in
    elim (cases_Bool (number / 10 == 0)) [
      | inl last ↦ rw last more
      | inr front ↦ rw front (plain-digits most (number / 10) (digit_glyph false (number % 10) ∷ rest) more)
    ]

-- a count
pub count_is_plain : (number : ℕ) → IsPlain (decimal number)
unfolding digits
count_is_plain number = plain-digits 64 number [] refl

-- a digit before a fraction, unless it is a zero at the end
plain-keep : (digit : ℕ) (rest : List ℕ) → IsPlain rest → IsPlain (keep (48 + digit) rest)
plain-keep digit [] h = elim (cases_Bool (48 + digit == 48)) [ inl hit ↦ rw hit refl | inr miss ↦ rw miss (plain-digit digit [] refl) ]
plain-keep digit (next ∷ rest) h = plain-digit digit (next ∷ rest) h

-- four digits without the zeros at their end
plain-kept : (number : ℕ) → IsPlain (without_zeros (four_digits number))
plain-kept number =
    plain-keep (number / 1000) _ (plain-keep (number / 100 % 10) _ (plain-keep (number / 10 % 10) _ (plain-keep (number % 10) [] refl)))

-- a point and a fraction, if there is one
plain-point : (fraction : List ℕ) → IsPlain fraction → IsPlain (point_text fraction)
plain-point [] h = refl
plain-point (digit ∷ rest) h = h

-- a sign
plain-sign : (negative : Bool) → IsPlain (sign_text negative)
plain-sign true = refl
plain-sign false = refl

-- the text of an amount
pub amount_is_plain : (amount : ℤ) → IsPlain (decimal_text amount)
unfolding decimal_text
amount_is_plain amount =
    let magnitude = unsigned_abs amount in
    let whole = decimal (magnitude / 10_000) in
    let fraction = without_zeros (four_digits (magnitude % 10_000)) in
    plain-append (sign_text (int_lt amount (pos 0))) (whole ++ point_text fraction) (plain-sign (int_lt amount (pos 0)))
    (plain-append whole (point_text fraction) (count_is_plain (magnitude / 10_000)) (plain-point fraction (plain-kept (magnitude % 10_000))))

-- the record of four such fields is their line
pub plain_line : (first second third fourth : List ℕ) → IsPlain first → IsPlain second → IsPlain third → IsPlain fourth
    → row_text default_writer (first ∷ second ∷ third ∷ fourth ∷ []) ≡ line first second third fourth
unfolding fields_text is_blank
plain_line first second third fourth a b c d = rw (a, b, c, d) (simp append_assoc)
