-- The text of a number spells it, exactly and with the fewest digits.
use Rattle.std.proofs.Common.{◌≡◌, ℕ, zero, suc, ◌+◌, ◌-◌, ◌*◌, ◌/◌, ◌%◌, ◌^◌, ◌<◌, ◌≤◌, ◌==◌, Bool, true, false, inl, inr, List, [], ◌∷◌, ◌++◌}
use Rattle.std.proofs.Common.{length, ℤ, pos, negsuc, neg_ℤ, ◌*ℤ◌, unsigned_abs, refl, sym, ◌∙◌, ap, arith, length-append, eqb-true, rules, pow-add}
use Rattle.std.specs.Prelude.{int_lt}
use Rattle.std.specs.Fmt.{decimal}
use Rattle.std.proofs.lemmas.Bool.{cases_Bool}
use Rattle.std.proofs.lemmas.Bool.Decides.{nat_tests}
use Rattle.std.proofs.lemmas.Fmt.{digits_decimal, digits_value-decimal, decimal_nonempty, length-decimal-le}
use Rattle.std.proofs.lemmas.Int.{unsigned_abs-mul}
use Rattle.std.proofs.lemmas.List.{append-nil}
use Rattle.std.proofs.lemmas.Str.Parse.{IsNumeralModel, numerals_by_fold}
use Rattle.std.proofs.Math.Nat.{pow-suc, div-eq_of_lt-le}
use Rattle.pay_fixed.specs.declared.NumberFault.TheVariants.{TooLarge}
use Rattle.pay_fixed.specs.Round.{scale, nearest, round, IsRaw}
use Rattle.pay_fixed.specs.Grammar.{Decimal, AreDigits, number_on, number, signed, SpellsSign, no_sign, minus, SpellsFraction, no_fraction}
use Rattle.pay_fixed.specs.Grammar.{point, no_exponent, SpellsDecimal, tens_up, tens_down, numerator, denominator, raw_of, IsExactly}
use Rattle.pay_fixed.specs.Decimal.{four_digits, keep, without_zeros, sign_text, point_text, decimal_of, decimal_text}
use Rattle.pay_fixed.specs.Laws.{DecimalReadsBack, DecimalHasFewestPlaces}
use Rattle.pay_fixed.proofs.Digits.{number_on-append, number_on-is}
use Rattle.pay_fixed.proofs.Rounding.{neg-times-pos}
use Rattle.pay_fixed.proofs.SpelledRead.{spelled-read}
use Rattle.pay_fixed.proofs.AsSpelled.{limited-within}
use Rattle.pay_fixed.proofs.Value.{round-neg, ten-pos, unsigned_abs-signed}

-- `number` gives digits the value that std's lemmas on `decimal` speak of
numerals : IsNumeralModel AreDigits number
numerals = numerals_by_fold AreDigits (search rules) number_on (search rules)

-- the digits without the zeros at their end, and those zeros
keep-zeros : (n d : ℕ) (ds ws : List ℕ) → length ws ≤ length ds
    → number_on (10 * n + (d - 48)) ws * 10 ^ (length ds - length ws) ≡ number_on (10 * n + (d - 48)) ds
    → (number_on n (keep d ws) * 10 ^ (suc (length ds) - length (keep d ws)) ≡ number_on n (d ∷ ds)) × (length (keep d ws) ≤ suc (length ds))
keep-zeros n d ds [] short h = elim (cases_Bool (d == 48)) [
  | inl hit ↦
      let is : d ≡ 48 = eqb-true d 48 hit in
      let none : d - 48 ≡ 0 = omega arith in
      let all : suc (length ds) - 0 ≡ suc (length ds) = omega arith in
      let most : length ds - 0 ≡ length ds = omega arith in
      let one : n * 10 ^ (suc (length ds) - 0) ≡ (10 * n + (d - 48)) * 10 ^ (length ds - 0) = rw (all, most, none, pow-suc) (omega arith) in
      (rw hit (one ∙ h), rw hit (omega arith))
  | inr miss ↦
      let less : suc (length ds) - 1 ≡ length ds - 0 = omega arith in
      (rw (miss, less) h, rw miss (omega arith))
]
keep-zeros n d ds (x ∷ xs) short h =
    let less : suc (length ds) - suc (length (x ∷ xs)) ≡ length ds - length (x ∷ xs) = omega arith in
    (rw less h, omega arith)

zeros-back : (n : ℕ) (ds : List ℕ)
    → (number_on n (without_zeros ds) * 10 ^ (length ds - length (without_zeros ds)) ≡ number_on n ds) × (length (without_zeros ds) ≤ length ds)
zeros-back n [] = (omega arith, omega arith)
zeros-back n (d ∷ ds) =
    let k = zeros-back (10 * n + (d - 48)) ds in
    keep-zeros n d ds (without_zeros ds) k.1 k.0

four-number : (r : ℕ) → r < 10_000 → number (four_digits r) ≡ r
four-number r h = omega arith

four-are-digits : (r : ℕ) → r < 10_000 → AreDigits (four_digits r)
four-are-digits r h = ((omega arith, omega arith), ((omega arith, omega arith), ((omega arith, omega arith), ((omega arith, omega arith), tt))))

keep-digits : (d : ℕ) (ds : List ℕ) → AreDigits (d ∷ []) → AreDigits ds → AreDigits (keep d ds)
keep-digits d [] h k = elim (cases_Bool (d == 48)) [ inl hit ↦ rw hit tt | inr miss ↦ rw miss h ]
keep-digits d (x ∷ xs) h k = (h.0, k)

kept-digits : (ds : List ℕ) → AreDigits ds → AreDigits (without_zeros ds)
kept-digits [] h = tt
kept-digits (d ∷ ds) h = keep-digits d (without_zeros ds) (h.0, tt) (kept-digits ds h.1)

-- a raw is its sign and magnitude
sign-back : (z : ℤ) → signed (int_lt z (pos 0)) (unsigned_abs z) ≡ z
sign-back (pos n) = let none : int_lt (pos n) (pos 0) ≡ false = grind (arith, nat_tests) in rw none refl
sign-back (negsuc n) = refl

signed-exact : (b : Bool) (n m u q : ℕ) → n * 10_000 * u ≡ m * q → (signed b n *ℤ scale) *ℤ pos u ≡ signed b m *ℤ pos q
signed-exact false n m u q h = ap pos h
signed-exact true n m u q h = rw (neg-times-pos n 10_000, neg-times-pos (n * 10_000) u, neg-times-pos m q, h) refl

-- the whole part and the decimals of a magnitude, with the digits of the decimals that are kept
joined : (w r f l : ℕ) → l ≤ 4 → f * 10 ^ (4 - l) ≡ r → (w * 10 ^ l + f) * 10_000 * 10 ^ 0 ≡ (w * 10_000 + r) * 10 ^ (l + 0)
joined w r f l h e =
    let sum : 4 - l + l ≡ 4 = omega arith in
    let tens : 10 ^ 4 ≡ 10 ^ (4 - l) * 10 ^ l = rw sum at (pow-add 10 (4 - l) l) in
    let moved : f * 10 ^ (4 - l) * 10 ^ l ≡ r * 10 ^ l = ap (λ x. x * 10 ^ l) e in
    let spread : f * 10 ^ 4 ≡ f * (10 ^ (4 - l) * 10 ^ l) = ap (λ x. f * x) tens in
    let same : l + 0 ≡ l = omega arith in
    rw same (omega (arith, moved, spread))

nearest-exact : (n q : ℕ) → 0 < q → nearest (n * q) q ≡ n
nearest-exact n q h =
    let low : n * (2 * q) ≤ 2 * (n * q) + q = omega arith in
    let high : 2 * (n * q) + q < (n + 1) * (2 * q) = omega arith in
    div-eq_of_lt-le (2 * q) low high

-- the whole number nearest to an exact quotient
round-exact : (z : ℤ) (q : ℕ) → 0 < q → round (z *ℤ pos q) (pos q) ≡ z
round-exact (pos n) q h = ap pos (nearest-exact n q h)
round-exact (negsuc n) q h = round-neg (suc n * q) q h ∙ ap (λ m. neg_ℤ (pos m)) (nearest-exact (suc n) q h)

-- the raw of a decimal that is exactly a raw
pub raw-exact : (d : Decimal) (z : ℤ) → IsExactly d z → raw_of d ≡ z
unfolding raw_of
raw-exact d z h =
    let tens = 10 ^ (length d.fraction + tens_down d.exponent) in
    rw h (round-exact z tens (ten-pos (length d.fraction + tens_down d.exponent)))

-- the value of a raw's decimal
pub exact-text : (z : ℤ) → IsRaw z → IsExactly (decimal_of z) z
exact-text z h =
    let m = unsigned_abs z in
    let w = m / 10_000 in
    let r = m % 10_000 in
    let whole = decimal w in
    let ds = without_zeros (four_digits r) in
    let small : r < 10_000 = omega arith in
    let fits : w < 2 ^ 64 = omega arith in
    let kept = zeros-back 0 (four_digits r) in
    let back : number ds * 10 ^ (4 - length ds) ≡ r = kept.0 ∙ four-number r small in
    let of_whole : number whole ≡ w = digits_value-decimal numerals w fits in
    let value : number (whole ++ ds) ≡ w * 10 ^ length ds + number ds =
    number_on-append 0 whole ds ∙ (number_on-is (number whole) ds ∙ ap (λ x. x * 10 ^ length ds + number ds) of_whole) in
    let sum : w * 10_000 + r ≡ m = omega arith in
    let magnitude : number (whole ++ ds) * 10_000 * 10 ^ 0 ≡ m * 10 ^ (length ds + 0) =
    rw value (rw sum at (joined w r (number ds) (length ds) kept.1 back)) in
    let all = signed-exact (int_lt z (pos 0)) (number (whole ++ ds)) m (10 ^ 0) (10 ^ (length ds + 0)) magnitude in
    rw (sign-back z) at all

sign-spells : (b : Bool) → SpellsSign (sign_text b) b
sign-spells false = no_sign
sign-spells true = minus

point-spells : (ds : List ℕ) → AreDigits ds → SpellsFraction (point_text ds) ds
point-spells [] h = no_fraction
point-spells (d ∷ ds) h = point (d ∷ ds) (omega arith, h)

length-sign : (b : Bool) → length (sign_text b) ≤ 1
length-sign false = omega arith
length-sign true = omega arith

length-point : (ds : List ℕ) → length (point_text ds) ≤ length ds + 1
length-point [] = omega arith
length-point (d ∷ ds) = omega arith

-- the text of a raw spells its decimal
pub text-spells : (z : ℤ) → IsRaw z → SpellsDecimal (decimal_text z) (decimal_of z)
unfolding decimal_text
text-spells z h =
    let m = unsigned_abs z in
    let w = m / 10_000 in
    let r = m % 10_000 in
    let b = int_lt z (pos 0) in
    let ds = without_zeros (four_digits r) in
    let small : r < 10_000 = omega arith in
    let fits : w < 2 ^ 64 = omega arith in
    let digits : AreDigits (decimal w) = digits_decimal numerals w fits in
    let some : 0 < length (decimal w) = decimal_nonempty w fits in
    let few : length (decimal w) ≤ 15 = length-decimal-le 15 w (omega arith) (omega arith) fits in
    let fraction : AreDigits ds = kept-digits (four_digits r) (four-are-digits r small) in
    let four : length ds ≤ 4 = (zeros-back 0 (four_digits r)).1 in
    record {
      before = [];
      sign = sign_text b;
      fraction = point_text ds;
      exponent = [];
      after = [];
      cut = simp append-nil;
      blank_before = tt;
      blank_after = tt;
      short = simp (append-nil, length-append) (omega (arith, length-sign b, length-point ds, few, four));
      spells_sign = sign-spells b;
      spells_whole = (some, digits);
      spells_fraction = point-spells ds fraction;
      spells_exponent = no_exponent;
    }

-- every raw is read back from its text
pub reads_back : DecimalReadsBack
reads_back z h =
    let same : raw_of (decimal_of z) ≡ z = raw-exact (decimal_of z) z (exact-text z h) in
    spelled-read (decimal_text z) (decimal_of z) (text-spells z h) ∙ rw same (limited-within TooLarge z h)

-- the magnitude of a decimal that is exactly a raw
abs-exact : (d : Decimal) (z : ℤ) → IsExactly d z
    → number (d.whole ++ d.fraction) * 10_000 * 10 ^ tens_up d.exponent ≡ unsigned_abs z * 10 ^ (length d.fraction + tens_down d.exponent)
abs-exact d z h =
    let n = number (d.whole ++ d.fraction) in
    let powered = unsigned_abs-mul (signed d.negative n *ℤ scale) (pos (10 ^ tens_up d.exponent)) in
    let left : unsigned_abs (numerator d) ≡ n * 10_000 * 10 ^ tens_up d.exponent =
    rw (powered, unsigned_abs-mul (signed d.negative n) scale, unsigned_abs-signed d.negative n) refl in
    let right : unsigned_abs (z *ℤ denominator d) ≡ unsigned_abs z * 10 ^ (length d.fraction + tens_down d.exponent) = unsigned_abs-mul z (denominator d) in
    sym left ∙ (ap unsigned_abs h ∙ right)

length-keep : (d : ℕ) (xs : List ℕ) → length (keep d xs) ≤ suc (length xs)
length-keep d [] = elim (cases_Bool (d == 48)) [ inl hit ↦ rw hit (omega arith) | inr miss ↦ rw miss (omega arith) ]
length-keep d (x ∷ xs) = omega arith

at-most-3 : (a b c d : ℕ) → d ≡ 48 → length (keep a (keep b (keep c (keep d [])))) ≤ 3
at-most-3 a b c d h = rw h (omega (arith, length-keep c [], length-keep b (keep c []), length-keep a (keep b (keep c []))))

at-most-2 : (a b c d : ℕ) → d ≡ 48 → c ≡ 48 → length (keep a (keep b (keep c (keep d [])))) ≤ 2
at-most-2 a b c d h k = rw (h, k) (omega (arith, length-keep b [], length-keep a (keep b [])))

at-most-1 : (a b c d : ℕ) → d ≡ 48 → c ≡ 48 → b ≡ 48 → length (keep a (keep b (keep c (keep d [])))) ≤ 1
at-most-1 a b c d h k l = rw (h, k, l) (length-keep a [])

at-most-0 : (a b c d : ℕ) → d ≡ 48 → c ≡ 48 → b ≡ 48 → a ≡ 48 → length (keep a (keep b (keep c (keep d [])))) ≤ 0
at-most-0 a b c d h k l e = rw (h, k, l, e) (omega arith)

-- where fewer digits give a magnitude, no more are kept
fewest-digits : (n m l : ℕ) → n * 10_000 * 10 ^ 0 ≡ m * 10 ^ (l + 0) → length (without_zeros (four_digits (m % 10_000))) ≤ l
fewest-digits n m zero h =
    let r = m % 10_000 in
    at-most-0 (48 + r / 1000) (48 + r / 100 % 10) (48 + r / 10 % 10) (48 + r % 10) (omega arith) (omega arith) (omega arith) (omega arith)
fewest-digits n m (suc zero) h =
    let r = m % 10_000 in
    at-most-1 (48 + r / 1000) (48 + r / 100 % 10) (48 + r / 10 % 10) (48 + r % 10) (omega arith) (omega arith) (omega arith)
fewest-digits n m (suc (suc zero)) h =
    let r = m % 10_000 in
    at-most-2 (48 + r / 1000) (48 + r / 100 % 10) (48 + r / 10 % 10) (48 + r % 10) (omega arith) (omega arith)
fewest-digits n m (suc (suc (suc zero))) h =
    let r = m % 10_000 in
    at-most-3 (48 + r / 1000) (48 + r / 100 % 10) (48 + r / 10 % 10) (48 + r % 10) (omega arith)
fewest-digits n m (suc (suc (suc (suc l)))) h =
    let four : length (without_zeros (four_digits (m % 10_000))) ≤ 4 = (zeros-back 0 (four_digits (m % 10_000))).1 in
    omega arith

fewest : (z : ℤ) (d : Decimal) → d.exponent ≡ pos 0 → IsExactly d z → length (decimal_of z).fraction ≤ length d.fraction
fewest z d plain h =
    fewest-digits (number (d.whole ++ d.fraction)) (unsigned_abs z) (length d.fraction) (rw plain at (abs-exact d z h))

pub fewest-places : DecimalHasFewestPlaces
fewest-places z h = record { spells = text-spells z h; exact = exact-text z h; fewest = fewest z }
