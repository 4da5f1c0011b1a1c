-- Digits and blanks at the front of a text.
use Rattle.std.proofs.Common.{◌≡◌, ℕ, zero, suc, ◌+◌, ◌-◌, ◌*◌, ◌^◌, ◌<◌, ◌≤◌, ◌==◌, true, false, inl, inr, List, [], ◌∷◌, ◌++◌, length, drop, refl}
use Rattle.std.proofs.Common.{arith}
use Rattle.std.proofs.lemmas.Bool.{cases_Bool}
use Rattle.std.proofs.lemmas.Bool.Decides.{nat_tests}
use Rattle.std.proofs.Math.Nat.{pow-suc, mul-le-mul_right, pow-le-pow_right}
use Rattle.pay_fixed.specs.Grammar.{IsDigit, AreDigits, number_on, number}
use Rattle.pay_fixed.specs.Reading.{is_blank, is_digit, after_blanks, all_blank, digits_at}

some-left : (n : ℕ) → (suc n == 0) ≡ false
some-left n = grind (arith, nat_tests)

-- a text is blank where nothing is left after its blanks
pub no_more_blanks : (t : List ℕ) → (length (after_blanks t) == 0) ≡ all_blank t
no_more_blanks [] = refl
no_more_blanks (c ∷ cs) = elim (cases_Bool (is_blank c)) [
  | inl hit ↦ rw hit (no_more_blanks cs)
  | inr miss ↦ rw miss (some-left (length cs))
]

pub digit_from_test : (c : ℕ) → is_digit c ≡ true → IsDigit c
digit_from_test c h = grind (arith, nat_tests)

pub digits_at-digits : (t : List ℕ) → AreDigits (digits_at t)
digits_at-digits [] = tt
digits_at-digits (c ∷ cs) = elim (cases_Bool (is_digit c)) [
  | inl hit ↦ rw hit (digit_from_test c hit, digits_at-digits cs)
  | inr miss ↦ rw miss tt
]

-- digits after others
pub number_on-append : (n : ℕ) (xs ys : List ℕ) → number_on n (xs ++ ys) ≡ number_on (number_on n xs) ys
number_on-append n [] ys = refl
number_on-append n (c ∷ cs) ys = number_on-append (10 * n + (c - 48)) cs ys

pub number_on-is : (n : ℕ) (ds : List ℕ) → number_on n ds ≡ n * 10 ^ length ds + number ds
number_on-is n [] = omega arith
number_on-is n (c ∷ cs) = rw (number_on-is (10 * n + (c - 48)) cs, number_on-is (0 + (c - 48)) cs, pow-suc) (omega arith)

pub number-below : (ds : List ℕ) → AreDigits ds → number ds < 10 ^ length ds
number-below [] h = omega arith
number-below (c ∷ cs) h =
    let one : c - 48 ≤ 9 = omega arith in
    let most : (c - 48) * 10 ^ length cs ≤ 9 * 10 ^ length cs = mul-le-mul_right (10 ^ length cs) one in
    rw (number_on-is (0 + (c - 48)) cs, pow-suc) (omega (arith, most, number-below cs h.1))

-- one or two digits write a number below a hundred
pub small_power : (t : List ℕ) → length (digits_at t) ≤ 2 → number (digits_at t) < 100
small_power t h =
    let below : number (digits_at t) < 10 ^ length (digits_at t) = number-below (digits_at t) (digits_at-digits t) in
    let few : 10 ^ length (digits_at t) ≤ 10 ^ 2 = pow-le-pow_right (omega arith) h in
    omega (arith, below, few)

pub AreDigits-drop : (n : ℕ) (ds : List ℕ) → AreDigits ds → AreDigits (drop n ds)
AreDigits-drop zero ds h = h
AreDigits-drop (suc n) [] h = tt
AreDigits-drop (suc n) (c ∷ cs) h = AreDigits-drop n cs h.1

pub AreDigits-append : (xs ys : List ℕ) → AreDigits xs → AreDigits ys → AreDigits (xs ++ ys)
AreDigits-append [] ys h k = k
AreDigits-append (c ∷ cs) ys h k = (h.0, AreDigits-append cs ys h.1 k)
