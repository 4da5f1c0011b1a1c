-- The digits that are read first say what the raw is.
use Rattle.std.proofs.Common.{◌≡◌, ℕ, zero, suc, ◌+◌, ◌-◌, ◌*◌, ◌/◌, ◌^◌, ◌<◌, ◌≤◌, min, inl, inr, Bool, true, false, List, ◌++◌, length, take}
use Rattle.std.proofs.Common.{drop, ℤ, pos, negsuc, neg_ℤ, ◌*ℤ◌, unsigned_abs, refl, sym, ◌∙◌, ap, arith, length-append, length-drop, add-one-le}
use Rattle.std.specs.Prelude.{nat_le, Result, Err}
use Rattle.std.proofs.lemmas.Bool.{cases_lt}
use Rattle.std.proofs.lemmas.Bool.Decides.{nat_tests}
use Rattle.std.proofs.lemmas.Int.{ints}
use Rattle.std.proofs.lemmas.List.{take-append-drop, take_all}
use Rattle.std.proofs.lemmas.Nat.{pow-add, div-mul-add}
use Rattle.std.proofs.Math.Nat.{mul-div-mul_right, mul-le-mul_right, div-mul-le_self, lt-div-mul-add}
use Rattle.std.proofs.Math.Nat.{div-eq_of_lt-le, div-eq_of_lt, one-le-pow, pow-le-pow_right}
use Rattle.pay_fixed.specs.Round.{scale, limit, nearest, round, limited}
use Rattle.pay_fixed.specs.Grammar.{Decimal, AreDigits, number, signed, tens_up, tens_down, raw_of}
use Rattle.pay_fixed.specs.Parts.{beyond, leading, shifted_length}
use Rattle.pay_fixed.proofs.Rounding.{neg-times-pos}
use Rattle.pay_fixed.proofs.Digits.{number_on-append, number_on-is, number-below, AreDigits-drop, AreDigits-append}

nearest-between : (a b q m : ℕ) → q * b ≤ 10 * a → 10 * a < q * b + b → m * 10 ≤ q + 5 → q + 5 < m * 10 + 10
    → (m * (2 * b) ≤ 2 * a + b) × (2 * a + b < (m + 1) * (2 * b))
nearest-between a b q m low high under over =
    let up : m * 10 * b ≤ (q + 5) * b = mul-le-mul_right b under in
    let next : q + 1 ≤ m * 10 + 5 = omega arith in
    let down : (q + 1) * b ≤ (m * 10 + 5) * b = mul-le-mul_right b next in
    (omega arith, omega arith)

tenth : (q : ℕ) → ((q + 5) / 10 * 10 ≤ q + 5) × (q + 5 < (q + 5) / 10 * 10 + 10)
tenth q = omega arith

-- the nearest whole number, from the number of whole tenths
pub nearest-tenths : (a b : ℕ) → 0 < b → nearest a b ≡ (10 * a / b + 5) / 10
nearest-tenths a b h =
    let q = 10 * a / b in
    let m = (10 * a / b + 5) / 10 in
    let t = tenth q in
    let k = nearest-between a b q m (div-mul-le_self (10 * a) b) (lt-div-mul-add h) t.0 t.1 in
    div-eq_of_lt-le (2 * b) k.0 k.1

pub ten-pos : (n : ℕ) → 0 < 10 ^ n
ten-pos n = one-le-pow n 10 (omega arith)

raised : (n a b d : ℕ) → n * 10 ^ a / 10 ^ b ≡ n * 10 ^ (a + d) / 10 ^ (b + d)
raised n a b d =
    let group : n * (10 ^ a * 10 ^ d) ≡ n * 10 ^ a * 10 ^ d = omega arith in
    rw (pow-add 10 a d, pow-add 10 b d, group) (sym (mul-div-mul_right (n * 10 ^ a) (10 ^ b) (ten-pos d)))

-- a quotient of powers of ten depends on their difference alone
pub same-quotient : (n a b c d : ℕ) → a + d ≡ c + b → n * 10 ^ a / 10 ^ b ≡ n * 10 ^ c / 10 ^ d
same-quotient n a b c d h =
    let swap : b + d ≡ d + b = omega arith in
    raised n a b d ∙ rw (h, swap) (sym (raised n c d b))

front-is : (ds : List ℕ) (k j : ℕ) → AreDigits ds → k + j ≡ length ds → number (take k ds) ≡ number ds / 10 ^ j
front-is ds k j h e =
    let len : length (drop k ds) ≡ j = omega (arith, length-drop k ds) in
    let below : number (drop k ds) < 10 ^ j = rw len at (number-below (drop k ds) (AreDigits-drop k ds h)) in
    let split : number ds ≡ number (take k ds) * 10 ^ j + number (drop k ds) =
    ap number (sym (take-append-drop k ds))
    ∙ (number_on-append 0 (take k ds) (drop k ds) ∙ (rw len at (number_on-is (number (take k ds)) (drop k ds)))) in
    sym (rw split (div-mul-add (number (take k ds)) (10 ^ j) (number (drop k ds)) below))

-- the first digits are the number over a power of ten
pub leading-is : (k : ℕ) (ds : List ℕ) → AreDigits ds → leading k ds ≡ number ds * 10 ^ k / 10 ^ length ds
leading-is k ds h = elim (cases_lt (length ds) k) [
  | inr few ↦
      let j = length ds - k in
      let none : k - length ds ≡ 0 = omega arith in
      let cut : number (take k ds) ≡ number ds / 10 ^ j = front-is ds k j h (omega arith) in
      let same : number ds * 10 ^ 0 / 10 ^ j ≡ number ds * 10 ^ k / 10 ^ length ds = same-quotient (number ds) 0 j k (length ds) (omega arith) in
      let whole : number ds * 10 ^ 0 ≡ number ds = omega arith in
      let once : number (take k ds) * 10 ^ (k - length ds) ≡ number (take k ds) = rw none (omega arith) in
      once ∙ cut ∙ (rw whole at same)
  | inl many ↦
      let all : take k ds ≡ ds = take_all k ds (omega arith) in
      let same : number ds * 10 ^ (k - length ds) / 10 ^ 0 ≡ number ds * 10 ^ k / 10 ^ length ds =
      same-quotient (number ds) (k - length ds) 0 k (length ds) (omega arith) in
      let once : number ds * 10 ^ (k - length ds) / 10 ^ 0 ≡ number ds * 10 ^ (k - length ds) = omega arith in
      rw all (sym once ∙ same)
]

five-more : (n u : ℕ) → n * 10 ^ (u + 5) ≡ 10 * (n * 10_000 * 10 ^ u)
five-more n u = rw (pow-add 10 u 5) (omega arith)

tiny : (n u l b : ℕ) → n < 10 ^ l → l + (u + 5) ≤ b → 10 * (n * 10_000 * 10 ^ u) / 10 ^ b ≡ 0
tiny n u l b h k =
    let p = 10 ^ (u + 5) in
    let above : (n + 1) * p ≤ 10 ^ l * p = mul-le-mul_right p (add-one-le h) in
    let joined : 10 ^ (l + (u + 5)) ≡ 10 ^ l * p = pow-add 10 l (u + 5) in
    let enough : 10 ^ (l + (u + 5)) ≤ 10 ^ b = pow-le-pow_right (omega arith) k in
    let some : 0 < p = ten-pos (u + 5) in
    let below : 10 * (n * 10_000 * 10 ^ u) < 10 ^ b = rw (← five-more n u) (omega arith) in
    div-eq_of_lt below

-- a decimal's magnitude in tenths of a raw
pub leading-tenths : (w f : List ℕ) (e : ℤ) → AreDigits (w ++ f)
    → leading (shifted_length (length w) e) (w ++ f) ≡ 10 * (number (w ++ f) * 10_000 * 10 ^ tens_up e) / 10 ^ (length f + tens_down e)
leading-tenths w f (pos e) h =
    leading-is (length w + 5 + e) (w ++ f) h
    ∙ (same-quotient (number (w ++ f)) (length w + 5 + e) (length (w ++ f)) (e + 5) (length f + 0) (omega (arith, length-append w f))
    ∙ ap (λ n. n / 10 ^ (length f + 0)) (five-more (number (w ++ f)) e))
leading-tenths w f (negsuc e) h = elim (cases_lt (length w + 4) e) [
  | inr near ↦
      leading-is (length w + 4 - e) (w ++ f) h
      ∙ (same-quotient (number (w ++ f)) (length w + 4 - e) (length (w ++ f)) (0 + 5) (length f + suc e) (omega (arith, length-append w f))
      ∙ ap (λ n. n / 10 ^ (length f + suc e)) (five-more (number (w ++ f)) 0))
  | inl far ↦
      let none : length w + 4 - e ≡ 0 = omega arith in
      let nothing : leading 0 (w ++ f) ≡ 0 = omega arith in
      rw none (nothing ∙ sym (tiny (number (w ++ f)) 0 (length (w ++ f)) (length f + suc e) (number-below (w ++ f) h) (omega (arith, length-append w f))))
]

pub unsigned_abs-signed : (b : Bool) (n : ℕ) → unsigned_abs (signed b n) ≡ n
unsigned_abs-signed false n = refl
unsigned_abs-signed true n = omega (arith, ints)

past-limit : {E : Type 0} (e : E) (b : Bool) (n : ℕ) → limit < n → limited e (signed b n) ≡ Err e
past-limit e b n h =
    let miss : nat_le n limit ≡ false = grind (arith, nat_tests) in
    rw (unsigned_abs-signed b n, miss) refl

-- past the bound every value is past the limit
pub limited-capped : {E : Type 0} (e : E) (b : Bool) (n : ℕ) → limited e (signed b ((min n beyond + 5) / 10)) ≡ limited e (signed b ((n + 5) / 10))
limited-capped e b n = elim (cases_lt beyond n) [
  | inr within ↦ let same : min n beyond ≡ n = omega arith in rw same refl
  | inl past ↦
      let least : min n beyond ≡ beyond = omega arith in
      rw least (past-limit e b ((beyond + 5) / 10) (omega arith) ∙ sym (past-limit e b ((n + 5) / 10) (omega arith)))
]

pub round-neg : (a q : ℕ) → 0 < q → round (neg_ℤ (pos a)) (pos q) ≡ neg_ℤ (pos (nearest a q))
round-neg zero q h =
    let low : 2 * 0 + q < 2 * q = omega arith in
    let none : (2 * 0 + q) / (2 * q) ≡ 0 = div-eq_of_lt low in
    rw none refl
round-neg (suc a) q h = refl

round-signed : (b : Bool) (n u q : ℕ) → 0 < q → round ((signed b n *ℤ scale) *ℤ pos u) (pos q) ≡ signed b (nearest (n * 10_000 * u) q)
round-signed false n u q h = refl
round-signed true n u q h = rw (neg-times-pos n 10_000, neg-times-pos (n * 10_000) u) (round-neg (n * 10_000 * u) q h)

-- the raw of a decimal has its sign, and the nearest magnitude
pub raw_of-signed : (d : Decimal)
    → raw_of d ≡ signed d.negative
    (nearest (number (d.whole ++ d.fraction) * 10_000 * 10 ^ tens_up d.exponent) (10 ^ (length d.fraction + tens_down d.exponent)))
unfolding raw_of
raw_of-signed d =
    let places = length d.fraction + tens_down d.exponent in
    round-signed d.negative (number (d.whole ++ d.fraction)) (10 ^ tens_up d.exponent) (10 ^ places) (ten-pos places)

-- what `rounded` reckons is the raw, or it is beyond the limit as the raw is
pub read-value : {E : Type 0} (e : E) (d : Decimal) (k t : ℕ) (r : Result ℤ E) → AreDigits d.whole → AreDigits d.fraction
    → k ≡ shifted_length (length d.whole) d.exponent → t ≡ min (leading k (d.whole ++ d.fraction)) beyond
    → r ≡ limited e (signed d.negative ((t + 5) / 10)) → r ≡ limited e (raw_of d)
read-value e d k t r w f k_is t_is r_is =
    let n = number (d.whole ++ d.fraction) * 10_000 * 10 ^ tens_up d.exponent in
    let b = 10 ^ (length d.fraction + tens_down d.exponent) in
    let digits = AreDigits-append d.whole d.fraction w f in
    let value : leading k (d.whole ++ d.fraction) ≡ 10 * n / b = rw k_is (leading-tenths d.whole d.fraction d.exponent digits) in
    let near : nearest n b ≡ (10 * n / b + 5) / 10 = nearest-tenths n b (ten-pos (length d.fraction + tens_down d.exponent)) in
    let there : limited e (raw_of d) ≡ limited e (signed d.negative ((10 * n / b + 5) / 10)) = rw (raw_of-signed d, near) refl in
    let here : limited e (signed d.negative ((t + 5) / 10)) ≡ limited e (signed d.negative ((10 * n / b + 5) / 10)) =
    rw (t_is, value) (limited-capped e d.negative (10 * n / b)) in
    r_is ∙ here ∙ sym there
