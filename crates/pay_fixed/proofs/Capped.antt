-- Values that are known exactly only below a bound.
use Rattle.std.proofs.Common.{◌≡◌, ℕ, zero, suc, ◌+◌, ◌-◌, ◌*◌, ◌^◌, ◌≤◌, ◌⊎◌, inl, inr, min, List}
use Rattle.std.proofs.Common.{[], ◌∷◌, ◌++◌, length, take, refl, ◌∙◌, arith, add-one, length-append}
use Rattle.std.proofs.lemmas.Bool.{cases_lt}
use Rattle.std.proofs.Math.Nat.{pow-suc, mul-le-mul_left, one-le-pow}
use Rattle.pay_fixed.specs.Grammar.{number_on, number}
use Rattle.std.proofs.lemmas.List.{take_min, length-take}
use Rattle.pay_fixed.specs.Parts.{beyond, leading}
use Rattle.pay_fixed.proofs.Digits.{number_on-append}

ten-more : (n m d : ℕ) → min n beyond ≡ min m beyond → min (10 * n + d) beyond ≡ min (10 * m + d) beyond
ten-more n m d h = omega arith

-- what is known so far is all that the next digits need
pub capped-on : (n m : ℕ) (ds : List ℕ) → min n beyond ≡ min m beyond → min (number_on n ds) beyond ≡ min (number_on m ds) beyond
capped-on n m [] h = h
capped-on n m (d ∷ ds) h = capped-on (10 * n + (d - 48)) (10 * m + (d - 48)) ds (ten-more n m (d - 48) h)

min-min : (n : ℕ) → min (min n beyond) beyond ≡ min n beyond
min-min n = omega arith

cases-min : (n m : ℕ) → min n beyond ≡ min m beyond → (n ≡ m) ⊎ ((beyond ≤ n) × (beyond ≤ m))
cases-min n m h = elim (cases_lt n beyond) [
  | inr big ↦ inr (big, omega arith)
  | inl small ↦ inl (omega arith)
]

-- one digit in a loop
pub capped_step : (n d : ℕ) (ds : List ℕ) → min (number_on (min (10 * n + (d - 48)) beyond) ds) beyond ≡ min (number_on n (d ∷ ds)) beyond
capped_step n d ds = capped-on (min (10 * n + (d - 48)) beyond) (10 * n + (d - 48)) ds (min-min (10 * n + (d - 48)))

zero-step : (v p n z : ℕ) → v ≡ min p beyond → n ≡ 10 * p → z ≡ 0 → min (10 * v + z) beyond ≡ min n beyond
zero-step v p n z h e k = omega arith

times-ten : (n c : ℕ) → n * 10 ^ (c + 1) ≡ 10 * (n * 10 ^ c)
times-ten n c = rw (add-one, pow-suc) (omega arith)

-- one zero in a loop
pub capped_zero : (v n c : ℕ) → v ≡ min (n * 10 ^ c) beyond → min (10 * v + (48 - 48)) beyond ≡ min (n * 10 ^ (c + 1)) beyond
capped_zero v n c h = zero-step v (n * 10 ^ c) (n * 10 ^ (c + 1)) (48 - 48) h (times-ten n c) refl

times-capped : (n m p : ℕ) → 1 ≤ p → min n beyond ≡ min m beyond → min (n * p) beyond ≡ min (m * p) beyond
times-capped n m p h e = elim (cases-min n m e) [
  | inl same ↦ rw same refl
  | inr past ↦
      let a : n * 1 ≤ n * p = mul-le-mul_left n h in
      let b : m * 1 ≤ m * p = mul-le-mul_left m h in
      omega arith
]

-- the first of two lists' elements
take-parts : (k : ℕ) (w f : List ℕ) → take k (w ++ f) ≡ take k w ++ take (k - length w) f
take-parts zero w f = let none : 0 - length w ≡ 0 = omega arith in rw none refl
take-parts (suc k) [] f = let all : suc k - 0 ≡ suc k = omega arith in rw all refl
take-parts (suc k) (c ∷ w) f =
    let fewer : suc k - suc (length w) ≡ k - length w = omega arith in
    rw (fewer, take-parts k w f) refl

-- the first digits of the two parts, and zeros
pub first-parts : (k p q : ℕ) (w f : List ℕ) (r s t : ℕ)
    → p ≡ min k (length w) → r ≡ min (number_on 0 (take p w)) beyond
    → q ≡ min (k - length (take p w)) (length f) → s ≡ min (number_on r (take q f)) beyond
    → t ≡ min (s * 10 ^ (k - length (take p w) - length (take q f))) beyond
    → t ≡ min (leading k (w ++ f)) beyond
first-parts k p q w f r s t p_is r_is q_is s_is t_is =
    let front : take p w ≡ take k w = rw p_is (take_min k w) in
    let left : k - length (take p w) ≡ k - length w = omega (arith, length-take p w) in
    let q_is' : q ≡ min (k - length w) (length f) = rw left at q_is in
    let back : take q f ≡ take (k - length w) f = rw q_is' (take_min (k - length w) f) in
    let zeros : k - length (take p w) - length (take q f) ≡ k - length (w ++ f) = omega (arith, length-take p w, length-take q f, length-append w f) in
    let both : number (take k (w ++ f)) ≡ number_on (number (take k w)) (take (k - length w) f)
    = rw (take-parts k w f) (number_on-append 0 (take k w) (take (k - length w) f)) in
    let first : min r beyond ≡ min (number (take k w)) beyond = rw (r_is, front) (min-min (number (take k w))) in
    let next : min s beyond ≡ min (number (take k (w ++ f))) beyond
    = rw (s_is, back, both) (min-min (number_on r (take (k - length w) f)) ∙ capped-on r (number (take k w)) (take (k - length w) f) first) in
    t_is ∙ rw zeros (times-capped s (number (take k (w ++ f))) (10 ^ (k - length (w ++ f))) (one-le-pow (k - length (w ++ f)) 10 (omega arith)) next)
