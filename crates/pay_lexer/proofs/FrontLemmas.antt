-- Fronts of a text: the bytes that pass a test, and the rest of a number.
use Rattle.std.proofs.Common.{◌≡◌, ℕ, zero, suc, ◌≤◌, ◌<◌, Bool, true, false, slice_index, nat_eq, List, [], ◌∷◌, ◌++◌, length, take, drop, inl}
use Rattle.std.proofs.Common.{inr, refl, sym, ◌∙◌, ap, arith, append_assoc}
use Rattle.std.specs.List.{list_all}
use Rattle.std.proofs.lemmas.Bool.{cases_Bool, and_parts, and_from, eqb-true}
use Rattle.std.proofs.lemmas.List.{append-nil, length-append}
use Rattle.std.proofs.Math.Seq.{take-append_seam, drop-append_seam}
use Rattle.pay_meaning.specs.Words.{is_digit}
use Rattle.pay_lexer.specs.Forms.{IsDigits, IsNumber, whole, with_point}
use Rattle.pay_lexer.specs.Lexing.{front_while, point_and, decimals_at, number_rest}

-- the bytes of a front pass its test
pub front_while-all : (test : ℕ → Bool) (xs : List ℕ) → list_all test (front_while test xs) ≡ true
front_while-all test [] = refl
front_while-all test (x ∷ xs) = elim (cases_Bool (test x)) [
  | inl pass ↦ rw (pass, pass) (front_while-all test xs)
  | inr fail ↦ rw fail refl
]

-- a front and what stands after it are the text
pub front_while-back : (test : ℕ → Bool) (xs : List ℕ) → front_while test xs ++ drop (length (front_while test xs)) xs ≡ xs
front_while-back test [] = refl
front_while-back test (x ∷ xs) = elim (cases_Bool (test x)) [
  | inl pass ↦ rw pass (ap (λ (ys : List ℕ). x ∷ ys) (front_while-back test xs))
  | inr fail ↦ rw fail refl
]

-- bytes that pass belong to the front
pub front_while-append : (test : ℕ → Bool) (xs ys : List ℕ) → list_all test xs ≡ true → front_while test (xs ++ ys) ≡ xs ++ front_while test ys
front_while-append test [] ys h = refl
front_while-append test (x ∷ xs) ys h =
    let parts = and_parts (test x) (list_all test xs) h in
    rw parts.0 (ap (λ (zs : List ℕ). x ∷ zs) (front_while-append test xs ys parts.1))

-- a front of a text is the text's first bytes
pub front-take : (xs back text : List ℕ) → xs ++ back ≡ text → (take (length xs) text ≡ xs) × (length xs ≤ length text)
front-take xs back text e = (rw (← e) (take-append_seam xs back), omega (arith, ap length e, length-append xs back))

-- fronts of one text that have one length are one front
pub same_front : (xs back ys rest : List ℕ) → xs ++ back ≡ ys ++ rest → length xs ≡ length ys → xs ≡ ys
same_front xs back ys rest e same =
    let first : take (length xs) (ys ++ rest) ≡ xs = (front-take xs back (ys ++ rest) e).0 in
    let second : take (length ys) (ys ++ rest) ≡ ys = take-append_seam ys rest in
    sym first ∙ (ap (λ (n : ℕ). take n (ys ++ rest)) same ∙ second)

-- one or more digits are a digit and digits
pub digits-first : (digits : List ℕ) → IsDigits digits → (d : ℕ) × (ds : List ℕ) × (digits ≡ d ∷ ds) × (is_digit d ≡ true) × (list_all is_digit ds ≡ true)
digits-first [] h = absurd (omega (arith, h.0))
digits-first (d ∷ ds) h = let parts = and_parts (is_digit d) (list_all is_digit ds) h.1 in (d, ds, refl, parts.0, parts.1)

-- the decimals at the front of a text are the text's first bytes
decimals_at-back : (xs : List ℕ) → (back : List ℕ) × (decimals_at xs ++ back ≡ xs)
decimals_at-back [] = ([], refl)
decimals_at-back (x ∷ xs) = elim (cases_Bool (nat_eq x 46)) [
  | inl point ↦ rw (eqb-true x 46 point) (point-back (front_while is_digit xs) xs (drop (length (front_while is_digit xs)) xs) (front_while-back is_digit xs))
  | inr other ↦ rw other (x ∷ xs, refl)
]
  where
    point-back : (ds xs back : List ℕ) → ds ++ back ≡ xs → (after : List ℕ) × (point_and ds ++ after ≡ 46 ∷ xs)
    point-back [] xs back e = (46 ∷ xs, refl)
    point-back (d ∷ ds) xs back e = (back, ap (λ (ys : List ℕ). 46 ∷ ys) e)

-- the rest of a number is the text's first bytes
pub number_rest-back : (xs : List ℕ) → (back : List ℕ) × (number_rest xs ++ back ≡ xs)
number_rest-back xs =
    let digits : List ℕ = front_while is_digit xs in
    let after = decimals_at-back (drop (length digits) xs) in
    (after.0, rw (append_assoc, after.1) (front_while-back is_digit xs))

-- a digit and the rest of a number are a number
pub number_rest_number : (d : ℕ) (xs : List ℕ) → is_digit d ≡ true → IsNumber (d ∷ number_rest xs)
number_rest_number d xs h = decimals-number (d ∷ front_while is_digit xs) (drop (length (front_while is_digit xs)) xs)
    (omega arith, and_from _ _ h (front_while-all is_digit xs))
  where
    point-number : (digits ds : List ℕ) → IsDigits digits → list_all is_digit ds ≡ true → IsNumber (digits ++ point_and ds)
    point-number digits [] k all = rw append-nil (whole digits k)
    point-number digits (d ∷ ds) k all = with_point digits (d ∷ ds) k (omega arith, all)

    decimals-number : (digits ys : List ℕ) → IsDigits digits → IsNumber (digits ++ decimals_at ys)
    decimals-number digits [] k = rw append-nil (whole digits k)
    decimals-number digits (y ∷ ys) k = elim (cases_Bool (nat_eq y 46)) [
      | inl point ↦ rw point (point-number digits (front_while is_digit ys) k (front_while-all is_digit ys))
      | inr other ↦ rw other (rw append-nil (whole digits k))
    ]

-- digits, and then what is no digit
pub number_rest-digits : (ds tail : List ℕ) → list_all is_digit ds ≡ true → front_while is_digit tail ≡ [] → number_rest (ds ++ tail) ≡ ds ++ decimals_at tail
number_rest-digits ds tail h none =
    let front : front_while is_digit (ds ++ tail) ≡ ds = front_while-append is_digit ds tail h ∙ rw none (append-nil ds) in
    rw (front, drop-append_seam) refl

-- the front that a test passes ends at the first byte that fails it
pub front_while_position : (test : ℕ → Bool) (xs : List ℕ) (n : ℕ) → n ≤ length xs → ((k : ℕ) → k < n → test (slice_index xs k) ≡ true)
    → (n < length xs → test (slice_index xs n) ≡ false) → n ≡ length (front_while test xs)
front_while_position test [] n small before at_n = omega (arith, small)
front_while_position test (x ∷ xs) zero small before at_n = rw (at_n (omega arith)) refl
front_while_position test (x ∷ xs) (suc n) small before at_n =
    rw (before 0 (omega arith)) (ap suc (front_while_position test xs n (omega (arith, small)) (λ k h. before (suc k) (omega (arith, h)))
    (λ h. at_n (omega (arith, h)))))
