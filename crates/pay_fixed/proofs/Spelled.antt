-- What is read of a text is what the text spells.
use Rattle.std.proofs.Common.{◌≡◌, ℕ, ◌+◌, ◌≤◌, ◌==◌, Bool, true, false, inl, inr, List, [], ◌∷◌, ◌++◌, length, pos, Option}
use Rattle.std.proofs.Common.{Some, None, refl, sym, ◌∙◌, ap, arith, leb-true, eqb-true, append_assoc, length-append}
use Rattle.std.specs.Prelude.{◌&&◌, nat_le}
use Rattle.std.specs.Option.{option_map}
use Rattle.std.proofs.lemmas.Bool.{cases_Bool, and_parts}
use Rattle.std.proofs.lemmas.Bool.Decides.{nat_tests}
use Rattle.pay_fixed.specs.Grammar.{IsBlank, IsPowerSign, AreBlanks, AreDigits, IsNumeral, number, signed, SpellsSign, no_sign, plus}
use Rattle.pay_fixed.specs.Grammar.{minus, SpellsFraction, no_fraction, point, SpellsExponent, no_exponent, power, SpellsDecimal}
use Rattle.pay_fixed.specs.Reading.{Reading, is_blank, is_digit, is_power_sign, after_blanks, all_blank, digits_at}
use Rattle.pay_fixed.specs.Reading.{after_digits, has_minus, after_sign, only_power, with_fraction, with_whole}
use Rattle.pay_fixed.specs.Reading.{with_sign, power_at, exponent_at, fraction_at, unsigned_at, signed_at, is_whole}
use Rattle.pay_fixed.proofs.Digits.{digits_at-digits}

-- tests of a byte, and what they mean
blank_from_test : (c : ℕ) → is_blank c ≡ true → IsBlank c
blank_from_test c h = grind (arith, nat_tests)

power_from_test : (c : ℕ) → is_power_sign c ≡ true → IsPowerSign c
power_from_test c h = grind (arith, nat_tests)

-- a text is its digits, and what follows them
digits-split : (t : List ℕ) → t ≡ digits_at t ++ after_digits t
digits-split [] = refl
digits-split (c ∷ cs) = elim (cases_Bool (is_digit c)) [
  | inl hit ↦ rw hit (ap (λ xs. c ∷ xs) (digits-split cs))
  | inr miss ↦ rw miss refl
]

-- a text is the blanks at its front, and what follows them
pub record Blanks (t : List ℕ) : Type 0 where
  pub front : List ℕ
  pub blank : AreBlanks front
  pub split : t ≡ front ++ after_blanks t

blanks-split : (t : List ℕ) → Blanks t
blanks-split [] = record { front = []; blank = tt; split = refl }
blanks-split (c ∷ cs) = blanks-cons c cs (is_blank c) refl (blanks-split cs)
  where
    blanks-cons : (c : ℕ) (cs : List ℕ) (b : Bool) → is_blank c ≡ b → Blanks cs → Blanks (c ∷ cs)
    blanks-cons c cs true hit r = record { front = c ∷ r.front; blank = (blank_from_test c hit, r.blank); split = rw hit (ap (λ xs. c ∷ xs) r.split) }
    blanks-cons c cs false miss r = record { front = []; blank = tt; split = rw miss refl }

-- a text is its sign, and what follows it
pub record Sign (t : List ℕ) : Type 0 where
  pub sign : List ℕ
  pub spells : SpellsSign sign (has_minus t)
  pub split : t ≡ sign ++ after_sign t

sign-split : (t : List ℕ) → Sign t
sign-split [] = record { sign = []; spells = no_sign; split = refl }
sign-split (c ∷ cs) = elim (cases_Bool (c == 45)) [
  | inl hit ↦ let is : c ≡ 45 = eqb-true c 45 hit in record { sign = 45 ∷ []; spells = rw hit minus; split = rw is refl }
  | inr miss ↦ elim (cases_Bool (c == 43)) [
    | inl hit ↦ let is : c ≡ 43 = eqb-true c 43 hit in record { sign = 43 ∷ []; spells = rw miss plus; split = rw is refl }
    | inr other ↦ record { sign = []; spells = rw miss no_sign; split = rw (other, miss) refl }
  ]
]

-- what `option_map` gave
pub record Mapped (f : Reading → Reading) (o : Option Reading) (r : Reading) : Type 0 where
  pub before : Reading
  pub was : o ≡ Some before
  pub is : f before ≡ r

mapped : (f : Reading → Reading) (o : Option Reading) (r : Reading) → option_map f o ≡ Some r → Mapped f o r
mapped f None r h = cc
mapped f (Some s) r h = record { before = s; was = refl; is = cc }

-- what was read of a text as a power of ten
pub record ReadsExponent (t : List ℕ) (r : Reading) : Type 0 where
  pub exponent : List ℕ
  pub alone : r ≡ only_power r.decimal.exponent r.rest
  pub spells : SpellsExponent exponent r.decimal.exponent
  pub split : t ≡ exponent ++ r.rest

power-read : (negative : Bool) (t : List ℕ) (r : Reading) → power_at negative t ≡ Some r
    → (r ≡ only_power (signed negative (number (digits_at t))) (after_digits t)) × (1 ≤ length (digits_at t)) × (length (digits_at t) ≤ 2)
power-read negative t r h = elim (cases_Bool (nat_le 1 (length (digits_at t)) && nat_le (length (digits_at t)) 2)) [
  | inl hit ↦
      let parts = and_parts (nat_le 1 (length (digits_at t))) (nat_le (length (digits_at t)) 2) hit in
      let same : Some (only_power (signed negative (number (digits_at t))) (after_digits t)) ≡ Some r = rw hit at h in
      (cc, leb-true 1 (length (digits_at t)) parts.0, leb-true (length (digits_at t)) 2 parts.1)
  | inr miss ↦ cc (rw miss at h)
]

exponent-read : (t : List ℕ) (r : Reading) → exponent_at t ≡ Some r → ReadsExponent t r
exponent-read [] r h =
    let same : only_power (pos 0) [] ≡ r = cc in
    rw (← same) (record { exponent = []; alone = refl; spells = no_exponent; split = refl })
exponent-read (c ∷ cs) r h = elim (cases_Bool (is_power_sign c)) [
  | inl hit ↦
      let p = power-read (has_minus cs) (after_sign cs) r (rw hit at h) in
      let s = sign-split cs in
      let ds = digits_at (after_sign cs) in
      let split : cs ≡ (s.sign ++ ds) ++ after_digits (after_sign cs) =
      s.split ∙ (ap (λ xs. s.sign ++ xs) (digits-split (after_sign cs)) ∙ sym (append_assoc s.sign ds (after_digits (after_sign cs)))) in
      rw p.0 (record {
        exponent = c ∷ (s.sign ++ ds);
        alone = refl;
        spells = power c s.sign (has_minus cs) ds (power_from_test c hit) s.spells (p.1, digits_at-digits (after_sign cs)) p.2;
        split = ap (λ xs. c ∷ xs) split;
      })
  | inr miss ↦
      let same : Some (only_power (pos 0) (c ∷ cs)) ≡ Some r = rw miss at h in
      let is : only_power (pos 0) (c ∷ cs) ≡ r = cc in
      rw (← is) (record { exponent = []; alone = refl; spells = no_exponent; split = refl })
]

-- what was read of a text as a fraction and a power of ten
pub record ReadsFraction (t : List ℕ) (r : Reading) : Type 0 where
  pub fraction : List ℕ
  pub exponent : List ℕ
  pub spells_fraction : SpellsFraction fraction r.decimal.fraction
  pub spells_exponent : SpellsExponent exponent r.decimal.exponent
  pub split : t ≡ fraction ++ (exponent ++ r.rest)

point-read : (cs : List ℕ) (r : Reading) → 1 ≤ length (digits_at cs) → ReadsExponent (after_digits cs) r
    → ReadsFraction (46 ∷ cs) (with_fraction (digits_at cs) r)
point-read cs r some e = record {
  fraction = 46 ∷ digits_at cs;
  exponent = e.exponent;
  spells_fraction = point (digits_at cs) (some, digits_at-digits cs);
  spells_exponent = e.spells;
  split = ap (λ xs. 46 ∷ xs) (digits-split cs ∙ ap (λ xs. digits_at cs ++ xs) e.split);
}

no-fraction-read : (t : List ℕ) (r : Reading) → ReadsExponent t r → ReadsFraction t r
no-fraction-read t r e = record {
  fraction = [];
  exponent = e.exponent;
  spells_fraction = let none : r.decimal.fraction ≡ [] = ap (λ (x : Reading). x.decimal.fraction) e.alone in rw none no_fraction;
  spells_exponent = e.spells;
  split = e.split;
}

fraction-read : (t : List ℕ) (r : Reading) → fraction_at t ≡ Some r → ReadsFraction t r
fraction-read [] r h = no-fraction-read [] r (exponent-read [] r h)
fraction-read (c ∷ cs) r h = elim (cases_Bool (c == 46)) [
  | inl hit ↦ elim (cases_Bool (nat_le 1 (length (digits_at cs)))) [
    | inl some ↦
        let m = mapped (with_fraction (digits_at cs)) (exponent_at (after_digits cs)) r (rw (hit, some) at h) in
        let is : c ≡ 46 = eqb-true c 46 hit in
        rw (is, ← m.is) (point-read cs m.before (leb-true 1 (length (digits_at cs)) some) (exponent-read (after_digits cs) m.before m.was))
    | inr none ↦ cc (rw (hit, none) at h)
  ]
  | inr miss ↦ no-fraction-read (c ∷ cs) r (exponent-read (c ∷ cs) r (rw miss at h))
]

-- what was read of a text as a decimal without a sign
pub record ReadsUnsigned (t : List ℕ) (r : Reading) : Type 0 where
  pub fraction : List ℕ
  pub exponent : List ℕ
  pub spells_whole : IsNumeral r.decimal.whole
  pub spells_fraction : SpellsFraction fraction r.decimal.fraction
  pub spells_exponent : SpellsExponent exponent r.decimal.exponent
  pub split : t ≡ r.decimal.whole ++ (fraction ++ (exponent ++ r.rest))

unsigned-read : (t : List ℕ) (r : Reading) → unsigned_at t ≡ Some r → ReadsUnsigned t r
unsigned-read t r h = elim (cases_Bool (nat_le 1 (length (digits_at t)))) [
  | inl some ↦
      let m = mapped (with_whole (digits_at t)) (fraction_at (after_digits t)) r (rw some at h) in
      let f = fraction-read (after_digits t) m.before m.was in
      rw (← m.is) (record {
        fraction = f.fraction;
        exponent = f.exponent;
        spells_whole = (leb-true 1 (length (digits_at t)) some, digits_at-digits t);
        spells_fraction = f.spells_fraction;
        spells_exponent = f.spells_exponent;
        split = digits-split t ∙ ap (λ xs. digits_at t ++ xs) f.split;
      })
  | inr none ↦ cc (rw none at h)
]

-- what was read of a text as a decimal
pub record ReadsSigned (t : List ℕ) (r : Reading) : Type 0 where
  pub sign : List ℕ
  pub fraction : List ℕ
  pub exponent : List ℕ
  pub spells_sign : SpellsSign sign r.decimal.negative
  pub spells_whole : IsNumeral r.decimal.whole
  pub spells_fraction : SpellsFraction fraction r.decimal.fraction
  pub spells_exponent : SpellsExponent exponent r.decimal.exponent
  pub split : t ≡ sign ++ (r.decimal.whole ++ (fraction ++ (exponent ++ r.rest)))

pub signed-read : (t : List ℕ) (r : Reading) → signed_at t ≡ Some r → ReadsSigned t r
signed-read t r h =
    let m = mapped (with_sign (has_minus t)) (unsigned_at (after_sign t)) r h in
    let u = unsigned-read (after_sign t) m.before m.was in
    let s = sign-split t in
    rw (← m.is) (record {
      sign = s.sign;
      fraction = u.fraction;
      exponent = u.exponent;
      spells_sign = s.spells;
      spells_whole = u.spells_whole;
      spells_fraction = u.spells_fraction;
      spells_exponent = u.spells_exponent;
      split = s.split ∙ ap (λ xs. s.sign ++ xs) u.split;
    })

-- a fraction has digits alone
fraction-digits : (f ds : List ℕ) → SpellsFraction f ds → AreDigits ds
fraction-digits f ds no_fraction = tt
fraction-digits f ds (point _ n) = n.1

-- the parts of a decimal that was read are digits
pub read-digits : (t : List ℕ) (r : Reading) → signed_at t ≡ Some r → AreDigits r.decimal.whole × AreDigits r.decimal.fraction
read-digits t r h =
    let s = signed-read t r h in
    (s.spells_whole.1, fraction-digits s.fraction r.decimal.fraction s.spells_fraction)

blanks-from-test : (t : List ℕ) → all_blank t ≡ true → AreBlanks t
blanks-from-test [] h = tt
blanks-from-test (c ∷ cs) h =
    let parts = and_parts (is_blank c) (all_blank cs) h in
    (blank_from_test c parts.0, blanks-from-test cs parts.1)

-- a decimal that was read whole is spelled
pub read-spells : (bytes : List ℕ) (r : Reading) → signed_at (after_blanks bytes) ≡ Some r
    → is_whole (length (after_blanks bytes)) r ≡ true → SpellsDecimal bytes r.decimal
read-spells bytes r h whole =
    let b = blanks-split bytes in
    let s = signed-read (after_blanks bytes) r h in
    let parts = and_parts (all_blank r.rest) (nat_le (length (after_blanks bytes)) (length r.rest + 40)) whole in
    let few : length (after_blanks bytes) ≤ length r.rest + 40 = leb-true (length (after_blanks bytes)) (length r.rest + 40) parts.1 in
    let middle = s.sign ++ (r.decimal.whole ++ (s.fraction ++ s.exponent)) in
    let joined : after_blanks bytes ≡ middle ++ r.rest = s.split ∙ simp append_assoc in
    record {
      before = b.front;
      sign = s.sign;
      fraction = s.fraction;
      exponent = s.exponent;
      after = r.rest;
      cut = b.split ∙ ap (λ xs. b.front ++ xs) joined;
      blank_before = b.blank;
      blank_after = blanks-from-test r.rest parts.0;
      short = omega (arith, length-append middle r.rest, ap length joined, few);
      spells_sign = s.spells_sign;
      spells_whole = s.spells_whole;
      spells_fraction = s.spells_fraction;
      spells_exponent = s.spells_exponent;
    }
