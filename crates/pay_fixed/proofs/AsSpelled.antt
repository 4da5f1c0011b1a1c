-- A text is read as it is spelled.
use Rattle.std.proofs.Common.{◌≡◌, ℕ, ◌⊎◌, inl, inr, List, length, ℤ, unsigned_abs, Option, Some, None, refl, sym, ◌∙◌, leb-true, le-leb}
use Rattle.std.specs.Prelude.{nat_le, Ok, Err}
use Rattle.std.proofs.lemmas.Bool.{cases_Bool}
use Rattle.pay_fixed.specs.declared.NumberFault.TheVariants.{NotNumber, TooLarge}
use Rattle.pay_fixed.specs.Round.{limit, limited, IsRaw}
use Rattle.pay_fixed.specs.Grammar.{Decimal, SpellsDecimal, SpellsRaw, raw_of}
use Rattle.pay_fixed.specs.Reading.{Reading, after_blanks, signed_at, is_whole}
use Rattle.pay_fixed.specs.Decimal.{judged, decimal_in}
use Rattle.pay_fixed.specs.Laws.{DecimalIsSpelled}
use Rattle.pay_fixed.proofs.Spelled.{read-spells}
use Rattle.pay_fixed.proofs.SpelledRead.{spelled-read}

-- a number within the limit is itself
pub limited-within : {E : Type 0} (e : E) (z : ℤ) → IsRaw z → limited e z ≡ Ok z
limited-within e z h = rw (le-leb (unsigned_abs z) limit h) refl

pub limited-beyond : {E : Type 0} (e : E) (z : ℤ) → ¬ IsRaw z → limited e z ≡ Err e
limited-beyond e z h = elim (cases_Bool (nat_le (unsigned_abs z) limit)) [
  | inl hit ↦ absurd (h (leb-true (unsigned_abs z) limit hit))
  | inr miss ↦ rw miss refl
]

limited-ok : {E : Type 0} (e : E) (x z : ℤ) → limited e x ≡ Ok z → (x ≡ z) × IsRaw z
limited-ok e x z h = elim (cases_Bool (nat_le (unsigned_abs x) limit)) [
  | inl hit ↦
      let same : Ok x ≡ Ok z = rw hit at h in
      let is : x ≡ z = cc in
      (is, rw (← is) (leb-true (unsigned_abs x) limit hit))
  | inr miss ↦ cc (rw miss at h)
]

limited-err : {E : Type 0} (e f : E) (x : ℤ) → limited e x ≡ Err f → (e ≡ f) × ¬ IsRaw x
limited-err e f x h = elim (cases_Bool (nat_le (unsigned_abs x) limit)) [
  | inl hit ↦ cc (rw hit at h)
  | inr miss ↦
      let same : Err e ≡ Err f = rw miss at h in
      (cc, λ k. cc (le-leb (unsigned_abs x) limit k))
]

-- a text is no number, or it spells one
pub record Spelling (bytes : List ℕ) : Type 0 where
  pub decimal : Decimal
  pub spells : SpellsDecimal bytes decimal

judged-cases : (bytes : List ℕ) (o : Option Reading) → signed_at (after_blanks bytes) ≡ o
    → (judged (length (after_blanks bytes)) o ≡ Err NotNumber) ⊎ Spelling bytes
judged-cases bytes None e = inl refl
judged-cases bytes (Some r) e = elim (cases_Bool (is_whole (length (after_blanks bytes)) r)) [
  | inl hit ↦ inr (record { decimal = r.decimal; spells = read-spells bytes r e hit })
  | inr miss ↦ inl (rw miss refl)
]

pub reading-cases : (bytes : List ℕ) → (decimal_in bytes ≡ Err NotNumber) ⊎ Spelling bytes
unfolding decimal_in
reading-cases bytes = judged-cases bytes (signed_at (after_blanks bytes)) refl

number-spelled : (bytes : List ℕ) (z : ℤ) → decimal_in bytes ≡ Ok z → (d : Decimal) × SpellsDecimal bytes d × (raw_of d ≡ z) × IsRaw z
number-spelled bytes z h = elim (reading-cases bytes) [
  | inl none ↦ cc
  | inr s ↦
      let k = limited-ok TooLarge (raw_of s.decimal) z (sym (spelled-read bytes s.decimal s.spells) ∙ h) in
      (s.decimal, s.spells, k.0, k.1)
]

too_large-spelled : (bytes : List ℕ) → decimal_in bytes ≡ Err TooLarge → (d : Decimal) × SpellsDecimal bytes d × ¬ IsRaw (raw_of d)
too_large-spelled bytes h = elim (reading-cases bytes) [
  | inl none ↦ cc
  | inr s ↦
      let k = limited-err TooLarge TooLarge (raw_of s.decimal) (sym (spelled-read bytes s.decimal s.spells) ∙ h) in
      (s.decimal, s.spells, k.1)
]

not_number-spelled : (bytes : List ℕ) → decimal_in bytes ≡ Err NotNumber → (d : Decimal) → ¬ SpellsDecimal bytes d
not_number-spelled bytes h d p =
    let k = limited-err TooLarge NotNumber (raw_of d) (sym (spelled-read bytes d p) ∙ h) in
    cc k.0

unspelled : (bytes : List ℕ) → ((d : Decimal) → ¬ SpellsDecimal bytes d) → decimal_in bytes ≡ Err NotNumber
unspelled bytes h = elim (reading-cases bytes) [
  | inl none ↦ none
  | inr s ↦ absurd (h s.decimal s.spells)
]

pub decimal_is_spelled : DecimalIsSpelled
decimal_is_spelled bytes = record {
  number = λ z. (number-spelled bytes z, λ w. spelled-read bytes w.0 w.1 ∙ rw w.2 (limited-within TooLarge z w.3));
  too_large = (too_large-spelled bytes, λ w. spelled-read bytes w.0 w.1 ∙ limited-beyond TooLarge (raw_of w.0) w.2);
  not_number = (not_number-spelled bytes, unspelled bytes);
}

-- bytes that are read as a raw spell it
pub raw-spelled : (bytes : List ℕ) (z : ℤ) → decimal_in bytes ≡ Ok z → SpellsRaw bytes z
raw-spelled bytes z e =
    let is = ((decimal_is_spelled bytes).number z).0 e in
    record { decimal = is.0; spells = is.1; value = is.2; within = is.3 }

-- bytes that spell a raw are read as it
pub spelled-raw : (bytes : List ℕ) (z : ℤ) → SpellsRaw bytes z → decimal_in bytes ≡ Ok z
spelled-raw bytes z s = ((decimal_is_spelled bytes).number z).1 (s.decimal, s.spells, s.value, s.within)
