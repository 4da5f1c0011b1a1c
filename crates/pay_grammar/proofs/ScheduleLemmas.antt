-- The count and the unit that are read in the terms of a schedule are spelled by their tokens.
use Rattle.std.proofs.Common.{◌≡◌, ℕ, ◌*◌, ◌/◌, ◌%◌, ◌==◌, inl, inr, ℤ, pos, negsuc, not, List, Option, Some, None, Result, Ok, Err}
use Rattle.std.proofs.Common.{if◌then◌else◌, refl, ap, ◌∙◌, arith}
use Rattle.std.specs.List.{list_all}
use Rattle.std.specs.Str.{bytes_eq}
use Rattle.std.proofs.lemmas.Bool.{cases_Bool, eqb-true}
use Rattle.std.proofs.lemmas.Slice.Eq.{bytes_eq-Decides}
use Rattle.pay_dates.specs.declared.roll.Unit.{Unit as StepUnit}
use Rattle.pay_dates.specs.declared.roll.Unit.TheVariants as units
use Rattle.pay_fixed.specs.declared.NumberFault.{NumberFault}
use Rattle.pay_fixed.specs.Decimal.{decimal_in}
use Rattle.pay_fixed.specs.Grammar.{SpellsRaw}
use Rattle.pay_fixed.proofs.AsSpelled.{raw-spelled}
use Rattle.pay_meaning.specs.Words.{unit_word}
use Rattle.pay_grammar.specs.Grammar.{SpellsCount}
use Rattle.pay_grammar.specs.Reading.{whole_of, counted, count_in, unit_in}

-- a natural that ten thousand divides is its quotient's ten thousand
whole_is : (raw : ℕ) → raw % 10_000 ≡ 0 → raw ≡ raw / 10_000 * 10_000
whole_is raw h = omega (arith, h)

-- a raw that is a whole count is that count's ten-thousandths
whole_of_is : (raw : ℤ) (count : ℕ) → whole_of raw ≡ Some count → raw ≡ pos (count * 10_000)
whole_of_is (pos raw) count e = elim (cases_Bool (raw % 10_000 == 0)) [
  | inl hit ↦
      let same : Some (raw / 10_000) ≡ Some count = rw hit at e in
      let is : raw / 10_000 ≡ count = cc in
      ap pos (whole_is raw (eqb-true (raw % 10_000) 0 hit) ∙ ap (λ n. n * 10_000) is)
  | inr miss ↦ cc (rw miss at e)
]
whole_of_is (negsuc n) count e = cc

-- what is counted of a number token is its raw
counted_is : (digits : List ℕ) (r : Result ℤ NumberFault) (count : ℕ) → decimal_in digits ≡ r → counted r ≡ Some count
    → SpellsRaw digits (pos (count * 10_000))
counted_is digits (Ok raw) count e h = rw (whole_of_is raw count h) at (raw-spelled digits raw e)
counted_is digits (Err fault) count e h = cc

-- a number token spells the count that is read of it
pub count_spelled : (digits : List ℕ) (count : ℕ) → count_in digits ≡ Some count → SpellsCount digits count
count_spelled digits count e = elim (cases_Bool (list_all (λ byte. not (byte == 46)) digits)) [
  | inl hit ↦ record { no_point = hit; value = counted_is digits (decimal_in digits) count refl (rw hit at e) }
  | inr miss ↦ cc (rw miss at e)
]

-- a word that is tried for a unit, and then for others
unit_tried : (letters : List ℕ) (tried unit : StepUnit) (others : Option StepUnit) → (others ≡ Some unit → letters ≡ unit_word unit)
    → (if bytes_eq letters (unit_word tried) then Some tried else others) ≡ Some unit → letters ≡ unit_word unit
unit_tried letters tried unit others rest e = elim (cases_Bool (bytes_eq letters (unit_word tried))) [
  | inl hit ↦
      let same : Some tried ≡ Some unit = rw hit at e in
      let is : tried ≡ unit = cc in
      (bytes_eq-Decides letters (unit_word tried)).0 hit ∙ ap unit_word is
  | inr miss ↦ rest (rw miss at e)
]

-- a word is that of the unit that is read of it
pub unit_spelled : (letters : List ℕ) (unit : StepUnit) → unit_in letters ≡ Some unit → letters ≡ unit_word unit
unit_spelled letters unit e =
    unit_tried letters units.Days unit _ (λ d.
    unit_tried letters units.Weeks unit _ (λ w.
    unit_tried letters units.Months unit _ (λ m.
    unit_tried letters units.Years unit None (λ y. cc) m) w) d) e
