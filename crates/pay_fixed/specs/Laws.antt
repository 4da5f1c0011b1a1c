-- What shows that decimals are read and written as meant.
use Rattle.std.specs.Prelude.{◌≡◌, ℕ, ◌≤◌, ◌↔◌, List, length, ℤ, pos, Ok, Err}
use Rattle.pay_fixed.specs.declared.NumberFault.TheVariants.{NotNumber, TooLarge}
use Rattle.pay_fixed.specs.Round.{IsRaw}
use Rattle.pay_fixed.specs.Grammar.{Decimal, SpellsDecimal, IsExactly, raw_of}
use Rattle.pay_fixed.specs.Decimal.{decimal_in, decimal_text, decimal_of}

-- what is read of a text is what the text spells
pub record ReadsAsSpelled (bytes : List ℕ) : Type 0 where
  -- it gives a number exactly where the text spells a decimal with this raw, within the limit
  pub number : (z : ℤ) → (decimal_in bytes ≡ Ok z) ↔ ((d : Decimal) × SpellsDecimal bytes d × (raw_of d ≡ z) × IsRaw z)
  -- it is too large exactly where the text spells a decimal with a raw beyond the limit
  pub too_large : (decimal_in bytes ≡ Err TooLarge) ↔ ((d : Decimal) × SpellsDecimal bytes d × ¬ IsRaw (raw_of d))
  -- it is no number exactly where the text spells no decimal
  pub not_number : (decimal_in bytes ≡ Err NotNumber) ↔ ((d : Decimal) → ¬ SpellsDecimal bytes d)

-- every text is read as it is spelled
abbrev pub DecimalIsSpelled : Type 0
DecimalIsSpelled = (bytes : List ℕ) → ReadsAsSpelled bytes

-- every number is read back from its text
abbrev pub DecimalReadsBack : Type 0
DecimalReadsBack = (z : ℤ) → IsRaw z → decimal_in (decimal_text z) ≡ Ok z

-- the text of a number spells a decimal that is exactly this number, and no decimal without a power of ten
-- that is exactly this number has fewer digits after the point
pub record HasFewestPlaces (z : ℤ) : Type 0 where
  pub spells : SpellsDecimal (decimal_text z) (decimal_of z)
  pub exact : IsExactly (decimal_of z) z
  pub fewest : (d : Decimal) → d.exponent ≡ pos 0 → IsExactly d z → length (decimal_of z).fraction ≤ length d.fraction

-- every number is written with the fewest digits after the point
abbrev pub DecimalHasFewestPlaces : Type 0
DecimalHasFewestPlaces = (z : ℤ) → IsRaw z → HasFewestPlaces z
