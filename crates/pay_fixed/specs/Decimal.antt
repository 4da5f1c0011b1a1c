-- The text of a number, and the number of a text.
use Rattle.std.specs.Prelude.{ℕ, ◌+◌, ◌/◌, ◌%◌, ◌==◌, int_lt, Bool, true, false, List, [], ◌∷◌, ◌++◌}
use Rattle.std.specs.Prelude.{length, ℤ, pos, unsigned_abs, Option, Some, None, Result, Err, if◌then◌else◌}
use Rattle.std.specs.Fmt.{decimal}
use Rattle.pay_fixed.specs.declared.NumberFault.{NumberFault}
use Rattle.pay_fixed.specs.declared.NumberFault.TheVariants.{NotNumber, TooLarge}
use Rattle.pay_fixed.specs.Round.{limited}
use Rattle.pay_fixed.specs.Grammar.{Decimal, raw_of}
use Rattle.pay_fixed.specs.Reading.{Reading, is_whole, signed_at, after_blanks}

-- the four digits of a number below ten thousand
abbrev pub four_digits : ℕ → List ℕ
four_digits n = (48 + n / 1000) ∷ (48 + n / 100 % 10) ∷ (48 + n / 10 % 10) ∷ (48 + n % 10) ∷ []

-- a digit before others, but no zero at the end
abbrev pub keep : ℕ → List ℕ → List ℕ
keep d [] = if d == 48 then [] else d ∷ []
keep d (x ∷ xs) = d ∷ x ∷ xs

-- the digits without the zeros at their end
abbrev pub without_zeros : List ℕ → List ℕ
without_zeros [] = []
without_zeros (d ∷ ds) = keep d (without_zeros ds)

-- the decimal that is written for a raw: as few digits after the point as its value needs
abbrev pub decimal_of : ℤ → Decimal
decimal_of z = record {
  negative = int_lt z (pos 0);
  whole = decimal (unsigned_abs z / 10_000);
  fraction = without_zeros (four_digits (unsigned_abs z % 10_000));
  exponent = pos 0;
}

-- a minus, or nothing
abbrev pub sign_text : Bool → List ℕ
sign_text true = 45 ∷ []
sign_text false = []

-- a point and the digits after it, or nothing where there are none
abbrev pub point_text : List ℕ → List ℕ
point_text [] = []
point_text (d ∷ ds) = 46 ∷ d ∷ ds

-- the text of a decimal without a power of ten
abbrev pub text_of : Decimal → List ℕ
text_of d = sign_text d.negative ++ (d.whole ++ point_text d.fraction)

-- the text of a raw: `12.5`, `0`, `-0.0001`
unfoldable pub decimal_text : ℤ → List ℕ
decimal_text z = text_of (decimal_of z)

-- the answer for what was read of a text of the given size
abbrev pub judged : ℕ → Option Reading → Result ℤ NumberFault
judged size None = Err NotNumber
judged size (Some r) = if is_whole size r then limited TooLarge (raw_of r.decimal) else Err NotNumber

-- the raw that a text spells, or why there is none
unfoldable pub decimal_in : List ℕ → Result ℤ NumberFault
decimal_in bytes = judged (length (after_blanks bytes)) (signed_at (after_blanks bytes))
