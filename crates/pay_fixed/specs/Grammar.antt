-- What spells a decimal, and which number it is.
use Rattle.std.specs.Prelude.{◌≡◌, ℕ, suc, ◌+◌, ◌-◌, ◌*◌, ◌^◌, ◌≤◌, Bool, true, false, ◌⊎◌, List, [], ◌∷◌, ◌++◌, length, ℤ, pos, negsuc, neg_ℤ, ◌*ℤ◌}
use Rattle.pay_fixed.specs.Round.{scale, round, IsRaw}

-- a decimal as it is spelled: its sign, its digits before and after the point, and its power of ten
pub record Decimal : Type 0 where
  pub negative : Bool
  pub whole : List ℕ
  pub fraction : List ℕ
  pub exponent : ℤ

-- a space or a tab
abbrev pub IsBlank : ℕ → Type 0
IsBlank c = (c ≡ 32) ⊎ (c ≡ 9)

-- one of '0' to '9'
abbrev pub IsDigit : ℕ → Type 0
IsDigit c = (48 ≤ c) × (c ≤ 57)

-- 'e' or 'E'
abbrev pub IsPowerSign : ℕ → Type 0
IsPowerSign c = (c ≡ 101) ⊎ (c ≡ 69)

-- each byte is a blank
abbrev pub AreBlanks : List ℕ → Type 0
AreBlanks [] = Unit {0}
AreBlanks (c ∷ cs) = IsBlank c × AreBlanks cs

-- each byte is a digit
abbrev pub AreDigits : List ℕ → Type 0
AreDigits [] = Unit {0}
AreDigits (c ∷ cs) = IsDigit c × AreDigits cs

-- one digit or more, and nothing else
abbrev pub IsNumeral : List ℕ → Type 0
IsNumeral digits = (1 ≤ length digits) × AreDigits digits

-- the number that digits write after those of n
abbrev pub number_on : ℕ → List ℕ → ℕ
number_on n [] = n
number_on n (c ∷ cs) = number_on (10 * n + (c - 48)) cs

-- the number that digits write
abbrev pub number : List ℕ → ℕ
number digits = number_on 0 digits

-- n, or -n
abbrev pub signed : Bool → ℕ → ℤ
signed false n = pos n
signed true n = neg_ℤ (pos n)

-- no sign, a plus or a minus
pub data SpellsSign : List ℕ → Bool → Type 0 where
  no_sign : SpellsSign [] false
  plus : SpellsSign (43 ∷ []) false
  minus : SpellsSign (45 ∷ []) true

-- nothing, or a point and one digit or more
pub data SpellsFraction : List ℕ → List ℕ → Type 0 where
  no_fraction : SpellsFraction [] []
  point : (digits : List ℕ) → IsNumeral digits → SpellsFraction (46 ∷ digits) digits

-- nothing, or the letter e, a sign or none, and one or two digits
pub data SpellsExponent : List ℕ → ℤ → Type 0 where
  no_exponent : SpellsExponent [] (pos 0)
  power : (letter : ℕ) (sign : List ℕ) (negative : Bool) (digits : List ℕ)
      → IsPowerSign letter → SpellsSign sign negative → IsNumeral digits → length digits ≤ 2
      → SpellsExponent (letter ∷ (sign ++ digits)) (signed negative (number digits))

-- the bytes are blanks, then a decimal of at most 40 bytes, then blanks
pub record SpellsDecimal (bytes : List ℕ) (d : Decimal) : Type 0 where
  pub before : List ℕ
  pub sign : List ℕ
  pub fraction : List ℕ
  pub exponent : List ℕ
  pub after : List ℕ
  pub cut : bytes ≡ before ++ ((sign ++ (d.whole ++ (fraction ++ exponent))) ++ after)
  pub blank_before : AreBlanks before
  pub blank_after : AreBlanks after
  pub short : length (sign ++ (d.whole ++ (fraction ++ exponent))) ≤ 40
  pub spells_sign : SpellsSign sign d.negative
  pub spells_whole : IsNumeral d.whole
  pub spells_fraction : SpellsFraction fraction d.fraction
  pub spells_exponent : SpellsExponent exponent d.exponent

-- how many times a power multiplies by ten
abbrev pub tens_up : ℤ → ℕ
tens_up (pos n) = n
tens_up (negsuc n) = 0

-- how many times a power divides by ten
abbrev pub tens_down : ℤ → ℕ
tens_down (pos n) = 0
tens_down (negsuc n) = suc n

-- the value of a decimal is its digits times its power of ten, over a ten for each digit after the point;
-- in raws that is this numerator
abbrev pub numerator : Decimal → ℤ
numerator d = (signed d.negative (number (d.whole ++ d.fraction)) *ℤ scale) *ℤ pos (10 ^ tens_up d.exponent)

-- over this denominator
abbrev pub denominator : Decimal → ℤ
denominator d = pos (10 ^ (length d.fraction + tens_down d.exponent))

-- the raw of a decimal: its exact value in raws, rounded once
unfoldable pub raw_of : Decimal → ℤ
raw_of d = round (numerator d) (denominator d)

-- the bytes spell a decimal whose raw is z, within the limit
pub record SpellsRaw (bytes : List ℕ) (z : ℤ) : Type 0 where
  pub decimal : Decimal
  pub spells : SpellsDecimal bytes decimal
  pub value : raw_of decimal ≡ z
  pub within : IsRaw z

-- the value of a decimal is z raws exactly
abbrev pub IsExactly : Decimal → ℤ → Type 0
IsExactly d z = numerator d ≡ z *ℤ denominator d
