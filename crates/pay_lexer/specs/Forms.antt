-- The forms of number tokens and of words.
use Rattle.std.specs.Prelude.{ℕ, ◌+◌, ◌<◌, nat_le, ◌&&◌, not, IsTrue, List, ◌∷◌, ◌++◌, length, map, if◌then◌else◌}
use Rattle.std.specs.List.{list_all}
use Rattle.pay_meaning.specs.Words.{is_digit, is_lower_word, is_keyword}

-- one or more digits
abbrev pub IsDigits : List ℕ → Type 0
IsDigits digits = (0 < length digits) × IsTrue (list_all is_digit digits)

-- digits, or digits, a point and digits
pub data IsNumber : List ℕ → Type 0 where
  whole : (digits : List ℕ) → IsDigits digits → IsNumber digits
  with_point : (digits decimals : List ℕ) → IsDigits digits → IsDigits decimals → IsNumber (digits ++ 46 ∷ decimals)

-- an ASCII letter in lower case, and any other byte as it is
abbrev pub lower : ℕ → ℕ
lower byte = if nat_le 65 byte && nat_le byte 90 then byte + 32 else byte

-- a letter or `_`, and then letters, digits and `_`, in either case
abbrev pub IsWord : List ℕ → Type 0
IsWord bytes = IsTrue (is_lower_word (map lower bytes))

-- a word in lower case that the language doesn't keep for itself
abbrev pub IsPlainWord : List ℕ → Type 0
IsPlainWord letters = IsTrue (is_lower_word letters && not (is_keyword letters))
