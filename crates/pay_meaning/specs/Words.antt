-- The words of the language: which bytes make a word, which words the language keeps for itself, and which are names.
use Rattle.std.specs.Prelude.{ℕ, nat_le, nat_eq, codes, Bool, false, not, ◌&&◌, ◌||◌, List, [], ◌∷◌, length, IsTrue}
use Rattle.std.specs.List.{list_any, list_all}
use Rattle.std.specs.Str.{bytes_eq}
use Rattle.pay_dates.specs.declared.roll.Unit.{Unit as StepUnit}
use Rattle.pay_dates.specs.declared.roll.Unit.TheVariants.{Days, Weeks, Months, Years}

-- an ASCII letter in lower case, or `_`
abbrev pub is_letter : ℕ → Bool
is_letter byte = nat_le 97 byte && nat_le byte 122 || nat_eq byte 95

-- an ASCII digit
abbrev pub is_digit : ℕ → Bool
is_digit byte = nat_le 48 byte && nat_le byte 57

-- a letter, and then letters and digits
abbrev pub is_lower_word : List ℕ → Bool
is_lower_word [] = false
is_lower_word (first ∷ rest) = is_letter first && list_all (λ byte. is_letter byte || is_digit byte) rest

-- the words that are no names
abbrev pub keywords : List (List ℕ)
keywords =
    codes "schedule" ∷ codes "from" ∷ codes "to" ∷ codes "every" ∷ codes "following" ∷ codes "preceding" ∷ codes "modified" ∷ codes "do" ∷ codes "end"
    ∷ codes "if" ∷ codes "then" ∷ codes "else" ∷ codes "endif" ∷ codes "pays" ∷ codes "min" ∷ codes "max" ∷ codes "abs" ∷ codes "spot" ∷ codes "period"
    ∷ codes "days" ∷ codes "not" ∷ codes "and" ∷ codes "or" ∷ []

-- the language keeps the word for itself
unfoldable pub is_keyword : List ℕ → Bool
is_keyword word = list_any (bytes_eq word) keywords

-- a word in lower case of at most 64 bytes that is no keyword
unfoldable pub is_name : List ℕ → Bool
is_name bytes = nat_le (length bytes) 64 && is_lower_word bytes && not (is_keyword bytes)

-- the bytes are a name
abbrev pub IsName : List ℕ → Type 0
IsName bytes = IsTrue (is_name bytes)

-- the letter that stands for a unit of a schedule's step, which is a name elsewhere
abbrev pub unit_word : StepUnit → List ℕ
unit_word Days = codes "d"
unit_word Weeks = codes "w"
unit_word Months = codes "m"
unit_word Years = codes "y"
