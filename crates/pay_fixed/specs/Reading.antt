-- How a decimal is read from the front of a text.
use Rattle.std.specs.Prelude.{ℕ, ◌+◌, ◌==◌, nat_le, Bool, true, false, ◌&&◌, ◌||◌, List, [], ◌∷◌, length, ℤ, pos, Option, Some, None, if◌then◌else◌}
use Rattle.std.specs.Option.{option_map}
use Rattle.pay_fixed.specs.Grammar.{Decimal, number, signed}

-- a decimal that was read, and the bytes after it
pub record Reading : Type 0 where
  pub decimal : Decimal
  pub rest : List ℕ

-- a space or a tab
abbrev pub is_blank : ℕ → Bool
is_blank c = (c == 32) || (c == 9)

-- one of '0' to '9'
abbrev pub is_digit : ℕ → Bool
is_digit c = nat_le 48 c && nat_le c 57

-- 'e' or 'E'
abbrev pub is_power_sign : ℕ → Bool
is_power_sign c = (c == 101) || (c == 69)

-- the text without the blanks at its front
abbrev pub after_blanks : List ℕ → List ℕ
after_blanks [] = []
after_blanks (c ∷ cs) = if is_blank c then after_blanks cs else c ∷ cs

-- the text has blanks alone
abbrev pub all_blank : List ℕ → Bool
all_blank [] = true
all_blank (c ∷ cs) = is_blank c && all_blank cs

-- the digits at the front of a text
abbrev pub digits_at : List ℕ → List ℕ
digits_at [] = []
digits_at (c ∷ cs) = if is_digit c then c ∷ digits_at cs else []

-- what follows the digits at its front
abbrev pub after_digits : List ℕ → List ℕ
after_digits [] = []
after_digits (c ∷ cs) = if is_digit c then after_digits cs else c ∷ cs

-- the text begins with a minus
abbrev pub has_minus : List ℕ → Bool
has_minus [] = false
has_minus (c ∷ cs) = c == 45

-- the text without a plus or a minus at its front
abbrev pub after_sign : List ℕ → List ℕ
after_sign [] = []
after_sign (c ∷ cs) = if (c == 43) || (c == 45) then cs else c ∷ cs

-- a power of ten alone
abbrev pub only_power : ℤ → List ℕ → Reading
only_power z rest = record { decimal = record { negative = false; whole = []; fraction = []; exponent = z }; rest = rest }

-- what was read, with these digits after the point
abbrev pub with_fraction : List ℕ → Reading → Reading
with_fraction digits r = record r { decimal = record r.decimal { fraction = digits } }

-- what was read, with these digits before the point
abbrev pub with_whole : List ℕ → Reading → Reading
with_whole digits r = record r { decimal = record r.decimal { whole = digits } }

-- what was read, with this sign
abbrev pub with_sign : Bool → Reading → Reading
with_sign negative r = record r { decimal = record r.decimal { negative = negative } }

-- the one or two digits of a power, with its sign
abbrev pub power_at : Bool → List ℕ → Option Reading
power_at negative text =
    if nat_le 1 (length (digits_at text)) && nat_le (length (digits_at text)) 2
    then Some (only_power (signed negative (number (digits_at text))) (after_digits text))
    else None

-- a power of ten, or none
abbrev pub exponent_at : List ℕ → Option Reading
exponent_at [] = Some (only_power (pos 0) [])
exponent_at (c ∷ cs) = if is_power_sign c then power_at (has_minus cs) (after_sign cs) else Some (only_power (pos 0) (c ∷ cs))

-- a point and the digits after it, or none, and then a power of ten
abbrev pub fraction_at : List ℕ → Option Reading
fraction_at [] = exponent_at []
fraction_at (c ∷ cs) =
    if c == 46
    then (if nat_le 1 (length (digits_at cs)) then option_map (with_fraction (digits_at cs)) (exponent_at (after_digits cs)) else None)
    else exponent_at (c ∷ cs)

-- digits, and what may follow them
abbrev pub unsigned_at : List ℕ → Option Reading
unsigned_at text =
    if nat_le 1 (length (digits_at text)) then option_map (with_whole (digits_at text)) (fraction_at (after_digits text)) else None

-- a sign or none, and then digits
abbrev pub signed_at : List ℕ → Option Reading
signed_at text = option_map (with_sign (has_minus text)) (unsigned_at (after_sign text))

-- the decimal that was read is the whole text but for blanks after it, and has at most 40 bytes of the text's
abbrev pub is_whole : ℕ → Reading → Bool
is_whole size r = all_blank r.rest && nat_le size (length r.rest + 40)
