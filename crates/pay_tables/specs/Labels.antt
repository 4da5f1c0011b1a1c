-- Which bytes are the label of a scenario.
use Rattle.std.specs.Prelude.{ℕ, nat_le, nat_eq, Bool, ◌&&◌, ◌||◌, List, length}
use Rattle.std.specs.List.{list_all}
use Rattle.pay_meaning.specs.Words.{is_digit, is_letter}

-- an ASCII letter in upper case
abbrev pub is_capital : ℕ → Bool
is_capital byte = nat_le 65 byte && nat_le byte 90

-- an ASCII letter, a digit, `_`, `.` or `-`
abbrev pub is_label_byte : ℕ → Bool
is_label_byte byte = is_letter byte || is_capital byte || is_digit byte || nat_eq byte 46 || nat_eq byte 45

-- 1 to 64 ASCII letters, digits, `_`, `.` and `-`
unfoldable pub is_label : List ℕ → Bool
is_label bytes = nat_le 1 (length bytes) && nat_le (length bytes) 64 && list_all is_label_byte bytes
