-- What the parts of a decimal in a text stand for, and how its value is reckoned from them.
use Rattle.std.specs.Prelude.{ℕ, ◌+◌, ◌-◌, ◌*◌, ◌^◌, List, length, take, ℤ, pos, negsuc}
use Rattle.pay_fixed.specs.declared.read.Parts.{Parts}
use Rattle.pay_fixed.specs.Grammar.{number}
use Rattle.pay_fixed.specs.Reading.{Reading}

-- the decimal and the rest of a text that the parts are
abbrev pub reading : Parts → Reading
reading p = record {
  decimal = record { negative = p.negative; whole = p.whole.now; fraction = p.fraction.now; exponent = p.exponent };
  rest = p.rest.now;
}

-- a value from which on none need be known exactly
abbrev pub beyond : ℕ
beyond = 10_000_000_000_000_000_010

-- the number that the first digits write, with zeros after them where there are too few
abbrev pub leading : ℕ → List ℕ → ℕ
leading count digits = number (take count digits) * 10 ^ (count - length digits)

-- a length and five more, moved by a power of ten
abbrev pub shifted_length : ℕ → ℤ → ℕ
shifted_length n (pos e) = n + 5 + e
shifted_length n (negsuc e) = n + 4 - e
