-- A text without the blanks at its end, by its last byte, and a field of a record without blanks.
use Rattle.std.proofs.Common.{◌≡◌, ℕ, zero, suc, List, [], ◌∷◌, ◌++◌, Bool, true, false, refl}
use Rattle.std.specs.Prelude.{◌&&◌, get_or, unwrap_or}
use Rattle.csv.specs.Records.{field_at}
use Rattle.pay_fixed.specs.Reading.{all_blank, is_blank}
use Rattle.pay_tables.specs.CsvReader.{trimmed_record}
use Rattle.pay_tables.specs.Records.{Record, before_blanks, trimmed}

-- a last byte that is a blank counts for nothing in the test whether all are blanks
all_blank-blank : (text : List ℕ) (byte : ℕ) → is_blank byte ≡ true → all_blank (text ++ byte ∷ []) ≡ all_blank text
all_blank-blank [] byte blank = rw blank refl
all_blank-blank (first ∷ rest) byte blank = rw (all_blank-blank rest byte blank) refl

-- where the last byte is no blank, not all are
all_blank-other : (text : List ℕ) (byte : ℕ) → is_blank byte ≡ false → all_blank (text ++ byte ∷ []) ≡ false
all_blank-other [] byte other = rw other refl
all_blank-other (first ∷ rest) byte other = rw (all_blank-other rest byte other) (by (is_blank first))
  where
    by : (test : Bool) → (test && false) ≡ false
    by true = refl
    by false = refl

-- a blank at the end is dropped
pub before_blanks-blank : (text : List ℕ) (byte : ℕ) → is_blank byte ≡ true → before_blanks (text ++ byte ∷ []) ≡ before_blanks text
before_blanks-blank [] byte blank = rw blank refl
before_blanks-blank (first ∷ rest) byte blank = rw (all_blank-blank rest byte blank, before_blanks-blank rest byte blank) refl

-- a text whose last byte is no blank stays whole
pub before_blanks-other : (text : List ℕ) (byte : ℕ) → is_blank byte ≡ false → before_blanks (text ++ byte ∷ []) ≡ text ++ byte ∷ []
before_blanks-other [] byte other = rw other refl
before_blanks-other (first ∷ rest) byte other = rw (all_blank-other (first ∷ rest) byte other, before_blanks-other rest byte other) refl

-- both cases of a last byte
pub ruleset last_byte = (before_blanks-blank, before_blanks-other)

-- a field of a record without blanks is that field without them
pub field-trimmed : (fields : Record) (at : ℕ) → get_or (trimmed_record fields) at [] ≡ trimmed (unwrap_or (field_at fields at) [])
unfolding field_at
field-trimmed [] at = refl
field-trimmed (field ∷ fields) zero = refl
field-trimmed (field ∷ fields) (suc at) = field-trimmed fields at
