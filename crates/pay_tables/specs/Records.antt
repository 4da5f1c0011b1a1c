-- The records of a file of comma-separated values.
use Rattle.std.specs.Prelude.{ℕ, List, [], ◌∷◌, map, if◌then◌else◌}
use Rattle.csv.specs.Reading.{records, default_config, strip_bom}
use Rattle.pay_fixed.specs.Reading.{after_blanks, all_blank}

-- a record: its fields, each as its bytes
abbrev pub Record : Type 0
Record = List (List ℕ)

-- a text without the blanks at its end; a blank is a space or a tab
abbrev pub before_blanks : List ℕ → List ℕ
before_blanks [] = []
before_blanks (byte ∷ rest) = if all_blank (byte ∷ rest) then [] else byte ∷ before_blanks rest

-- a text without the blanks at both ends
abbrev pub trimmed : List ℕ → List ℕ
trimmed field = before_blanks (after_blanks field)

-- The records that `csv` reads in bytes: fields parted by commas, a field in double quotes where one begins it, records ended by a carriage
-- return, a line feed or both, no record in an empty line. It drops a byte order mark at the front itself.
abbrev pub csv_records : List ℕ → List Record
csv_records bytes = records default_config (strip_bom bytes)

-- the records of a file: one byte order mark at its front is dropped, `csv` reads the rest, and blanks at both ends of each field are dropped
unfoldable pub records_in : List ℕ → List Record
records_in bytes = map (map trimmed) (csv_records (strip_bom bytes))
