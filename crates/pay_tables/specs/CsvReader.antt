-- What a reader of the crate `csv` over bytes has left: the view of the records of a file stands on this, and nothing else does.
use denote.Ref.{Bor}
use Rattle.std.specs.Prelude.{◌≡◌, ◌⊎◌, ℕ, ◌+◌, true, List, [], length, map, Option, Some, None}
use Rattle.csv.specs.Reading.{Ready, default_config, has_failed, is_flexible, reader_config, reader_state, reader_trim, records_from, source_of}
use Rattle.csv.specs.declared.parser.State.{State}
use Rattle.csv.specs.declared.reader.Reader.{Reader}
use Rattle.csv.specs.declared.reader.Trim.TheVariants as trim
use Rattle.pay_tables.specs.Records.{Record, trimmed}

-- a reader over bytes
abbrev pub CsvReader : Type 0
CsvReader = Reader (Bor (List ℕ))

-- the bytes that it has left, unless a read of it has failed
abbrev pub bytes_left : CsvReader → Option (List ℕ)
bytes_left reader = source_of (λ bytes. Some bytes.now) reader

-- the records of bytes that are read from this state, and none where a read has failed
abbrev pub records_at : State → Option (List ℕ) → List Record
records_at state None = []
records_at state (Some bytes) = records_from default_config (length bytes + 1) state bytes

-- a record without the blanks at both ends of its fields
abbrev pub trimmed_record : Record → Record
trimmed_record fields = map trimmed fields

-- the records that it has left
abbrev pub records_left : CsvReader → List Record
records_left reader = map trimmed_record (records_at (reader_state reader) (bytes_left reader))

-- it reads records of any length as they stand, and these bytes are left
pub record IsSetUp (reader : CsvReader) : Type 0 where
  pub untrimmed : reader_trim reader ≡ trim.None
  pub flexible : is_flexible reader ≡ true
  pub config : reader_config reader ≡ default_config
  pub ready : Ready reader
  pub bytes : List ℕ
  pub left : bytes_left reader ≡ Some bytes

-- a read of it has failed, or it is set up
abbrev pub IsReader : CsvReader → Type 0
IsReader reader = (has_failed reader ≡ true) ⊎ IsSetUp reader
