-- What the contracts of the functions behind the report say of a writer of `csv`, and of fields; no public contract cites it.
use Rattle.std.specs.Prelude.{◌≡◌, ℕ, false, List, [], ◌++◌, Vec}
use Rattle.csv.specs.Writing.{default_writer, needs_quotes, writer_setup, fields_written, has_written, writer_under, writer_pending}
use Rattle.csv.specs.declared.writer.Writer.{Writer}

-- a field that `csv` writes as it is, without quotes
abbrev pub IsPlain : List ℕ → Type 0
IsPlain field = needs_quotes default_writer field ≡ false

-- a writer with the defaults of `csv`, at the start of a line
pub record IsReady {Z : Type 0} (writer : Writer (Vec ℕ Z)) : Type 0 where
  pub setup : writer_setup writer ≡ default_writer
  pub no_fields : fields_written writer ≡ 0
  pub at_start : has_written writer ≡ false

-- what the writer has handed on to memory
abbrev pub text_under : {Z : Type 0} → Writer (Vec ℕ Z) → List ℕ
text_under writer = (writer_under writer).items

-- what was written: that, and what the writer still holds
abbrev pub written : {Z : Type 0} → Writer (Vec ℕ Z) → List ℕ
written writer = text_under writer ++ writer_pending writer

-- a writer at the start of a line, which has handed on all that was written
pub record IsWhole {Z : Type 0} (writer : Writer (Vec ℕ Z)) : Type 0 where
  pub ready : IsReady writer
  pub handed_on : writer_pending writer ≡ []
