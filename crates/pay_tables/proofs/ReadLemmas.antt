-- What a read of `csv` does to a reader over bytes that is set up, or of which a read has failed.
use Rattle.std.proofs.Common.{◌≡◌, Some, inl, inr, refl, ◌∙◌, Bool, true, false}
use Rattle.std.specs.Prelude.{IfErr, IfOk, IsErrAnd, MatchResult, OnOk, Result, Ok, Err}
use Rattle.csv.specs.Reading.{ExplainsRead, ReadRecord, Ready, error_kind, has_failed, is_flexible, pending_of, reader_trim, stops_reader, took_first}
use Rattle.csv.specs.declared.error.Error.{Error}
use Rattle.csv.specs.declared.error.ErrorKind.{ErrorKind}
use Rattle.csv.specs.declared.error.ErrorKind.TheVariants as kind
use Rattle.csv.specs.declared.reader.Trim.TheVariants as trim
use Rattle.pay_tables.specs.CsvReader.{CsvReader, IsReader, IsSetUp, bytes_left, records_left, trimmed_record}
use Rattle.pay_tables.specs.Reader.{Advances}
use Rattle.pay_tables.specs.Records.{Record}
use Rattle.pay_tables.proofs.CsvLemmas.{advances-map, reads-advances}

-- what the clauses of a read say of it
pub record Told (old new : CsvReader) (fields : Record) (result : Result Bool Error) : Type 0 where
  pub ready : reader_trim old ≡ trim.None → OnOk result (took_first new ≡ true)
  pub reads : IfOk result (λ found. reader_trim old ≡ trim.None → Ready old → ReadRecord (λ bytes. Some bytes.now) old new found fields)
  pub flexible : OnOk result (is_flexible new ≡ is_flexible old)
  pub goes : OnOk result (has_failed new ≡ has_failed old)
  pub fails : IfErr result (λ error. has_failed new ≡ stops_reader (error_kind error))
  pub failed : has_failed old ≡ true → result ≡ Ok false
  pub why : IfErr result (λ error. Ready old → ExplainsRead (λ bytes. Some bytes.now) old new false (error_kind error))

-- a read that fails where records may have any length stops the reader
stops : (old new : CsvReader) (why : ErrorKind) → is_flexible old ≡ true → ExplainsRead (λ bytes. Some bytes.now) old new false why
    → stops_reader why ≡ true
stops old new (kind.Io e) flexible explained = refl
stops old new kind.OutOfMemory flexible explained = refl
stops old new (kind.UnequalLengths pos expected len) flexible explained = cc (explained.0, flexible)
stops old new (kind.Utf8 pos err) flexible explained = cc explained.0
stops old new (kind.Serialize text) flexible explained = absurd explained
stops old new (kind.Deserialize pos err) flexible explained = absurd explained

-- a record was read, or none was left
read-on : (old new : CsvReader) (found : Bool) (before fields : Record) → IsSetUp old → Told old new fields (Ok found)
    → IsSetUp new × Advances (trimmed_record before, records_left old) (trimmed_record fields, records_left new) found
read-on old new found before fields setup told =
    let read = told.reads setup.untrimmed setup.ready in
    let left : pending_of (Some new.rdr.now) new ≡ bytes_left new = rw read.1 refl in
    let next = reads-advances old.state setup.bytes (bytes_left new) found before fields new.state (rw (setup.config, setup.left, left) at read.0) in (
      record {
        untrimmed = read.3 ∙ setup.untrimmed;
        flexible = told.flexible ∙ setup.flexible;
        config = read.2 ∙ setup.config;
        ready = inl (told.ready setup.untrimmed);
        bytes = next.0;
        left = next.1;
      },
      rw setup.left (advances-map trimmed_record before fields _ _ found next.2),
    )

-- whatever a read answers, a reader stays one
pub stays : (old new : CsvReader) (fields : Record) (result : Result Bool Error) → IsReader old → Told old new fields result → IsReader new
stays old new fields (Ok found) (inl failed) told = inl (told.goes ∙ failed)
stays old new fields (Ok found) (inr setup) told = inr (read-on old new found fields fields setup told).0
stays old new fields (Err error) (inl failed) told = cc (told.failed failed)
stays old new fields (Err error) (inr setup) told =
    inl (told.fails ∙ stops old new (error_kind error) setup.flexible (told.why setup.ready))

-- where a read has an answer, it is of the records that are left
pub advances : (old new : CsvReader) (before fields : Record) (result : Result Bool Error) → IsReader old → Told old new fields result
    → IfOk result (Advances (trimmed_record before, records_left old) (trimmed_record fields, records_left new))
advances old new before fields (Err error) is told = tt
advances old new before fields (Ok found) (inr setup) told = (read-on old new found before fields setup told).1
advances old new before fields (Ok true) (inl failed) told = cc (told.failed failed)
advances old new before fields (Ok false) (inl failed) told = rw failed refl

-- an answer whose error alone was changed
pub error_changed : {T E F : Type 0} (result : Result T E) (answer : Result T F) (P : T → Type 0) (Q : E → F → Type 0)
    → MatchResult result (λ x. answer ≡ Ok x) (λ e. IsErrAnd answer (Q e)) → IfOk result P → IfOk answer P
error_changed (Ok x) answer P Q is holds = rw is holds
error_changed (Err e) (Ok x) P Q is holds = absurd is
error_changed (Err e) (Err f) P Q is holds = tt
