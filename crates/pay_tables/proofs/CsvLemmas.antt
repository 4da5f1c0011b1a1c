-- The record that a read of `csv` gives is the first of the records left, and the others are left after it.
use Rattle.std.proofs.Common.{◌≡◌, ℕ, zero, suc, ◌+◌, ◌<◌, List, [], ◌∷◌, length, map, Option, Some, None, Bool, true, false}
use Rattle.std.proofs.Common.{◌⊎◌, inl, inr, refl, sym, ap, ◌∙◌, arith, add-one}
use Rattle.std.proofs.lemmas.Bool.{cases_Bool}
use Rattle.csv.specs.Machine.{Read, ends_at_end, field_after, fields_after, is_end, next_record, step}
use Rattle.csv.specs.Reading.{NextIs, ReadsNext, default_config, records_from, records_next}
use Rattle.csv.specs.declared.parser.Config.{Config}
use Rattle.csv.specs.declared.parser.State.{State}
use Rattle.csv.specs.declared.parser.State.TheVariants as state
use Rattle.pay_tables.specs.CsvReader.{records_at}
use Rattle.pay_tables.specs.Reader.{Advances}
use Rattle.pay_tables.specs.Records.{Record}

-- a record that the end of the bytes ended leaves none
last-left : (fields : Record) (read : Read) → Some (fields, state.StartRecord, []) ≡ Some read → (read.1 ≡ state.StartRecord) × (read.2 ≡ [])
last-left fields read is =
    let same : (fields, state.StartRecord, []) ≡ read = cc is in
    (sym (ap (λ (r : Read). r.1) same), sym (ap (λ (r : Read). r.2) same))

-- a record takes a byte, or it is the last one
shorter : (config : Config) (at : State) (fields : Record) (field bytes : List ℕ) (read : Read) → next_record config at fields field bytes ≡ Some read
    → (length read.2 < length bytes) ⊎ ((read.1 ≡ state.StartRecord) × (read.2 ≡ []))
unfolding next_record
shorter config at fields field [] read is = elim (cases_Bool (ends_at_end at)) [
  | inl hit ↦ inr (last-left _ read (rw hit at is))
  | inr miss ↦ cc (rw miss at is)
]
shorter config at fields field (byte ∷ rest) read is =
    let action = (step config at byte).1 in
    elim (cases_Bool (is_end action)) [
      | inl hit ↦
          let same : (fields_after action fields field, (step config at byte).0, rest) ≡ read = cc (rw hit at is) in
          inl (rw (← same) (omega arith))
      | inr miss ↦ elim (shorter config (step config at byte).0 (fields_after action fields field) (field_after action byte field) rest read (rw miss at is)) [
        | inl less ↦ inl (omega arith)
        | inr last ↦ inr last
      ]
    ]

-- nothing is read from no bytes, at a record's start
none-left : (config : Config) (turns : ℕ) → records_from config turns state.StartRecord [] ≡ []
unfolding records_from next_record
none-left config zero = refl
none-left config (suc turns) = refl

-- a read, and the records after it, given what is said of these
next-same : (config : Config) (n m : ℕ) (at : State) (bytes : List ℕ)
    → ((after : State) (rest : List ℕ) → length rest < length bytes → records_from config n after rest ≡ records_from config m after rest)
    → (next : Option Read) → next_record config at [] [] bytes ≡ next → records_next (records_from config n) next ≡ records_next (records_from config m) next
next-same config n m at bytes same None is = refl
next-same config n m at bytes same (Some read) is = elim (shorter config at [] [] bytes read is) [
  | inl less ↦ ap (λ (records : List Record). read.0 ∷ records) (same read.1 read.2 less)
  | inr last ↦ rw (last.0, last.1, none-left config n, none-left config m) refl
]

-- once there are turns enough, their number is of no account
turns-same : (config : Config) (n m : ℕ) (at : State) (bytes : List ℕ) → length bytes < n → length bytes < m
    → records_from config n at bytes ≡ records_from config m at bytes
unfolding records_from
turns-same config zero m at bytes enough also = absurd (omega arith)
turns-same config (suc n) zero at bytes enough also = absurd (omega arith)
turns-same config (suc n) (suc m) at bytes enough also =
    next-same config n m at bytes (λ (after : State) (rest : List ℕ) less. turns-same config n m after rest (omega arith) (omega arith))
    (next_record config at [] [] bytes) refl

-- the records of bytes that have a next one
records-next : (at : State) (bytes : List ℕ) (read : Read) → next_record default_config at [] [] bytes ≡ Some read
    → records_at at (Some bytes) ≡ read.0 ∷ records_at read.1 (Some read.2)
unfolding records_from
records-next at bytes read is =
    let size = length bytes in
    let first : records_at at (Some bytes) ≡ read.0 ∷ records_from default_config size read.1 read.2 = rw (add-one, is) refl in
    first ∙ elim (shorter default_config at [] [] bytes read is) [
      | inl less ↦ ap (λ (records : List Record). read.0 ∷ records) (turns-same default_config size (length read.2 + 1) read.1 read.2 less (omega arith))
      | inr last ↦ rw (last.0, last.1, none-left default_config size, none-left default_config 1) refl
    ]

-- what a read shows is the first of the records that were left, with the others left, or that none was
next-advances : (at : State) (bytes : List ℕ) (next : Option Read) → next_record default_config at [] [] bytes ≡ next
    → (found : Bool) (before fields : Record) (after : State) (rest : List ℕ) → NextIs next found fields after rest
    → Advances (before, records_at at (Some bytes)) (fields, records_at after (Some rest)) found
unfolding records_from
next-advances at bytes None none found before fields after rest is = rw (is, add-one, none) refl
next-advances at bytes (Some read) some found before fields after rest is = rw (is.0, is.1, is.2, is.3) (records-next at bytes read some)

-- so does a read of known bytes, after which those that are left are known
pub reads-advances : (at : State) (bytes : List ℕ) (left : Option (List ℕ)) (found : Bool) (before fields : Record) (after : State)
    → ReadsNext default_config at (Some bytes) left found fields after
    → (rest : List ℕ) × (left ≡ Some rest) × Advances (before, records_at at (Some bytes)) (fields, records_at after left) found
reads-advances at bytes None found before fields after is = absurd is
reads-advances at bytes (Some rest) found before fields after is =
    (rest, refl, next-advances at bytes (next_record default_config at [] [] bytes) refl found before fields after rest is)

-- and so it is where each record is changed in the same way
pub advances-map : (f : Record → Record) (before after : Record) (left rest : List Record) (found : Bool) → Advances (before, left) (after, rest) found
    → Advances (f before, map f left) (f after, map f rest) found
advances-map f before after left rest true is = ap (map f) is
advances-map f before after left rest false is = ap (map f) is
