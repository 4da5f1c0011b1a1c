-- What a depot of files and a sink of bytes mean, and what a call does to them.
use Rattle.std.specs.Prelude.{◌≡◌, ◌≢◌, ◌↔◌, ℕ, ◌+◌, ◌-◌, ◌^◌, ◌≤◌, min, List, ◌++◌, length, take, drop, is_some, IsSomeAnd, ⊤, nat_le}
use Rattle.std.specs.Prelude.{if◌then◌else◌}
use Rattle.std.specs.declared.option.Option.{Option}
use Rattle.std.specs.declared.option.Option.TheVariants.{None, Some}
use Rattle.std.specs.Option.{option_map}
use Rattle.std.specs.Ordering.{nat_cmp}
use Rattle.std.specs.Cmp.Lexicographic.{slice_cmp}
use Rattle.std.specs.FinMap.{FinMap, get, insert}

-- files by name, both as bytes
abbrev pub Files : Type 0
Files = FinMap (slice_cmp nat_cmp) (List ℕ)

-- the bytes of a file, where the files are told and it is there
abbrev pub file_in : Option Files → List ℕ → Option (List ℕ)
file_in None name = None
file_in (Some files) name = get files name

-- a count is greater than before, or stands at its end
abbrev pub Rose : ℕ → ℕ → Type 0
Rose before now = min (before + 1) (2 ^ 64 - 1) ≤ now

-- one more, or the same at the end of 64 bits
abbrev pub one_more : ℕ → ℕ
one_more n = min (n + 1) (2 ^ 64 - 1)

-- A depot was only read: its files and its count of write faults stand, and no count of read faults fell.
pub record OnlyRead {D : Type 0} (told : D → Option Files) (reads : D → List ℕ → ℕ) (writes : D → ℕ) (old new : D) : Type 0 where
  pub files : told new ≡ told old
  pub write_faults : writes new ≡ writes old
  pub later : (name : List ℕ) → reads old name ≤ reads new name

-- counts by name stand, but for this name's
pub record SameBut (name : List ℕ) (old new : List ℕ → ℕ) : Type 0 where
  pub others : (other : List ℕ) → other ≢ name → new other ≡ old other

-- The first n bytes of a buffer are those of a file from this place on, and there are none exactly at its end.
pub record Fetches (file : List ℕ) (at n : ℕ) (buffer : List ℕ) : Type 0 where
  pub bytes : take n buffer ≡ take n (drop at file)
  pub end : (n ≡ 0) ↔ (length file ≤ at)

-- the files are told, and this one is not there
abbrev pub IsAbsent : Option Files → List ℕ → Type 0
IsAbsent told name = IsSomeAnd told (λ files. get files name ≡ None)

-- Whether the files are told stands, and so does each file but this one.
pub record SameOthers (name : List ℕ) (old new : Option Files) : Type 0 where
  pub told : is_some new ≡ is_some old
  pub others : (other : List ℕ) → other ≢ name → file_in new other ≡ file_in old other

-- the files with these bytes under this name, where they are told
abbrev pub replaced : Option Files → List ℕ → List ℕ → Option Files
replaced told name bytes = option_map (λ files. insert files name bytes) told

-- a text with these bytes after it, where it is told
abbrev pub appended : Option (List ℕ) → List ℕ → Option (List ℕ)
appended told bytes = option_map (λ text. text ++ bytes) told

-- Some first bytes of these were appended.
pub record AppendsFront (old new : Option (List ℕ)) (bytes : List ℕ) : Type 0 where
  pub front : List ℕ
  pub rest : List ℕ
  pub split : front ++ rest ≡ bytes
  pub text : new ≡ appended old front

-- what reading a file as a whole gives: it is not there, it is longer than the limit, or its bytes
pub data Whole : Type 0 where
  Missing : Whole
  Long : Whole
  Bytes : List ℕ → Whole

-- the same of what stands under a name, if anything does
abbrev pub whole_from : Option (List ℕ) → ℕ → Whole
whole_from None limit = Missing
whole_from (Some file) limit = if nat_le (length file) limit then Bytes file else Long

-- the file of this name, as a whole
abbrev pub whole_of : Files → List ℕ → ℕ → Whole
whole_of files name limit = whole_from (get files name) limit

-- a file begins with these bytes, where it is there
abbrev pub IsFrontOf : Option (List ℕ) → List ℕ → Type 0
IsFrontOf None bytes = ⊤
IsFrontOf (Some file) bytes = take (length bytes) file ≡ bytes

-- the file of this name begins with these bytes, where it is there
abbrev pub IsBegun : Files → List ℕ → List ℕ → Type 0
IsBegun files name bytes = IsFrontOf (get files name) bytes
