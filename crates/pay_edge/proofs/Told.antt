-- Two calls of a depot put together, and facts on files moved from one state of it to another.
use Rattle.std.proofs.Common.{◌≡◌, ℕ, List, refl, sym, subst, ◌∙◌}
use Rattle.std.proofs.Math.Nat.{le_trans, le_refl}
use Rattle.std.specs.Prelude.{IsSomeAnd, IfSome}
use Rattle.std.specs.declared.option.Option.{Option}
use Rattle.pay_edge.specs.Edge.{Files, OnlyRead, SameBut}

-- One depot was only read, twice.
pub then_read : {D : Type 0} {told : D → Option Files} {reads : D → List ℕ → ℕ} {writes : D → ℕ} {a b c : D}
    → OnlyRead told reads writes a b → OnlyRead told reads writes b c → OnlyRead told reads writes a c
then_read {reads = reads} {a = a} {b = b} {c = c} p q = record {
  files = q.files ∙ p.files;
  write_faults = q.write_faults ∙ p.write_faults;
  later = λ name. le_trans (p.later name) (q.later name);
}

-- Counts by name stood but for one, twice.
pub then_same : {name : List ℕ} {a b c : List ℕ → ℕ} → SameBut name a b → SameBut name b c → SameBut name a c
then_same p q = record { others = λ other apart. q.others other apart ∙ p.others other apart }

-- what is said of the files of a depot, said of those before it was read
pub told_before : (P : Files → Type 0) {old new : Option Files} → new ≡ old → IfSome new P → IfSome old P
told_before P e h = subst (λ told. IfSome told P) e h

pub told_after : (P : Files → Type 0) {old new : Option Files} → new ≡ old → IfSome old P → IfSome new P
told_after P e h = subst (λ told. IfSome told P) (sym e) h

-- the same where the files must be told
pub there_before : (P : Files → Type 0) {old new : Option Files} → new ≡ old → IsSomeAnd new P → IsSomeAnd old P
there_before P e h = subst (λ told. IsSomeAnd told P) e h

-- A depot that is left alone was only read.
pub read_none : {D : Type 0} (told : D → Option Files) (reads : D → List ℕ → ℕ) (writes : D → ℕ) (a : D) → OnlyRead told reads writes a a
read_none told reads writes a = record { files = refl; write_faults = refl; later = λ name. le_refl (reads a name) }

pub same_none : (name : List ℕ) (counts : List ℕ → ℕ) → SameBut name counts counts
same_none name counts = record { others = λ other apart. refl }
