-- What one fetch more says of the whole file.
use Rattle.std.proofs.Common.{◌≡◌, ℕ, ◌+◌, ◌≤◌, List, [], ◌++◌, refl, length, take, drop, ap, sym, subst, ◌∙◌, arith, length-append, length-take}
use Rattle.std.proofs.Math.Seq.{take-append-add}
use Rattle.std.proofs.lemmas.List.{take-append-drop}
use Rattle.std.specs.Prelude.{IsSomeAnd, IfSome}
use Rattle.std.specs.declared.option.Option.{Option}
use Rattle.std.specs.declared.option.Option.TheVariants.{None, Some}
use Rattle.std.specs.FinMap.{get}
use Rattle.pay_edge.specs.Edge.{Files, Fetches, IsFrontOf, IsBegun}

front_more-file : (file bytes buffer : List ℕ) (n : ℕ) → n ≤ length buffer → take (length bytes) file ≡ bytes → Fetches file (length bytes) n buffer
    → take (length (bytes ++ take n buffer)) file ≡ bytes ++ take n buffer
front_more-file file bytes buffer n fits front f =
    let rest = drop (length bytes) file in
    let split : bytes ++ rest ≡ file = ap (λ b. b ++ rest) (sym front) ∙ take-append-drop (length bytes) file in
    let size : length (bytes ++ take n buffer) ≡ length bytes + n = omega (arith, length-append bytes (take n buffer), length-take n buffer) in
    ap (λ k. take k file) size ∙ ap (take (length bytes + n)) (sym split) ∙ take-append-add bytes rest n ∙ ap (λ b. bytes ++ b) (sym f.bytes)

-- What a file begins with, it begins with after a fetch too.
front_more : (o : Option (List ℕ)) (bytes buffer : List ℕ) (n : ℕ) → n ≤ length buffer → IsFrontOf o bytes
    → IsSomeAnd o (λ file. Fetches file (length bytes) n buffer) → IsFrontOf o (bytes ++ take n buffer)
front_more None bytes buffer n fits front f = tt
front_more (Some file) bytes buffer n fits front f = front_more-file file bytes buffer n fits front f

-- and so does the file of a name, where the files are told
pub begun_more : (told : Option Files) (name bytes buffer : List ℕ) (at n : ℕ) → at ≡ length bytes → n ≤ length buffer
    → IfSome told (λ files. IsBegun files name bytes)
    → IfSome told (λ files. IsSomeAnd (get files name) (λ file. Fetches file at n buffer)) → IfSome told (λ files. IsBegun files name (bytes ++ take n buffer))
begun_more None name bytes buffer at n is fits front f = tt
begun_more (Some files) name bytes buffer at n is fits front f =
    front_more (get files name) bytes buffer n fits front (subst (λ k. IsSomeAnd (get files name) (λ file. Fetches file k n buffer)) is f)

front_none : (o : Option (List ℕ)) (bytes : List ℕ) → bytes ≡ [] → IsFrontOf o bytes
front_none None bytes e = tt
front_none (Some file) bytes e = rw e refl

-- No bytes are the front of any file.
pub begun_none : (told : Option Files) (name bytes : List ℕ) → bytes ≡ [] → IfSome told (λ files. IsBegun files name bytes)
begun_none None name bytes e = tt
begun_none (Some files) name bytes e = front_none (get files name) bytes e
