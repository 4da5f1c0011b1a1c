-- Minus signs, one after another.
use Rattle.std.proofs.Common.{◌≡◌, ℕ, suc, ◌+◌, ◌<◌, List, length, drop, refl, arith}
use Rattle.std.proofs.lemmas.List.{length-drop}
use Rattle.pay_meaning.specs.Language.{Number, negative}
use Rattle.pay_place.specs.declared.place.Prefix.{Prefix}
use Rattle.pay_grammar.specs.Reading.{signed_by}

-- the first of the signs that are left is applied first
pub signed_drop : (signs : List Prefix) (i : ℕ) (atom : Number) → i < length signs
    → signed_by (length (drop i signs)) atom ≡ signed_by (length (drop (i + 1) signs)) (negative atom)
signed_drop signs i atom h =
    let e : length (drop i signs) ≡ suc (length (drop (i + 1) signs)) = omega (arith, length-drop i signs, length-drop (i + 1) signs) in
    rw e refl
