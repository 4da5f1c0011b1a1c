-- `not`s, one after another.
use Rattle.std.proofs.Common.{◌≡◌, ℕ, suc, ◌+◌, ◌<◌, List, length, drop, refl, arith}
use Rattle.std.proofs.lemmas.List.{length-drop}
use Rattle.pay_meaning.specs.Language.{Condition, negation}
use Rattle.pay_place.specs.declared.place.Negation.{Negation}
use Rattle.pay_grammar.specs.Reading.{negated_by}

-- the first of the `not`s that are left is applied first
pub negated_drop : (nots : List Negation) (i : ℕ) (c : Condition) → i < length nots
    → negated_by (length (drop i nots)) c ≡ negated_by (length (drop (i + 1) nots)) (negation c)
negated_drop nots i c h =
    let e : length (drop i nots) ≡ suc (length (drop (i + 1) nots)) = omega (arith, length-drop i nots, length-drop (i + 1) nots) in
    rw e refl
