-- Names of which none is there twice.
use Rattle.std.proofs.Common.{◌≡◌, ℕ, zero, suc, ◌<◌, List, [], ◌∷◌, length, refl, sym, ap, arith}
use Rattle.pay_tree.specs.Owned.{name_at}
use Rattle.pay_runs.specs.RunLaws.{IsNotAmong, AreApart}

-- a name that is none of these is not at any of their places
not_at : (names : List (List ℕ)) (name : List ℕ) → IsNotAmong names name → (place : ℕ) → place < length names → ¬ (name_at names place ≡ name)
not_at [] name h place within = absurd (omega arith)
not_at (first ∷ rest) name h zero within = h.0
not_at (first ∷ rest) name h (suc place) within = not_at rest name h.1 place (omega arith)

-- two places of one name are one
pub one_place : (names : List (List ℕ)) → AreApart names → (a b : ℕ) → a < length names → b < length names
    → name_at names a ≡ name_at names b → a ≡ b
one_place [] apart a b first second same = absurd (omega arith)
one_place (name ∷ rest) apart zero zero first second same = refl
one_place (name ∷ rest) apart zero (suc b) first second same = absurd (not_at rest name apart.0 b (omega arith) (sym same))
one_place (name ∷ rest) apart (suc a) zero first second same = absurd (not_at rest name apart.0 a (omega arith) same)
one_place (name ∷ rest) apart (suc a) (suc b) first second same = ap suc (one_place rest apart.1 a b (omega arith) (omega arith) same)
