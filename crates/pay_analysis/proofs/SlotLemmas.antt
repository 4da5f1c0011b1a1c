-- Domains by number: what holds of each of them.
use Rattle.std.proofs.Common.{◌≡◌, ℕ, zero, suc, ◌<◌, ℤ, pos, List, [], ◌∷◌, ◌++◌, length, map, get_or, set, drop, ◌+◌, refl, ap, ◌∙◌, arith}
use Rattle.std.proofs.Math.Seq.{drop-cons}
use Rattle.std.proofs.lemmas.Int.{ints}
use Rattle.pay_domains.specs.declared.piece.Piece.{Piece}
use Rattle.pay_domains.specs.Pieces.{point, IsDomain}
use Rattle.pay_facts.specs.SlotFacts.{SlotDomains, slot_domain}
use Rattle.pay_analysis.specs.Walking.{AreAllRaws, AreDomains}

-- what holds of each domain holds after one is added
pub all_pushed : (P : List Piece → Type 0) (domains : SlotDomains) (new : List Piece) → ((slot : ℕ) → P (slot_domain domains slot)) → P new
    → (slot : ℕ) → P (slot_domain (domains ++ (new ∷ [])) slot)
all_pushed P [] new all one zero = one
all_pushed P [] new all one (suc slot) = all zero
all_pushed P (first ∷ rest) new all one zero = all zero
all_pushed P (first ∷ rest) new all one (suc slot) = all_pushed P rest new (λ s. all (suc s)) one slot

-- and after one is replaced
pub all_set : (P : List Piece → Type 0) (domains : SlotDomains) (place : ℕ) (new : List Piece) → ((slot : ℕ) → P (slot_domain domains slot)) → P new
    → (slot : ℕ) → P (slot_domain (set domains place new) slot)
all_set P [] place new all one slot = all slot
all_set P (first ∷ rest) zero new all one zero = one
all_set P (first ∷ rest) zero new all one (suc slot) = all (suc slot)
all_set P (first ∷ rest) (suc place) new all one zero = all zero
all_set P (first ∷ rest) (suc place) new all one (suc slot) = all_set P rest place new (λ s. all (suc s)) one slot

-- a point is a domain
pub point_domain : (raw : ℤ) → IsDomain (point raw)
point_domain raw = record { rises = (omega (arith, ints), tt); few = omega arith }

pub points_domains : (values : List ℤ) → AreDomains (map point values)
points_domains [] slot = point_domain (pos 0)
points_domains (value ∷ rest) zero = point_domain value
points_domains (value ∷ rest) (suc slot) = points_domains rest slot

pub no_raws : AreAllRaws []
no_raws slot = (omega (arith, ints), omega (arith, ints), tt)

-- what is left of a list from a place on: the element there, and what is left from the next place on
pub drop_next : {A : Type 0} (xs : List A) (i : ℕ) (d : A) → i < length xs → drop i xs ≡ get_or xs i d ∷ drop (i + 1) xs
drop_next xs i d h = let next : suc i ≡ i + 1 = omega arith in drop-cons xs i d h ∙ ap (λ n. get_or xs i d ∷ drop n xs) next

-- an element that is there is the same, whatever is taken past the end
pub other_default : {A : Type 0} (xs : List A) (i : ℕ) (d e : A) → i < length xs → get_or xs i d ≡ get_or xs i e
other_default [] i d e h = absurd (omega arith)
other_default (x ∷ xs) zero d e h = refl
other_default (x ∷ xs) (suc i) d e h = other_default xs i d e (omega arith)
