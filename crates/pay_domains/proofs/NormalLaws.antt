-- That a domain rises with gaps, has at most sixteen pieces, and holds what its pieces hold.
use Rattle.std.proofs.Common.{◌≡◌, ℕ, zero, suc, ◌+◌, ◌≤◌, ℤ, List, [], ◌∷◌, length}
use Rattle.std.proofs.Common.{inl, inr, ◌↔◌, refl, ap, ◌∙◌, arith}
use Rattle.pay_domains.specs.declared.piece.Piece.{Piece}
use Rattle.pay_domains.specs.Pieces.{Held, in_order, all_joined, capped, normal, AreProper, AreBeyond, IsCanonical}
use Rattle.pay_domains.specs.DomainLaws.{NormalIsDomain, CanonicalIsUnique, DomainIsNormal}
use Rattle.pay_domains.proofs.NormalLemmas.{canonical_same, all_joined_canonical, all_joined_held, in_order_ordered, in_order_held, cut, beyond_canonical, first_least}
use Rattle.pay_domains.proofs.Ends.{last_high_over, held_to_last}

pub canonical-unique : CanonicalIsUnique
canonical-unique = canonical_same

cut-beyond : (n : ℕ) (z : ℤ) (ps : List Piece) → AreBeyond z ps → AreBeyond z (cut n ps)
cut-beyond zero z [] h = tt
cut-beyond zero z (p ∷ rest) h = (h.0, last_high_over p.low p rest h.1 h.2, tt)
cut-beyond (suc n) z [] h = tt
cut-beyond (suc n) z (p ∷ rest) h = (h.0, h.1, cut-beyond n p.high rest h.2)

cut-canonical : (n : ℕ) (ps : List Piece) → IsCanonical ps → IsCanonical (cut n ps)
cut-canonical zero [] h = tt
cut-canonical zero (p ∷ rest) h = (last_high_over p.low p rest h.0 h.1, tt)
cut-canonical (suc n) [] h = tt
cut-canonical (suc n) (p ∷ rest) h = (h.0, cut-beyond n p.high rest h.1)

cut-length : (n : ℕ) (ps : List Piece) → length (cut n ps) ≤ n + 1
cut-length zero [] = omega arith
cut-length zero (p ∷ rest) = omega arith
cut-length (suc n) [] = omega arith
cut-length (suc n) (p ∷ rest) = omega (arith, cut-length n rest)

cut-few : (n : ℕ) (ps : List Piece) → length ps ≤ n + 1 → cut n ps ≡ ps
cut-few zero [] h = refl
cut-few zero (p ∷ []) h = refl
cut-few zero (p ∷ q ∷ rest) h = absurd (omega arith)
cut-few (suc n) [] h = refl
cut-few (suc n) (p ∷ rest) h = ap (λ xs. p ∷ xs) (cut-few n rest (omega arith))

cut-keeps : (n : ℕ) (x : ℤ) (ps : List Piece) → IsCanonical ps → Held x ps → Held x (cut n ps)
cut-keeps zero x [] h e = e
cut-keeps zero x (p ∷ rest) h e = inl (record { low = first_least x p rest h e; high = held_to_last x p rest h e })
cut-keeps (suc n) x [] h e = e
cut-keeps (suc n) x (p ∷ rest) h (inl w) = inl w
cut-keeps (suc n) x (p ∷ rest) h (inr e) = inr (cut-keeps n x rest (beyond_canonical p.high rest h.1) e)

pub normal-domain : NormalIsDomain
unfolding normal
normal-domain ps h =
    let canonical = all_joined_canonical (in_order ps) (in_order_ordered ps h) in
    record {
      domain = record { rises = cut-canonical 15 (all_joined (in_order ps)) canonical; few = cut-length 15 (all_joined (in_order ps)) };
      keeps = λ x e.
          cut-keeps 15 x (all_joined (in_order ps)) canonical
          ((all_joined_held x (in_order ps) (in_order_ordered ps h)).1 ((in_order_held x ps).1 e));
      only = λ few x e.
          let all : Held x (all_joined (in_order ps)) = rw (cut-few 15 (all_joined (in_order ps)) few) at e in
          (in_order_held x ps).0 ((all_joined_held x (in_order ps) (in_order_ordered ps h)).0 all);
    }

beyond-proper : (z : ℤ) (ps : List Piece) → AreBeyond z ps → AreProper ps
beyond-proper z [] h = tt
beyond-proper z (p ∷ rest) h = (h.1, beyond-proper p.high rest h.2)

-- no piece of a domain is empty
pub canonical_proper : (ps : List Piece) → IsCanonical ps → AreProper ps
canonical_proper [] h = tt
canonical_proper (p ∷ rest) h = (h.0, beyond-proper p.high rest h.1)

pub domain-normal : DomainIsNormal
unfolding normal
domain-normal ps h =
    let proper = canonical_proper ps h.rises in
    let same : all_joined (in_order ps) ≡ ps = canonical_same (all_joined (in_order ps)) ps
    (all_joined_canonical (in_order ps) (in_order_ordered ps proper)) h.rises
    (λ x.
    let left : Held x (all_joined (in_order ps)) ↔ Held x (in_order ps) = all_joined_held x (in_order ps) (in_order_ordered ps proper) in
    let right : Held x (in_order ps) ↔ Held x ps = in_order_held x ps in
    (λ e. right.0 (left.0 e), λ e. left.1 (right.1 e))) in
    ap capped same ∙ cut-few 15 ps h.few
