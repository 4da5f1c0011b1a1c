-- What a sort by lows gives: pieces in order that hold the same.
use Rattle.std.proofs.Common.{◌≡◌, ℕ, zero, suc, ◌+◌, ◌<◌, ℤ, ◌≤ℤ◌, false, List, [], ◌∷◌, length, get_or, inl, inr, ◌↔◌, refl, sym, subst, arith, add-one}
use Rattle.std.proofs.lemmas.Int.{ints}
use Rattle.std.specs.Ordering.{int_cmp, is_lt}
use Rattle.std.specs.List.{All, Contains}
use Rattle.std.specs.List.Sorted.{IsPermutation, IsSortedByKey}
use Rattle.std.proofs.lemmas.List.Sorted.{All-permutation, Contains-permutation, IsPermutation-sym}
use Rattle.std.proofs.lemmas.List.Elements.{All-cons, All-tail, All-nil}
use Rattle.pay_domains.specs.declared.piece.Piece.{Piece}
use Rattle.pay_domains.specs.Pieces.{Within, Held, AreProper}
use Rattle.pay_domains.specs.Merging.{AreFrom, AreInOrder}

not-less : (a b : ℤ) → is_lt (int_cmp b a) ≡ false → a ≤ℤ b
not-less a b h = grind (arith, ints)

-- the key of the sort
abbrev pub low_of : Piece → ℤ
low_of p = p.low

abbrev IsProper : Piece → Type 0
IsProper p = p.low ≤ℤ p.high

each-proper : (ps : List Piece) → AreProper ps → All IsProper ps
each-proper [] h = All-nil IsProper
each-proper (p ∷ rest) h = All-cons IsProper p rest h.0 (each-proper rest h.1)

all-proper : (ps : List Piece) → All IsProper ps → AreProper ps
all-proper [] h = tt
all-proper (p ∷ rest) h = (h 0 p (omega arith), all-proper rest (All-tail IsProper p rest h))

sorted-from : (p : Piece) (ps : List Piece) → AreProper (p ∷ ps) → IsSortedByKey low_of int_cmp (p ∷ ps) → AreFrom p.low ps
sorted-from p [] h k = tt
sorted-from p (q ∷ rest) h k = (
  not-less (p.low) (q.low) (k 0 p (omega arith) (omega arith)),
  h.1.0,
  sorted-from q rest h.1 (λ i d low high. simp add-one (simp add-one at (k (i + 1) d (omega arith) (omega arith)))),
)

pub order-from_sort : (ps qs : List Piece) → AreProper ps → IsPermutation ps qs → IsSortedByKey low_of int_cmp qs → AreInOrder qs
order-from_sort ps [] h moved k = tt
order-from_sort ps (q ∷ rest) h moved k =
    let proper : AreProper (q ∷ rest) = all-proper (q ∷ rest) (All-permutation IsProper ps (q ∷ rest) moved (each-proper ps h)) in
    (proper.0, sorted-from q rest proper k)

-- a raw is held where a piece that it lies in is among the pieces
contained : (x : ℤ) (ps : List Piece) → Held x ps → (p : Piece) × Within x p × Contains ps p
contained x [] h = absurd h
contained x (p ∷ rest) (inl w) = (p, w, (0, omega arith, refl))
contained x (p ∷ rest) (inr h) =
    let found = contained x rest h in
    (found.0, found.1, (found.2.0 + 1, omega (arith, found.2.1), simp add-one found.2.2))

held-within : (x : ℤ) (p d : Piece) (k : ℕ) (ps : List Piece) → k < length ps → get_or ps k d ≡ p → Within x p → Held x ps
held-within x p d k [] h e w = absurd (omega arith)
held-within x p d zero (q ∷ rest) h e w = inl (subst (Within x) (sym e) w)
held-within x p d (suc k) (q ∷ rest) h e w = inr (held-within x p d k rest (omega arith) e w)

held-moved : (x : ℤ) (ps qs : List Piece) → IsPermutation ps qs → Held x ps → Held x qs
held-moved x ps qs moved h =
    let found = contained x ps h in
    let there = Contains-permutation ps qs found.0 moved found.2 in
    held-within x found.0 found.0 there.0 qs there.1 there.2 found.1

pub held-from_sort : (x : ℤ) (ps qs : List Piece) → IsPermutation ps qs → Held x qs ↔ Held x ps
held-from_sort x ps qs moved = (held-moved x qs ps (IsPermutation-sym ps qs moved), held-moved x ps qs moved)
