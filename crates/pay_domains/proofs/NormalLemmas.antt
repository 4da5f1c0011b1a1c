-- Pieces in order, their joining and their capping: what they hold, and that the list with gaps that holds it is the only one.
use Rattle.std.proofs.Common.{◌≡◌, ℕ, zero, suc, ℤ, pos, ◌+ℤ◌, ◌≤ℤ◌, ◌<ℤ◌, true, false, List, [], ◌∷◌, ◌++◌, take, drop}
use Rattle.std.proofs.Common.{◌⊎◌, inl, inr, ◌↔◌, refl, sym, ap, ◌∙◌, arith}
use Rattle.std.proofs.lemmas.Bool.{cases_Bool}
use Rattle.std.proofs.lemmas.Int.{ints, clamps}
use Rattle.std.specs.Prelude.{int_lt, int_le}
use Rattle.std.specs.Int.{int_max}
use Rattle.pay_domains.specs.declared.piece.Piece.{Piece}
use Rattle.pay_domains.specs.Pieces.{Within, Held, from_to, placed, in_order, joined, joined_from, all_joined, last_high, whole, capped}
use Rattle.pay_domains.specs.Pieces.{normal, AreProper, AreBeyond, IsCanonical}
use Rattle.pay_domains.specs.Merging.{AreFrom, AreInOrder, merged}

pub less_cases : (a b : ℤ) → ((int_lt a b ≡ true) × (a <ℤ b)) ⊎ ((int_lt a b ≡ false) × (b ≤ℤ a))
less_cases a b = elim (cases_Bool (int_lt a b)) [
  | inl hit ↦ inl (hit, grind (arith, ints))
  | inr miss ↦ inr (miss, grind (arith, ints))
]

pub at_most_cases : (a b : ℤ) → ((int_le a b ≡ true) × (a ≤ℤ b)) ⊎ ((int_le a b ≡ false) × (b <ℤ a))
at_most_cases a b = elim (cases_Bool (int_le a b)) [
  | inl hit ↦ inl (hit, grind (arith, ints))
  | inr miss ↦ inr (miss, grind (arith, ints))
]

at-most-self : (a : ℤ) → a ≤ℤ a
at-most-self a = omega (arith, ints)

pub low_within : (p : Piece) → p.low ≤ℤ p.high → Within p.low p
low_within p h = record { low = at-most-self p.low; high = h }

pub high_within : (p : Piece) → p.low ≤ℤ p.high → Within p.high p
high_within p h = record { low = h; high = at-most-self p.high }

-- two pieces with the same ends are one
piece-same : (p q : Piece) → p.low ≡ q.low → p.high ≡ q.high → p ≡ q
piece-same p q e f = ap (λ z. from_to z p.high) e ∙ ap (λ z. from_to q.low z) f

-- one piece more on both sides of an equivalence
pub under_first : {A B C : Type 0} → (B ↔ C) → ((A ⊎ B) ↔ (A ⊎ C))
under_first e = (λ h. elim h [ inl a ↦ inl a | inr b ↦ inr (e.0 b) ], λ h. elim h [ inl a ↦ inl a | inr c ↦ inr (e.1 c) ])

pub chained : {A B C : Type 0} → (A ↔ B) → (B ↔ C) → (A ↔ C)
chained e f = (λ a. f.0 (e.0 a), λ c. e.1 (f.1 c))

-- pieces by their lows: placed ones are in order and hold the same
pub placed_held : (x : ℤ) (p : Piece) (ps : List Piece) → Held x (placed p ps) ↔ Held x (p ∷ ps)
placed_held x p [] = (λ h. h, λ h. h)
placed_held x p (q ∷ rest) = elim (less_cases q.low p.low) [
  | inl hit ↦ rw hit.0 (chained (under_first (placed_held x p rest)) swapped)
  | inr miss ↦ rw miss.0 (λ h. h, λ h. h)
]
  where
    swapped : {A B C : Type 0} → (A ⊎ (B ⊎ C)) ↔ (B ⊎ (A ⊎ C))
    swapped = (swap, swap)
      where
        swap : {A B C : Type 0} → (A ⊎ (B ⊎ C)) → (B ⊎ (A ⊎ C))
        swap (inl a) = inr (inl a)
        swap (inr (inl b)) = inl b
        swap (inr (inr c)) = inr (inr c)

pub in_order_held : (x : ℤ) (ps : List Piece) → Held x (in_order ps) ↔ Held x ps
in_order_held x [] = (λ h. h, λ h. h)
in_order_held x (p ∷ rest) = chained (placed_held x p (in_order rest)) (under_first (in_order_held x rest))

from-weaker : (a b : ℤ) → a ≤ℤ b → (ps : List Piece) → AreFrom b ps → AreFrom a ps
from-weaker a b h [] k = tt
from-weaker a b h (p ∷ rest) k = (omega (arith, ints, k.0), k.1, k.2)

placed-from : (z : ℤ) (p : Piece) (ps : List Piece) → z ≤ℤ p.low → p.low ≤ℤ p.high → AreFrom z ps → AreFrom z (placed p ps)
placed-from z p [] h k l = (h, k, tt)
placed-from z p (q ∷ rest) h k l = elim (less_cases q.low p.low) [
  | inl hit ↦ rw hit.0 (l.0, l.1, placed-from q.low p rest (omega (arith, ints, hit.1)) k l.2)
  | inr miss ↦ rw miss.0 (h, k, (miss.1, l.1, l.2))
]

placed-ordered : (p : Piece) (ps : List Piece) → p.low ≤ℤ p.high → AreInOrder ps → AreInOrder (placed p ps)
placed-ordered p [] k l = (k, tt)
placed-ordered p (q ∷ rest) k l = elim (less_cases q.low p.low) [
  | inl hit ↦ rw hit.0 (l.0, placed-from q.low p rest (omega (arith, ints, hit.1)) k l.1)
  | inr miss ↦ rw miss.0 (k, (miss.1, l.0, l.1))
]

pub in_order_ordered : (ps : List Piece) → AreProper ps → AreInOrder (in_order ps)
in_order_ordered [] h = tt
in_order_ordered (p ∷ rest) h = placed-ordered p (in_order rest) h.0 (in_order_ordered rest h.1)

-- joining: what is left has gaps and holds the same
joined-proper : (a b c : ℤ) → a ≤ℤ b → a ≤ℤ int_max b c
joined-proper a b c h = omega (arith, ints, clamps)

joined-beyond : (z : ℤ) (p : Piece) (ps : List Piece) → (z +ℤ pos 1) <ℤ p.low → p.low ≤ℤ p.high → AreFrom p.low ps → AreBeyond z (joined_from p ps)
joined-beyond z p [] h k l = (h, k, tt)
joined-beyond z p (q ∷ rest) h k l = elim (at_most_cases q.low (p.high +ℤ pos 1)) [
  | inl hit ↦ rw hit.0
      (joined-beyond z (joined p q) rest h (joined-proper p.low p.high q.high k) (from-weaker p.low q.low l.0 rest l.2))
  | inr miss ↦ rw miss.0 (h, k, joined-beyond p.high q rest miss.1 l.1 l.2)
]

joined-canonical : (p : Piece) (ps : List Piece) → p.low ≤ℤ p.high → AreFrom p.low ps → IsCanonical (joined_from p ps)
joined-canonical p [] k l = (k, tt)
joined-canonical p (q ∷ rest) k l = elim (at_most_cases q.low (p.high +ℤ pos 1)) [
  | inl hit ↦ rw hit.0 (joined-canonical (joined p q) rest (joined-proper p.low p.high q.high k) (from-weaker p.low q.low l.0 rest l.2))
  | inr miss ↦ rw miss.0 (k, joined-beyond p.high q rest miss.1 l.1 l.2)
]

pub all_joined_canonical : (ps : List Piece) → AreInOrder ps → IsCanonical (all_joined ps)
all_joined_canonical [] h = tt
all_joined_canonical (p ∷ rest) h = joined-canonical p rest h.0 h.1

two-joined : (x : ℤ) (p q : Piece) → p.low ≤ℤ q.low → q.low ≤ℤ (p.high +ℤ pos 1) → p.low ≤ℤ p.high → q.low ≤ℤ q.high → Within x (joined p q) → Within x p ⊎ Within x q
two-joined x p q h k l m w = elim (at_most_cases x p.high) [
  | inl hit ↦ inl (record { low = w.low; high = hit.1 })
  | inr miss ↦ inr (record { low = omega (arith, ints, miss.1); high = omega (arith, ints, clamps, miss.1, w.high) })
]

first-joined : (x : ℤ) (p q : Piece) → Within x p → Within x (joined p q)
first-joined x p q w = record { low = w.low; high = omega (arith, ints, clamps, w.high) }

second-joined : (x : ℤ) (p q : Piece) → p.low ≤ℤ q.low → Within x q → Within x (joined p q)
second-joined x p q h w = record { low = omega (arith, ints, w.low); high = omega (arith, ints, clamps, w.high) }

pair-joined : (x : ℤ) (p q : Piece) (rest : List Piece) → p.low ≤ℤ q.low → q.low ≤ℤ (p.high +ℤ pos 1) → p.low ≤ℤ p.high → q.low ≤ℤ q.high
    → Held x (joined p q ∷ rest) ↔ Held x (p ∷ q ∷ rest)
pair-joined x p q rest h k l m = (
  λ e. elim e [
    | inl w ↦ elim (two-joined x p q h k l m w) [ inl a ↦ inl a | inr b ↦ inr (inl b) ]
    | inr r ↦ inr (inr r)
  ],
  λ e. elim e [
    | inl w ↦ inl (first-joined x p q w)
    | inr f ↦ elim f [ inl w ↦ inl (second-joined x p q h w) | inr r ↦ inr r ]
  ],
)

joined-held : (x : ℤ) (p : Piece) (ps : List Piece) → p.low ≤ℤ p.high → AreFrom p.low ps → Held x (joined_from p ps) ↔ Held x (p ∷ ps)
joined-held x p [] k l = (λ h. h, λ h. h)
joined-held x p (q ∷ rest) k l = elim (at_most_cases q.low (p.high +ℤ pos 1)) [
  | inl hit ↦ rw hit.0
      (chained
      (joined-held x (joined p q) rest (joined-proper p.low p.high q.high k) (from-weaker p.low q.low l.0 rest l.2))
      (pair-joined x p q rest l.0 hit.1 k l.1))
  | inr miss ↦ rw miss.0 (under_first (joined-held x q rest l.1 l.2))
]

pub all_joined_held : (x : ℤ) (ps : List Piece) → AreInOrder ps → Held x (all_joined ps) ↔ Held x ps
all_joined_held x [] h = (λ e. e, λ e. e)
all_joined_held x (p ∷ rest) h = joined-held x p rest h.0 h.1

-- the list with gaps that holds given raws is the only one
pub held_beyond : (x z : ℤ) (ps : List Piece) → AreBeyond z ps → Held x ps → (z +ℤ pos 1) <ℤ x
held_beyond x z [] h e = absurd e
held_beyond x z (p ∷ rest) h (inl w) = omega (arith, ints, h.0, w.low)
held_beyond x z (p ∷ rest) h (inr e) = omega (arith, ints, h.0, h.1, held_beyond x p.high rest h.2 e)

pub beyond_canonical : (z : ℤ) (ps : List Piece) → AreBeyond z ps → IsCanonical ps
beyond_canonical z [] h = tt
beyond_canonical z (p ∷ rest) h = (h.1, h.2)

-- every raw that is held is at or above the first low
pub first_least : (x : ℤ) (p : Piece) (ps : List Piece) → IsCanonical (p ∷ ps) → Held x (p ∷ ps) → p.low ≤ℤ x
first_least x p ps h (inl w) = w.low
first_least x p ps h (inr e) = omega (arith, ints, h.0, held_beyond x p.high ps h.1 e)

-- of two lists that begin at one raw the first piece of one ends no later than that of the other
first-high : (p q : Piece) (ps qs : List Piece) → IsCanonical (p ∷ ps) → IsCanonical (q ∷ qs) → p.low ≡ q.low
    → ((x : ℤ) → Held x (q ∷ qs) → Held x (p ∷ ps)) → q.high ≤ℤ p.high
first-high p q ps qs h k same to = elim (at_most_cases q.high p.high) [
  | inl hit ↦ hit.1
  | inr miss ↦
      elim (to (p.high +ℤ pos 1) (inl (record { low = omega (arith, ints, h.0, ap (λ z. z) same); high = omega (arith, ints, miss.1) }))) [
        | inl w ↦ absurd (omega (arith, ints, w.high))
        | inr e ↦ absurd (omega (arith, ints, held_beyond (p.high +ℤ pos 1) p.high ps h.1 e))
      ]
]

rest-held : (x : ℤ) (p q : Piece) (ps qs : List Piece) → IsCanonical (p ∷ ps) → p.high ≡ q.high
    → (Held x (p ∷ ps) → Held x (q ∷ qs)) → Held x ps → Held x qs
rest-held x p q ps qs h same to e = elim (to (inr e)) [
  | inl w ↦ absurd (omega (arith, ints, w.high, held_beyond x p.high ps h.1 e))
  | inr f ↦ f
]

pub canonical_same : (a b : List Piece) → IsCanonical a → IsCanonical b → ((x : ℤ) → Held x a ↔ Held x b) → a ≡ b
canonical_same [] [] h k same = refl
canonical_same [] (q ∷ qs) h k same = absurd ((same q.low).1 (inl (low_within q k.0)))
canonical_same (p ∷ ps) [] h k same = absurd ((same p.low).0 (inl (low_within p h.0)))
canonical_same (p ∷ ps) (q ∷ qs) h k same =
    let over : q.low ≤ℤ p.low = first_least p.low q qs k ((same p.low).0 (inl (low_within p h.0))) in
    let under : p.low ≤ℤ q.low = first_least q.low p ps h ((same q.low).1 (inl (low_within q k.0))) in
    let lows : p.low ≡ q.low = omega (arith, ints) in
    let short : q.high ≤ℤ p.high = first-high p q ps qs h k lows (λ x. (same x).1) in
    let long : p.high ≤ℤ q.high = first-high q p qs ps k h (sym lows) (λ x. (same x).0) in
    let highs : p.high ≡ q.high = omega (arith, ints) in
    let tails : ps ≡ qs = canonical_same ps qs (beyond_canonical p.high ps h.1) (beyond_canonical q.high qs k.1)
    (λ x. (rest-held x p q ps qs h highs (same x).0, rest-held x q p qs ps k (sym highs) (same x).1)) in
    ap (λ r. r ∷ ps) (piece-same p q lows highs) ∙ ap (λ xs. q ∷ xs) tails

-- pieces in order that hold the same as others are joined to the same list
pub joined-same : (xs ys : List Piece) → AreProper xs → AreInOrder ys → ((x : ℤ) → Held x ys ↔ Held x xs) → all_joined ys ≡ all_joined (in_order xs)
joined-same xs ys h k same =
    canonical_same (all_joined ys) (all_joined (in_order xs)) (all_joined_canonical ys k) (all_joined_canonical (in_order xs) (in_order_ordered xs h))
    (λ x.
    let left : Held x (all_joined ys) ↔ Held x ys = all_joined_held x ys k in
    let right : Held x (all_joined (in_order xs)) ↔ Held x (in_order xs) = all_joined_held x (in_order xs) (in_order_ordered xs h) in
    let order : Held x (in_order xs) ↔ Held x xs = in_order_held x xs in
    (λ e. right.1 (order.1 ((same x).0 (left.0 e))), λ e. left.1 ((same x).1 (order.0 (right.0 e)))))

-- the first n pieces, and the rest as one
abbrev pub cut : ℕ → List Piece → List Piece
cut n ps = take n ps ++ whole (drop n ps)

cut-none : (n : ℕ) → cut n [] ≡ []
cut-none zero = refl
cut-none (suc n) = refl

-- the greatest of a raw and the highs of pieces
abbrev tallest : ℤ → List Piece → ℤ
tallest z [] = z
tallest z (q ∷ rest) = tallest (int_max z q.high) rest

over-below : (a b c d : ℤ) → (a +ℤ pos 1) <ℤ c → c ≤ℤ b → int_max a b ≡ b
over-below a b c d h k = omega (arith, ints, clamps)

last-joined : (r p : Piece) (ps : List Piece) → AreFrom p.low ps → last_high r (joined_from p ps) ≡ tallest p.high ps
last-joined r p [] l = refl
last-joined r p (q ∷ rest) l = elim (at_most_cases q.low (p.high +ℤ pos 1)) [
  | inl hit ↦ rw hit.0 (last-joined r (joined p q) rest (from-weaker p.low q.low l.0 rest l.2))
  | inr miss ↦ rw miss.0
      (last-joined p q rest l.2 ∙ ap (λ z. tallest z rest) (sym (over-below p.high q.high q.low p.low miss.1 l.1)))
]

whole-joined : (p : Piece) (ps : List Piece) → AreFrom p.low ps → whole (joined_from p ps) ≡ from_to p.low (tallest p.high ps) ∷ []
whole-joined p [] l = refl
whole-joined p (q ∷ rest) l = elim (at_most_cases q.low (p.high +ℤ pos 1)) [
  | inl hit ↦ rw hit.0 (whole-joined (joined p q) rest (from-weaker p.low q.low l.0 rest l.2))
  | inr miss ↦ rw miss.0
      (ap (λ z. from_to p.low z ∷ []) (last-joined p q rest l.2 ∙ ap (λ z. tallest z rest) (sym (over-below p.high q.high q.low p.low miss.1 l.1))))
]

merged-whole : (p : Piece) (ps : List Piece) → merged p ps zero ≡ from_to p.low (tallest p.high ps) ∷ []
merged-whole p [] = refl
merged-whole p (q ∷ rest) = merged-whole (joined p q) rest

merged-cut : (p : Piece) (ps : List Piece) (n : ℕ) → AreFrom p.low ps → merged p ps n ≡ cut n (joined_from p ps)
merged-cut p ps zero l = merged-whole p ps ∙ sym (whole-joined p ps l)
merged-cut p [] (suc n) l = ap (λ xs. p ∷ xs) (sym (cut-none n))
merged-cut p (q ∷ rest) (suc n) l = elim (at_most_cases q.low (p.high +ℤ pos 1)) [
  | inl hit ↦ rw hit.0 (merged-cut (joined p q) rest (suc n) (from-weaker p.low q.low l.0 rest l.2))
  | inr miss ↦ rw miss.0 (ap (λ xs. p ∷ xs) (merged-cut q rest n l.2))
]

-- the one pass gives what joining and capping give
pub merged-capped : (p : Piece) (ps : List Piece) → AreInOrder (p ∷ ps) → merged p ps 15 ≡ capped (joined_from p ps)
merged-capped p ps h = merged-cut p ps 15 h.1

-- so the domain of pieces is the one pass over any pieces in order that hold the same
pub merged-normal : (p : Piece) (xs ps : List Piece) → AreProper xs → AreInOrder (p ∷ ps) → ((x : ℤ) → Held x (p ∷ ps) ↔ Held x xs)
    → merged p ps 15 ≡ normal xs
unfolding normal
merged-normal p xs ps h k same = merged-capped p ps k ∙ ap capped (joined-same xs (p ∷ ps) h k same)
