-- What is asked of a domain is what its raws show.
use Rattle.std.proofs.Common.{◌≡◌, ℤ, pos, ◌+ℤ◌, ◌-ℤ◌, ◌≤ℤ◌, ◌<ℤ◌, true, false, List, [], ◌∷◌}
use Rattle.std.proofs.Common.{Option, Some, None, inl, inr, ◌↔◌, refl, sym, ap, ◌∙◌, arith}
use Rattle.std.proofs.lemmas.Bool.{cases_Bool, and_from, and_parts, or_left, or_right}
use Rattle.std.proofs.lemmas.Bool.Decides.{Decides-int_eq}
use Rattle.std.proofs.lemmas.Int.{ints, clamps}
use Rattle.std.specs.Prelude.{int_le}
use Rattle.std.specs.List.{list_all}
use Rattle.std.specs.Int.{int_min, int_max}
use Rattle.pay_domains.specs.declared.piece.Piece.{Piece}
use Rattle.pay_domains.specs.Pieces.{Within, Held, IsCanonical}
use Rattle.pay_domains.specs.Queries.{is_within, is_held, is_none, is_point, point_of, is_discrete, or_after, last_below, first_above}
use Rattle.pay_domains.specs.DomainLaws.{QueriesAreRight}
use Rattle.pay_domains.proofs.NormalLemmas.{less_cases, low_within, high_within, held_beyond, beyond_canonical, first_least}
use Rattle.pay_domains.proofs.OperatorLaws.{at_most_is}

-- a raw is held
pub is_within_from : (x : ℤ) (p : Piece) → Within x p → is_within x p ≡ true
is_within_from x p w = and_from (int_le p.low x) (int_le x p.high) (at_most_is p.low x w.low) (at_most_is x p.high w.high)

pub within_from : (x : ℤ) (p : Piece) → is_within x p ≡ true → Within x p
within_from x p h = let parts = and_parts (int_le p.low x) (int_le x p.high) h in record { low = test p.low x parts.0; high = test x p.high parts.1 }
  where
    test : (a b : ℤ) → int_le a b ≡ true → a ≤ℤ b
    test a b h = grind (arith, ints)

pub is_held_right : (x : ℤ) (ps : List Piece) → (is_held x ps ≡ true) ↔ Held x ps
is_held_right x [] = ((λ h. cc), λ e. absurd e)
is_held_right x (p ∷ rest) =
    let more = is_held_right x rest in
    elim (cases_Bool (is_within x p)) [
      | inl hit ↦ ((λ h. inl (within_from x p hit)), λ e. or_left (is_within x p) (is_held x rest) hit)
      | inr miss ↦ (
        (λ h. inr (more.0 (rw miss at h))),
        λ e. elim e [
          | inl w ↦ or_left (is_within x p) (is_held x rest) (is_within_from x p w)
          | inr f ↦ or_right (is_within x p) (is_held x rest) (more.1 f)
        ],
      )
    ]

-- one raw alone
abbrev IsOnly : ℤ → List Piece → Type 0
IsOnly x a = Held x a × ((y : ℤ) → Held y a → y ≡ x)

point-from : (p : Piece) (x : ℤ) → (point_of (p ∷ []) ≡ Some x) → IsOnly x (p ∷ [])
point-from p x h = elim (cases_Bool (is_point p)) [
  | inr miss ↦ let none : None ≡ Some x = rw miss at h in cc
  | inl hit ↦
      let ends : p.low ≡ p.high = (Decides-int_eq p.low p.high).0 hit in
      let found : Some p.low ≡ Some x = rw hit at h in
      let same : p.low ≡ x = cc in
      (inl (record { low = omega (arith, ints); high = omega (arith, ints) }), only p x ends same)
]
  where
    only : (p : Piece) (x : ℤ) → p.low ≡ p.high → p.low ≡ x → (y : ℤ) → Held y (p ∷ []) → y ≡ x
    only p x ends same y (inl w) = omega (arith, ints, w.low, w.high)
    only p x ends same y (inr e) = absurd e

point-to : (p : Piece) (x : ℤ) → p.low ≤ℤ p.high → IsOnly x (p ∷ []) → point_of (p ∷ []) ≡ Some x
point-to p x k h =
    let low : p.low ≡ x = h.1 p.low (inl (low_within p k)) in
    let high : p.high ≡ x = h.1 p.high (inl (high_within p k)) in
    let hit : is_point p ≡ true = (Decides-int_eq p.low p.high).1 (low ∙ sym high) in
    rw hit (ap (λ (z : ℤ). Some z) low)

single-right : (a : List Piece) → IsCanonical a → (x : ℤ) → (point_of a ≡ Some x) ↔ IsOnly x a
single-right [] h x = ((λ e. cc), λ e. absurd e.0)
single-right (p ∷ []) h x = (point-from p x, point-to p x h.0)
single-right (p ∷ q ∷ rest) h x = (
  (λ e. cc),
  λ e.
      let first = e.1 p.low (inl (low_within p h.0)) in
      let second = e.1 q.low (inr (inl (low_within q h.1.1))) in
      absurd (omega (arith, ints, h.0, h.1.0)),
)

-- no two raws are neighbours
points-apart : (ps : List Piece) → IsCanonical ps → list_all is_point ps ≡ true → (x : ℤ) → Held x ps → ¬ Held (x +ℤ pos 1) ps
points-apart [] h k x e f = absurd e
points-apart (p ∷ rest) h k x (inl w) (inl v) =
    let same = (Decides-int_eq p.low p.high).0 (and_parts (is_point p) (list_all is_point rest) k).0 in
    absurd (omega (arith, ints, w.low, v.high))
points-apart (p ∷ rest) h k x (inl w) (inr f) = absurd (omega (arith, ints, w.high, held_beyond (x +ℤ pos 1) p.high rest h.1 f))
points-apart (p ∷ rest) h k x (inr e) (inl v) = absurd (omega (arith, ints, v.high, held_beyond x p.high rest h.1 e))
points-apart (p ∷ rest) h k x (inr e) (inr f) =
    points-apart rest (beyond_canonical p.high rest h.1) (and_parts (is_point p) (list_all is_point rest) k).1 x e f

apart-points : (ps : List Piece) → IsCanonical ps → ((x : ℤ) → Held x ps → ¬ Held (x +ℤ pos 1) ps) → list_all is_point ps ≡ true
apart-points [] h k = refl
apart-points (p ∷ rest) h k = and_from (is_point p) (list_all is_point rest)
    ((Decides-int_eq p.low p.high).1 (elim (less_cases p.low p.high) [
      | inl less ↦ absurd (k p.low (inl (low_within p h.0)) (inl (record { low = omega (arith, ints); high = omega (arith, ints, less.1) })))
      | inr over ↦ omega (arith, ints, over.1, h.0)
    ]))
    (apart-points rest (beyond_canonical p.high rest h.1) (λ x e f. k x (inr e) (inr f)))

discrete-right : (a : List Piece) → IsCanonical a → (is_discrete a ≡ true) ↔ ((is_none a ≡ false) × ((x : ℤ) → Held x a → ¬ Held (x +ℤ pos 1) a))
discrete-right [] h = ((λ e. cc), λ e. let none = e.0 in cc)
discrete-right (p ∷ rest) h = ((λ e. (refl, points-apart (p ∷ rest) h e)), λ e. apart-points (p ∷ rest) h e.1)

-- the greatest raw under a limit
abbrev IsLast : ℤ → List Piece → ℤ → Type 0
IsLast limit a x = Held x a × (x <ℤ limit) × ((y : ℤ) → Held y a → y <ℤ limit → y ≤ℤ x)

none-below : (limit : ℤ) (ps : List Piece) → IsCanonical ps → last_below limit ps ≡ None → (y : ℤ) → Held y ps → limit ≤ℤ y
none-below limit [] h e y f = absurd f
none-below limit (p ∷ rest) h e y f = elim (less_cases p.low limit) [
  | inl hit ↦ absurd (some (int_min p.high (limit -ℤ pos 1)) (last_below limit rest) (rw hit.0 at e))
  | inr miss ↦ omega (arith, ints, miss.1, first_least y p rest h f)
]
  where
    some : (z : ℤ) (o : Option ℤ) → or_after (Some z) o ≡ None → ⊥
    some z None e = cc
    some z (Some w) e = cc

last-after : (limit : ℤ) (p : Piece) (rest : List Piece) → IsCanonical (p ∷ rest) → p.low <ℤ limit
    → ((x : ℤ) → last_below limit rest ≡ Some x → IsLast limit rest x) → (x : ℤ) (o : Option ℤ)
    → last_below limit rest ≡ o → or_after (Some (int_min p.high (limit -ℤ pos 1))) o ≡ Some x → IsLast limit (p ∷ rest) x
last-after limit p rest h less further x None is e =
    let same : int_min p.high (limit -ℤ pos 1) ≡ x = cc in (
      inl (record { low = omega (arith, ints, clamps, h.0); high = omega (arith, ints, clamps) }),
      omega (arith, ints, clamps),
      λ y f under. elim f [
        | inl w ↦ omega (arith, ints, clamps, w.high)
        | inr g ↦ absurd (omega (arith, ints, none-below limit rest (beyond_canonical p.high rest h.1) is y g))
      ],
    )
last-after limit p rest h less further x (Some z) is e =
    let same : z ≡ x = cc in
    let more = further x (is ∙ ap (λ (w : ℤ). Some w) same) in (
      inr more.0,
      more.1,
      λ y f under. elim f [
        | inl w ↦ omega (arith, ints, w.high, held_beyond x p.high rest h.1 more.0)
        | inr g ↦ more.2 y g under
      ],
    )

last-from : (limit : ℤ) (ps : List Piece) → IsCanonical ps → (x : ℤ) → last_below limit ps ≡ Some x → IsLast limit ps x
last-from limit [] h x e = cc
last-from limit (p ∷ rest) h x e = elim (less_cases p.low limit) [
  | inl hit ↦
      last-after limit p rest h hit.1 (last-from limit rest (beyond_canonical p.high rest h.1)) x (last_below limit rest) refl (rw hit.0 at e)
  | inr miss ↦ let none : None ≡ Some x = rw miss.0 at e in cc
]

last-to : (limit : ℤ) (ps : List Piece) → IsCanonical ps → (x : ℤ) → IsLast limit ps x → (o : Option ℤ) → last_below limit ps ≡ o → o ≡ Some x
last-to limit ps h x k None e = absurd (omega (arith, ints, k.1, none-below limit ps h e x k.0))
last-to limit ps h x k (Some z) e =
    let other = last-from limit ps h z e in
    let same : z ≡ x = omega (arith, ints, k.2 z other.0 other.1, other.2 x k.0 k.1) in
    ap (λ (w : ℤ). Some w) same

-- the least raw over a limit
abbrev IsFirst : ℤ → List Piece → ℤ → Type 0
IsFirst limit a x = Held x a × (limit <ℤ x) × ((y : ℤ) → Held y a → limit <ℤ y → x ≤ℤ y)

none-above : (limit : ℤ) (ps : List Piece) → first_above limit ps ≡ None → (y : ℤ) → Held y ps → y ≤ℤ limit
none-above limit [] e y f = absurd f
none-above limit (p ∷ rest) e y f = elim (less_cases limit p.high) [
  | inl hit ↦ let some : Some (int_max p.low (limit +ℤ pos 1)) ≡ None = rw hit.0 at e in cc
  | inr miss ↦ elim f [
    | inl w ↦ omega (arith, ints, miss.1, w.high)
    | inr g ↦ none-above limit rest (rw miss.0 at e) y g
  ]
]

first-from : (limit : ℤ) (ps : List Piece) → IsCanonical ps → (x : ℤ) → first_above limit ps ≡ Some x → IsFirst limit ps x
first-from limit [] h x e = cc
first-from limit (p ∷ rest) h x e = elim (less_cases limit p.high) [
  | inl hit ↦
      let found : Some (int_max p.low (limit +ℤ pos 1)) ≡ Some x = rw hit.0 at e in
      let same : int_max p.low (limit +ℤ pos 1) ≡ x = cc in
      let top : x ≤ℤ p.high = omega (arith, ints, clamps, hit.1, h.0) in (
        inl (record { low = omega (arith, ints, clamps); high = top }),
        omega (arith, ints, clamps),
        λ y f over. elim f [
          | inl w ↦ omega (arith, ints, clamps, w.low)
          | inr g ↦ omega (arith, ints, held_beyond y p.high rest h.1 g)
        ],
      )
  | inr miss ↦
      let more = first-from limit rest (beyond_canonical p.high rest h.1) x (rw miss.0 at e) in (
        inr more.0,
        more.1,
        λ y f over. elim f [
          | inl w ↦ absurd (omega (arith, ints, w.high, miss.1))
          | inr g ↦ more.2 y g over
        ],
      )
]

first-to : (limit : ℤ) (ps : List Piece) → IsCanonical ps → (x : ℤ) → IsFirst limit ps x → (o : Option ℤ) → first_above limit ps ≡ o → o ≡ Some x
first-to limit ps h x k None e = absurd (omega (arith, ints, k.1, none-above limit ps e x k.0))
first-to limit ps h x k (Some z) e =
    let other = first-from limit ps h z e in
    let same : z ≡ x = omega (arith, ints, k.2 z other.0 other.1, other.2 x k.0 k.1) in
    ap (λ (w : ℤ). Some w) same

pub queries-right : QueriesAreRight
queries-right a h = record {
  held = λ x. is_held_right x a;
  single = single-right a h.rises;
  discrete = discrete-right a h.rises;
  below = λ limit x. (last-from limit a h.rises x, λ k. last-to limit a h.rises x k (last_below limit a) refl);
  above = λ limit x. (first-from limit a h.rises x, λ k. first-to limit a h.rises x k (first_above limit a) refl);
}
