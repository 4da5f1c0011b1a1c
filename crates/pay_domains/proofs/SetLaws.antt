-- The signs, unions and intersections of domains are sound, and results lie within the limit.
use Rattle.std.proofs.Common.{◌≡◌, ℕ, zero, suc, ℤ, pos, neg_ℤ, unsigned_abs, ◌+ℤ◌, ◌≤ℤ◌}
use Rattle.std.proofs.Common.{List, [], ◌∷◌, ◌++◌, map, flat_map, inl, inr, refl, arith}
use Rattle.std.proofs.lemmas.Int.{ints, clamps}
use Rattle.std.specs.Int.{int_min, int_max}
use Rattle.pay_meaning.specs.Language.{Operator}
use Rattle.pay_domains.specs.declared.piece.Piece.{Piece}
use Rattle.pay_domains.specs.Pieces.{Within, Held, from_to, placed, in_order, joined, joined_from, all_joined, last_high, normal}
use Rattle.pay_domains.specs.Pieces.{AreProper, AreBetween}
use Rattle.pay_domains.specs.Operators.{lowest, highest, unless_empty, clipped, right_pieces, spans, reach, turned, magnitude, negated, magnitudes, united}
use Rattle.pay_domains.specs.Operators.{common, met}
use Rattle.pay_domains.specs.DomainLaws.{SignsAndUnionsAreSound, ResultsStayWithin}
use Rattle.pay_domains.proofs.NormalLemmas.{less_cases, at_most_cases, cut}
use Rattle.pay_domains.proofs.NormalLaws.{normal-domain}
use Rattle.pay_domains.proofs.OperatorLaws.{held_left, held_right, held_flat, held_map, append_proper, flat_proper, unless_empty_proper, unless_empty_held}

-- a normal domain holds what its pieces hold
pub normal_keeps : (ps : List Piece) → AreProper ps → (x : ℤ) → Held x ps → Held x (normal ps)
normal_keeps ps h x e = (normal-domain ps h).keeps x e

pub map_proper : (f : Piece → Piece) → ((p : Piece) → p.low ≤ℤ p.high → (f p).low ≤ℤ (f p).high) → (ps : List Piece) → AreProper ps → AreProper (map f ps)
map_proper f each [] h = tt
map_proper f each (p ∷ rest) h = (each p h.0, map_proper f each rest h.1)

-- signs
pub turned_proper : (p : Piece) → p.low ≤ℤ p.high → (turned p).low ≤ℤ (turned p).high
turned_proper p h = omega (arith, ints)

turned-within : (x : ℤ) (p : Piece) → Within x p → Within (neg_ℤ x) (turned p)
turned-within x p w = record { low = omega (arith, ints, w.high); high = omega (arith, ints, w.low) }

pub magnitude_proper : (p : Piece) → p.low ≤ℤ p.high → (magnitude p).low ≤ℤ (magnitude p).high
magnitude_proper p h = elim (at_most_cases (pos 0) p.low) [
  | inl above ↦ rw above.0 h
  | inr low ↦ elim (at_most_cases p.high (pos 0)) [
    | inl under ↦ rw (low.0, under.0) (turned_proper p h)
    | inr high ↦ rw (low.0, high.0) (omega (arith, ints, clamps, low.1, high.1))
  ]
]

magnitude-within : (x : ℤ) (p : Piece) → Within x p → Within (pos (unsigned_abs x)) (magnitude p)
magnitude-within x p w = elim (at_most_cases (pos 0) p.low) [
  | inl above ↦ rw above.0 (record { low = omega (arith, ints, w.low, above.1); high = omega (arith, ints, w.low, w.high, above.1) })
  | inr low ↦ elim (at_most_cases p.high (pos 0)) [
    | inl under ↦ rw (low.0, under.0)
        (record { low = omega (arith, ints, w.high, under.1); high = omega (arith, ints, w.low, w.high, under.1) })
    | inr high ↦ rw (low.0, high.0)
        (record { low = omega (arith, ints); high = omega (arith, ints, clamps, w.low, w.high, low.1, high.1) })
  ]
]

-- intersections
common-held : (x : ℤ) (p q : Piece) → Within x p → Within x q → Held x (common p q)
common-held x p q w v =
    unless_empty_held x (from_to (int_max p.low q.low) (int_min p.high q.high))
    (record { low = omega (arith, ints, clamps, w.low, v.low); high = omega (arith, ints, clamps, w.high, v.high) })

common-proper : (p q : Piece) → AreProper (common p q)
common-proper p q = unless_empty_proper (from_to (int_max p.low q.low) (int_min p.high q.high))

pub met_pieces_proper : (a b : List Piece) → AreProper (flat_map (λ p. flat_map (common p) b) a)
met_pieces_proper a b = flat_proper (λ p. flat_map (common p) b) (λ p. flat_proper (common p) (common-proper p) b) a

pub sets-sound : SignsAndUnionsAreSound
unfolding negated magnitudes united met
sets-sound a b x h k = record {
  negative = λ e. normal_keeps (map turned a) (map_proper turned turned_proper a h) (neg_ℤ x) (held_map x (neg_ℤ x) turned (turned-within x) a e);
  absolute = λ e.
      normal_keeps (map magnitude a) (map_proper magnitude magnitude_proper a h) (pos (unsigned_abs x))
      (held_map x (pos (unsigned_abs x)) magnitude (magnitude-within x) a e);
  united_left = λ e. normal_keeps (a ++ b) (append_proper a b h k) x (held_left x a b e);
  united_right = λ e. normal_keeps (a ++ b) (append_proper a b h k) x (held_right x a b e);
  met_both = λ e f.
      normal_keeps (flat_map (λ p. flat_map (common p) b) a) (met_pieces_proper a b) x
      (held_flat x x (λ p. flat_map (common p) b) (λ p w. held_flat x x (common p) (λ q v. common-held x p q w v) b f) a e);
}

-- pieces between two raws stay there
module _ (low high : ℤ) where
  pub append_between : (a b : List Piece) → AreBetween low high a → AreBetween low high b → AreBetween low high (a ++ b)
  append_between [] b h k = k
  append_between (p ∷ a) b h k = (h.0, h.1, append_between a b h.2 k)

  pub flat_between : (f : Piece → List Piece) → ((p : Piece) → low ≤ℤ p.low → p.high ≤ℤ high → AreBetween low high (f p))
      → (ps : List Piece) → AreBetween low high ps → AreBetween low high (flat_map f ps)
  flat_between f each [] h = tt
  flat_between f each (p ∷ rest) h = append_between (f p) (flat_map f rest) (each p h.0 h.1) (flat_between f each rest h.2)

  pub all_flat_between : (f : Piece → List Piece) → ((p : Piece) → AreBetween low high (f p)) → (ps : List Piece) → AreBetween low high (flat_map f ps)
  all_flat_between f each [] = tt
  all_flat_between f each (p ∷ rest) = append_between (f p) (flat_map f rest) (each p) (all_flat_between f each rest)

  placed-between : (p : Piece) (ps : List Piece) → low ≤ℤ p.low → p.high ≤ℤ high → AreBetween low high ps → AreBetween low high (placed p ps)
  placed-between p [] h k l = (h, k, tt)
  placed-between p (q ∷ rest) h k l = elim (less_cases q.low p.low) [
    | inl hit ↦ rw hit.0 (l.0, l.1, placed-between p rest h k l.2)
    | inr miss ↦ rw miss.0 (h, k, (l.0, l.1, l.2))
  ]

  in_order-between : (ps : List Piece) → AreBetween low high ps → AreBetween low high (in_order ps)
  in_order-between [] h = tt
  in_order-between (p ∷ rest) h = placed-between p (in_order rest) h.0 h.1 (in_order-between rest h.2)

  joined-between : (p : Piece) (ps : List Piece) → low ≤ℤ p.low → p.high ≤ℤ high → AreBetween low high ps → AreBetween low high (joined_from p ps)
  joined-between p [] h k l = (h, k, tt)
  joined-between p (q ∷ rest) h k l = elim (at_most_cases q.low (p.high +ℤ pos 1)) [
    | inl hit ↦ rw hit.0 (joined-between (joined p q) rest h (both-under p.high q.high k l.1) l.2)
    | inr miss ↦ rw miss.0 (h, k, joined-between q rest l.0 l.1 l.2)
  ]
    where
      both-under : (a b : ℤ) → a ≤ℤ high → b ≤ℤ high → int_max a b ≤ℤ high
      both-under a b h k = omega (arith, ints, clamps)

  all_joined-between : (ps : List Piece) → AreBetween low high ps → AreBetween low high (all_joined ps)
  all_joined-between [] h = tt
  all_joined-between (p ∷ rest) h = joined-between p rest h.0 h.1 h.2

  last-under : (p : Piece) (ps : List Piece) → p.high ≤ℤ high → AreBetween low high ps → last_high p ps ≤ℤ high
  last-under p [] h k = h
  last-under p (q ∷ rest) h k = last-under q rest k.1 k.2

  cut-between : (n : ℕ) (ps : List Piece) → AreBetween low high ps → AreBetween low high (cut n ps)
  cut-between zero [] h = tt
  cut-between zero (p ∷ rest) h = (h.0, last-under p rest h.1 h.2, tt)
  cut-between (suc n) [] h = tt
  cut-between (suc n) (p ∷ rest) h = (h.0, h.1, cut-between n rest h.2)

  -- the domain of pieces between two raws lies there
  pub normal_between : (ps : List Piece) → AreBetween low high ps → AreBetween low high (normal ps)
  unfolding normal
  normal_between ps h = cut-between 15 (all_joined (in_order ps)) (all_joined-between (in_order ps) (in_order-between ps h))

  unless-empty-between : (p : Piece) → low ≤ℤ p.low → p.high ≤ℤ high → AreBetween low high (unless_empty p)
  unless-empty-between p h k = elim (at_most_cases p.low p.high) [
    | inl hit ↦ rw hit.0 (h, k, tt)
    | inr miss ↦ rw miss.0 tt
  ]

  pub united_between : (a b : List Piece) → AreBetween low high a → AreBetween low high b → AreBetween low high (united a b)
  unfolding united
  united_between a b h k = normal_between (a ++ b) (append_between a b h k)

  common-between : (p q : Piece) → low ≤ℤ p.low → p.high ≤ℤ high → AreBetween low high (common p q)
  common-between p q h k = unless-empty-between (from_to (int_max p.low q.low) (int_min p.high q.high)) (max-over p.low q.low h) (min-under p.high q.high k)
    where
      max-over : (a b : ℤ) → low ≤ℤ a → low ≤ℤ int_max a b
      max-over a b h = omega (arith, ints, clamps)

      min-under : (a b : ℤ) → a ≤ℤ high → int_min a b ≤ℤ high
      min-under a b h = omega (arith, ints, clamps)

  -- what two domains have in common lies where the first does
  pub met_between : (a b : List Piece) → AreBetween low high a → AreBetween low high (met a b)
  unfolding met
  met_between a b h =
      normal_between (flat_map (λ p. flat_map (common p) b) a)
      (flat_between (λ p. flat_map (common p) b) (λ p k l. all_flat_between (common p) (λ q. common-between p q k l) b) a h)

  clipped-between : (p : Piece) → low ≡ lowest → high ≡ highest → AreBetween low high (clipped p)
  clipped-between p h k = unless-empty-between (from_to (int_max p.low lowest) (int_min p.high highest)) (max-over p.low lowest h) (min-under p.high highest k)
    where
      max-over : (a b : ℤ) → low ≡ b → low ≤ℤ int_max a b
      max-over a b h = omega (arith, ints, clamps)

      min-under : (a b : ℤ) → high ≡ b → int_min a b ≤ℤ high
      min-under a b h = omega (arith, ints, clamps)

-- the results of an operator lie within the limit
pub reach_between : (op : Operator) (a b : List Piece) → AreBetween lowest highest (reach op a b).domain
unfolding reach
reach_between op a b =
    normal_between lowest highest (flat_map clipped (spans op a (right_pieces op b)))
    (all_flat_between lowest highest clipped (λ p. clipped-between lowest highest p refl refl) (spans op a (right_pieces op b)))

-- between a raw and the one with the other sign
map-between : (low high : ℤ) (f : Piece → Piece)
    → ((p : Piece) → low ≤ℤ p.low → p.low ≤ℤ p.high → p.high ≤ℤ high → (low ≤ℤ (f p).low) × ((f p).high ≤ℤ high))
    → (ps : List Piece) → AreProper ps → AreBetween low high ps → AreBetween low high (map f ps)
map-between low high f each [] k h = tt
map-between low high f each (p ∷ rest) k h = let one = each p h.0 k.0 h.1 in (one.0, one.1, map-between low high f each rest k.1 h.2)

turned-ends : (z : ℤ) (p : Piece) → neg_ℤ z ≤ℤ p.low → p.low ≤ℤ p.high → p.high ≤ℤ z → (neg_ℤ z ≤ℤ (turned p).low) × ((turned p).high ≤ℤ z)
turned-ends z p h k l = (omega (arith, ints), omega (arith, ints))

magnitude-ends : (z : ℤ) (p : Piece) → neg_ℤ z ≤ℤ p.low → p.low ≤ℤ p.high → p.high ≤ℤ z → (neg_ℤ z ≤ℤ (magnitude p).low) × ((magnitude p).high ≤ℤ z)
magnitude-ends z p h k l = elim (at_most_cases (pos 0) p.low) [
  | inl above ↦ rw above.0 (h, l)
  | inr low ↦ elim (at_most_cases p.high (pos 0)) [
    | inl under ↦ rw (low.0, under.0) (turned-ends z p h k l)
    | inr high ↦ rw (low.0, high.0) (omega (arith, ints, high.1), omega (arith, ints, clamps))
  ]
]

pub negated_between : (z : ℤ) (a : List Piece) → AreProper a → AreBetween (neg_ℤ z) z a → AreBetween (neg_ℤ z) z (negated a)
unfolding negated
negated_between z a k h = normal_between (neg_ℤ z) z (map turned a) (map-between (neg_ℤ z) z turned (turned-ends z) a k h)

pub magnitudes_between : (z : ℤ) (a : List Piece) → AreProper a → AreBetween (neg_ℤ z) z a → AreBetween (neg_ℤ z) z (magnitudes a)
unfolding magnitudes
magnitudes_between z a k h = normal_between (neg_ℤ z) z (map magnitude a) (map-between (neg_ℤ z) z magnitude (magnitude-ends z) a k h)

pub results-within : ResultsStayWithin
results-within a b k l h m = record {
  operator = λ op. reach_between op a b;
  negative = negated_between highest a k h;
  absolute = magnitudes_between highest a k h;
  either = united_between lowest highest a b h m;
  both = met_between lowest highest a b h;
}
