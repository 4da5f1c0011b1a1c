-- What an operator gives for raws that are held is held, or its fault is flagged.
use Rattle.std.proofs.Common.{◌≡◌, ◌≢◌, ℤ, pos, negsuc, unsigned_abs, ◌+ℤ◌, ◌≤ℤ◌, ◌<ℤ◌, Bool, true, false}
use Rattle.std.proofs.Common.{List, [], ◌∷◌, ◌++◌, map, flat_map, ◌⊎◌, inl, inr, refl, arith}
use Rattle.std.proofs.lemmas.Bool.{cases_Bool, and_from, or_left, or_right}
use Rattle.std.proofs.lemmas.Bool.Decides.{Decides-int_eq}
use Rattle.std.proofs.lemmas.Int.{ints, clamps}
use Rattle.std.specs.Prelude.{nat_le, int_lt, int_le}
use Rattle.std.specs.List.{list_any}
use Rattle.std.specs.Ordering.{int_eq}
use Rattle.std.specs.Int.{int_min, int_max}
use Rattle.pay_fixed.specs.Round.{limit, limited, IsRaw}
use Rattle.pay_meaning.specs.Language.{Operator, add, subtract, multiply, divide, least, greatest}
use Rattle.pay_meaning.specs.Meaning.{calculated}
use Rattle.pay_meaning.specs.declared.fault.FaultKind.TheVariants.{Overflow}
use Rattle.pay_domains.specs.declared.piece.Piece.{Piece}
use Rattle.pay_domains.specs.Pieces.{Within, Held, from_to, normal, AreProper}
use Rattle.pay_domains.specs.Operators.{lowest, highest, exact, span, unless_empty, clipped, is_beyond, holds_zero, parts_beside_zero, is_quotient}
use Rattle.pay_domains.specs.Operators.{right_pieces, spans, has_pieces, reach}
use Rattle.pay_domains.specs.DomainLaws.{Covers, OperatorsAreSound}
use Rattle.pay_domains.proofs.NormalLemmas.{less_cases, at_most_cases}
use Rattle.pay_domains.proofs.NormalLaws.{normal-domain}
use Rattle.pay_domains.proofs.Corners.{Suits, in_span}

pub less_is : (a b : ℤ) → a <ℤ b → int_lt a b ≡ true
less_is a b h = grind (arith, ints)

pub at_most_is : (a b : ℤ) → a ≤ℤ b → int_le a b ≡ true
at_most_is a b h = grind (arith, ints)

-- what either of two lists holds
pub held_left : (x : ℤ) (a b : List Piece) → Held x a → Held x (a ++ b)
held_left x [] b e = absurd e
held_left x (p ∷ a) b (inl w) = inl w
held_left x (p ∷ a) b (inr e) = inr (held_left x a b e)

pub held_right : (x : ℤ) (a b : List Piece) → Held x b → Held x (a ++ b)
held_right x [] b e = e
held_right x (p ∷ a) b e = inr (held_right x a b e)

pub held_flat : (x y : ℤ) (f : Piece → List Piece) → ((p : Piece) → Within x p → Held y (f p)) → (ps : List Piece) → Held x ps → Held y (flat_map f ps)
held_flat x y f each [] e = absurd e
held_flat x y f each (p ∷ rest) (inl w) = held_left y (f p) (flat_map f rest) (each p w)
held_flat x y f each (p ∷ rest) (inr e) = held_right y (f p) (flat_map f rest) (held_flat x y f each rest e)

pub held_map : (x y : ℤ) (f : Piece → Piece) → ((p : Piece) → Within x p → Within y (f p)) → (ps : List Piece) → Held x ps → Held y (map f ps)
held_map x y f each [] e = absurd e
held_map x y f each (p ∷ rest) (inl w) = inl (each p w)
held_map x y f each (p ∷ rest) (inr e) = inr (held_map x y f each rest e)

-- no piece is empty among those of either list, and among the parts of pieces
pub append_proper : (a b : List Piece) → AreProper a → AreProper b → AreProper (a ++ b)
append_proper [] b h k = k
append_proper (p ∷ a) b h k = (h.0, append_proper a b h.1 k)

pub flat_proper : (f : Piece → List Piece) → ((p : Piece) → AreProper (f p)) → (ps : List Piece) → AreProper (flat_map f ps)
flat_proper f each [] = tt
flat_proper f each (p ∷ rest) = append_proper (f p) (flat_map f rest) (each p) (flat_proper f each rest)

pub unless_empty_proper : (p : Piece) → AreProper (unless_empty p)
unless_empty_proper p = elim (at_most_cases p.low p.high) [
  | inl hit ↦ rw hit.0 (hit.1, tt)
  | inr miss ↦ rw miss.0 tt
]

pub unless_empty_held : (x : ℤ) (p : Piece) → Within x p → Held x (unless_empty p)
unless_empty_held x p w = rw (at_most_is p.low p.high (omega (arith, ints, w.low, w.high))) (inl w)

-- a raw of a piece is one of its part within the limit
raw-ends : (z : ℤ) → IsRaw z → (lowest ≤ℤ z) × (z ≤ℤ highest)
raw-ends z h = (omega (arith, ints), omega (arith, ints))

clipped-held : (z : ℤ) → IsRaw z → (p : Piece) → Within z p → Held z (clipped p)
clipped-held z h p w =
    let ends = raw-ends z h in
    unless_empty_held z (from_to (int_max p.low lowest) (int_min p.high highest))
    (record { low = max-under p.low lowest z w.low ends.0; high = min-over p.high highest z w.high ends.1 })
  where
    max-under : (a b z : ℤ) → a ≤ℤ z → b ≤ℤ z → int_max a b ≤ℤ z
    max-under a b z h k = omega (arith, ints, clamps)

    min-over : (a b z : ℤ) → z ≤ℤ a → z ≤ℤ b → z ≤ℤ int_min a b
    min-over a b z h k = omega (arith, ints, clamps)

pub clipped_proper : (p : Piece) → AreProper (clipped p)
clipped_proper p = unless_empty_proper (from_to (int_max p.low lowest) (int_min p.high highest))

-- a raw of some piece is a raw of the domain of the clipped pieces
within-limit : (z : ℤ) (ps : List Piece) → IsRaw z → Held z ps → Held z (normal (flat_map clipped ps))
within-limit z ps h e = (normal-domain (flat_map clipped ps) (flat_proper clipped clipped_proper ps)).keeps z (held_flat z z clipped (clipped-held z h) ps e)

-- a number beyond the limit lies in a piece that is partly beyond it
beyond-ends : (z : ℤ) → ¬ IsRaw z → (z <ℤ lowest) ⊎ (highest <ℤ z)
beyond-ends z h = elim (less_cases z lowest) [
  | inl hit ↦ inl hit.1
  | inr miss ↦ elim (less_cases highest z) [
    | inl hit ↦ inr hit.1
    | inr over ↦ absurd (h (omega (arith, ints, miss.1, over.1)))
  ]
]

beyond-one : (z : ℤ) (p : Piece) → (z <ℤ lowest) ⊎ (highest <ℤ z) → Within z p → is_beyond p ≡ true
beyond-one z p (inl h) w = or_left (int_lt p.low lowest) (int_lt highest p.high) (less_is p.low lowest (omega (arith, ints, w.low)))
beyond-one z p (inr h) w = or_right (int_lt p.low lowest) (int_lt highest p.high) (less_is highest p.high (omega (arith, ints, w.high)))

pub any_held : (x : ℤ) (test : Piece → Bool) → ((p : Piece) → Within x p → test p ≡ true) → (ps : List Piece) → Held x ps → list_any test ps ≡ true
any_held x test each [] e = absurd e
any_held x test each (p ∷ rest) (inl w) = or_left (test p) (list_any test rest) (each p w)
any_held x test each (p ∷ rest) (inr e) = or_right (test p) (list_any test rest) (any_held x test each rest e)

limited-covers : (op : Operator) (a b : List Piece) (z : ℤ) → Held z (spans op a (right_pieces op b)) → Covers (reach op a b) (limited Overflow z)
unfolding reach
limited-covers op a b z e = elim (cases_Bool (nat_le (unsigned_abs z) limit)) [
  | inl hit ↦ rw hit (within-limit z (spans op a (right_pieces op b)) (grind arith) e)
  | inr miss ↦ rw miss
      (let beyond = beyond-ends z (λ raw. grind arith) in
      any_held z is_beyond (λ p w. beyond-one z p beyond w) (spans op a (right_pieces op b)) e)
]

raw-covers : (op : Operator) (a b : List Piece) (z : ℤ) → IsRaw z → Held z (spans op a (right_pieces op b)) → Held z (reach op a b).domain
unfolding reach
raw-covers op a b z h e = within-limit z (spans op a (right_pieces op b)) h e

-- a divisor's pieces lie on one side of 0
abbrev pub AllSuit : Operator → List Piece → Type 0
AllSuit op [] = Unit {0}
AllSuit op (q ∷ rest) = Suits op q × AllSuit op rest

spans-held-one : (op : Operator) (p : Piece) (x y : ℤ) → Within x p → (qs : List Piece) → AllSuit op qs → Held y qs → Held (exact op x y) (map (span op p) qs)
spans-held-one op p x y w [] s e = absurd e
spans-held-one op p x y w (q ∷ rest) s (inl v) = inl (in_span op p q x y s.0 w v)
spans-held-one op p x y w (q ∷ rest) s (inr e) = inr (spans-held-one op p x y w rest s.1 e)

pub spans-held : (op : Operator) (a qs : List Piece) (x y : ℤ) → AllSuit op qs → Held x a → Held y qs → Held (exact op x y) (spans op a qs)
spans-held op a qs x y s e f = held_flat x (exact op x y) (λ p. map (span op p) qs) (λ p w. spans-held-one op p x y w qs s f) a e

-- where the operator is no quotient
pub plain-suit : (op : Operator) → is_quotient op ≡ false → (qs : List Piece) → AllSuit op qs
plain-suit op h [] = tt
plain-suit op h (q ∷ rest) = ((λ e. cc), plain-suit op h rest)

-- the parts of a divisor beside 0
append-suit : (op : Operator) (a b : List Piece) → AllSuit op a → AllSuit op b → AllSuit op (a ++ b)
append-suit op [] b h k = k
append-suit op (p ∷ a) b h k = (h.0, append-suit op a b h.1 k)

unless-empty-suit : (p : Piece) → Suits divide p → AllSuit divide (unless_empty p)
unless-empty-suit p h = elim (at_most_cases p.low p.high) [
  | inl hit ↦ rw hit.0 (h, tt)
  | inr miss ↦ rw miss.0 tt
]

below-zero : negsuc 0 <ℤ pos 0
below-zero = omega (arith, ints)

above-zero : pos 0 <ℤ pos 1
above-zero = omega (arith, ints)

parts-suit-one : (p : Piece) → AllSuit divide (parts_beside_zero p)
parts-suit-one p = elim (at_most_cases p.low (pos 0)) [
  | inl low ↦ elim (at_most_cases (pos 0) p.high) [
    | inl high ↦ rw (low.0, high.0)
        (append-suit divide (unless_empty (from_to p.low (negsuc 0))) (unless_empty (from_to (pos 1) p.high))
        (unless-empty-suit (from_to p.low (negsuc 0)) (λ e. inr below-zero)) (unless-empty-suit (from_to (pos 1) p.high) (λ e. inl above-zero)))
    | inr under ↦ rw (low.0, under.0) ((λ e. inr under.1), tt)
  ]
  | inr over ↦ rw over.0 ((λ e. inl over.1), tt)
]

parts-suit : (ps : List Piece) → AllSuit divide (flat_map parts_beside_zero ps)
parts-suit [] = tt
parts-suit (p ∷ rest) = append-suit divide (parts_beside_zero p) (flat_map parts_beside_zero rest) (parts-suit-one p) (parts-suit rest)

parts-held-one : (y : ℤ) → y ≢ pos 0 → (p : Piece) → Within y p → Held y (parts_beside_zero p)
parts-held-one y h p w = elim (cases_Bool (holds_zero p)) [
  | inr miss ↦ rw miss (inl w)
  | inl hit ↦ rw hit (elim (less_cases y (pos 0)) [
    | inl under ↦ held_left y (unless_empty (from_to p.low (negsuc 0))) (unless_empty (from_to (pos 1) p.high))
        (unless_empty_held y (from_to p.low (negsuc 0)) (record { low = w.low; high = omega (arith, ints, under.1) }))
    | inr over ↦ held_right y (unless_empty (from_to p.low (negsuc 0))) (unless_empty (from_to (pos 1) p.high))
        (unless_empty_held y (from_to (pos 1) p.high) (record { low = above y h over.1; high = w.high }))
  ])
]
  where
    above : (y : ℤ) → y ≢ pos 0 → pos 0 ≤ℤ y → pos 1 ≤ℤ y
    above y h k = elim (less_cases (pos 0) y) [
      | inl over ↦ omega (arith, ints, over.1)
      | inr under ↦ absurd (h (omega (arith, ints, under.1)))
    ]

-- a divisor that can be 0 is flagged
some-piece : (a : List Piece) (x : ℤ) → Held x a → has_pieces a ≡ true
some-piece [] x e = absurd e
some-piece (p ∷ rest) x e = refl

zero-in : (y : ℤ) → y ≡ pos 0 → (p : Piece) → Within y p → holds_zero p ≡ true
zero-in y h p w =
    and_from (int_le p.low (pos 0)) (int_le (pos 0) p.high)
    (at_most_is p.low (pos 0) (omega (arith, ints, w.low))) (at_most_is (pos 0) p.high (omega (arith, ints, w.high)))

zero-flag : (a b : List Piece) (x y : ℤ) → y ≡ pos 0 → Held x a → Held y b → (reach divide a b).flags.zero ≡ true
unfolding reach
zero-flag a b x y h e f = and_from (has_pieces a) (list_any holds_zero b) (some-piece a x e) (any_held y holds_zero (zero-in y h) b f)

-- a quotient
quotient-covers : (a b : List Piece) (x y : ℤ) → Held x a → Held y b → Covers (reach divide a b) (calculated divide x y)
quotient-covers a b x y e f = elim (cases_Bool (int_eq y (pos 0))) [
  | inl hit ↦ rw hit (zero-flag a b x y ((Decides-int_eq y (pos 0)).0 hit) e f)
  | inr miss ↦ rw miss
      (limited-covers divide a b (exact divide x y)
      (spans-held divide a (flat_map parts_beside_zero b) x y (parts-suit b) e
      (held_flat y y parts_beside_zero (parts-held-one y (λ none. let hit = (Decides-int_eq y (pos 0)).1 none in cc)) b f)))
]

least-raw : (x y : ℤ) → IsRaw x → IsRaw y → IsRaw (int_min x y)
least-raw x y h k = elim (less_cases y x) [ inl hit ↦ rw hit.0 k | inr miss ↦ rw miss.0 h ]

greatest-raw : (x y : ℤ) → IsRaw x → IsRaw y → IsRaw (int_max x y)
greatest-raw x y h k = elim (less_cases x y) [ inl hit ↦ grind (arith, ints, clamps) | inr miss ↦ grind (arith, ints, clamps) ]

pub operators-sound : OperatorsAreSound
operators-sound add a b x y _ _ h e f = limited-covers add a b (x +ℤ y) (spans-held add a b x y (plain-suit add refl b) e f)
operators-sound subtract a b x y _ _ h e f = limited-covers subtract a b (exact subtract x y) (spans-held subtract a b x y (plain-suit subtract refl b) e f)
operators-sound multiply a b x y _ _ h e f = limited-covers multiply a b (exact multiply x y) (spans-held multiply a b x y (plain-suit multiply refl b) e f)
operators-sound divide a b x y _ _ h e f = quotient-covers a b x y e f
operators-sound least a b x y _ _ h e f = raw-covers least a b (int_min x y) (least-raw x y (h refl).0 (h refl).1) (spans-held least a b x y (plain-suit least refl b) e f)
operators-sound greatest a b x y _ _ h e f = raw-covers greatest a b (int_max x y) (greatest-raw x y (h refl).0 (h refl).1) (spans-held greatest a b x y (plain-suit greatest refl b) e f)
