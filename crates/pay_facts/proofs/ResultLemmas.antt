-- What an operator makes of domains is a domain that holds what it gives for their raws, or its fault is flagged.
use Rattle.std.proofs.Common.{◌≡◌, ℤ, ◌≤ℤ◌, false, ◌&&◌}
use Rattle.std.proofs.Common.{List, [], ◌∷◌, ◌++◌, map, flat_map, inl, inr, refl, ap, ◌∙◌, arith}
use Rattle.std.proofs.lemmas.Int.{ints, clamps}
use Rattle.std.specs.Prelude.{int_lt}
use Rattle.std.specs.List.{list_any}
use Rattle.std.specs.Int.{int_min, int_max}
use Rattle.pay_meaning.specs.Language.{Operator, add, subtract, multiply, divide, least, greatest}
use Rattle.pay_meaning.specs.Meaning.{calculated}
use Rattle.pay_domains.specs.declared.piece.Piece.{Piece}
use Rattle.pay_domains.specs.Pieces.{Held, from_to, normal, AreProper, AreRaws, IsDomain}
use Rattle.pay_domains.specs.Operators.{lowest, highest, exact, least_of_four, greatest_of_four, span, unless_empty, clipped, is_beyond, holds_zero}
use Rattle.pay_domains.specs.Operators.{is_quotient, right_pieces, spans, has_pieces, reach}
use Rattle.pay_domains.specs.DomainLaws.{Covers}
use Rattle.pay_domains.proofs.NormalLemmas.{less_cases}
use Rattle.pay_domains.proofs.NormalLaws.{canonical_proper, normal-domain}
use Rattle.pay_domains.proofs.OperatorLaws.{at_most_is, flat_proper, spans-held, plain-suit, operators-sound}
use Rattle.pay_domains.proofs.SetLaws.{normal_keeps}
use Rattle.pay_domains.proofs.Results.{reach_domain}
use Rattle.pay_facts.specs.Ranges.{picked, result_of}
use Rattle.pay_facts.specs.FactLaws.{ReachIsResult}

-- no piece of a domain is empty
pub proper : (a : List Piece) → IsDomain a → AreProper a
proper a h = canonical_proper a h.rises

-- the spans of pieces are not empty
span-proper : (op : Operator) (p q : Piece) → (span op p q).low ≤ℤ (span op p q).high
span-proper op p q =
    least-greatest (exact op p.low q.low) (exact op p.low q.high) (exact op p.high q.low) (exact op p.high q.high)
  where
    least-greatest : (a b c d : ℤ) → least_of_four a b c d ≤ℤ greatest_of_four a b c d
    least-greatest a b c d =
        let low : int_min (int_min a b) (int_min c d) ≤ℤ int_min a b = omega (arith, ints, clamps) in
        let first : int_min a b ≤ℤ int_max a b = omega (arith, ints, clamps) in
        let high : int_max a b ≤ℤ int_max (int_max a b) (int_max c d) = omega (arith, ints, clamps) in
        omega (arith, ints)

row-proper : (op : Operator) (p : Piece) (qs : List Piece) → AreProper (map (span op p) qs)
row-proper op p [] = tt
row-proper op p (q ∷ rest) = (span-proper op p q, row-proper op p rest)

spans-proper : (op : Operator) (a b : List Piece) → AreProper (spans op a b)
spans-proper op a b = flat_proper (λ p. map (span op p) b) (λ p. row-proper op p b) a

-- what an operator makes is a domain
picked-domain : (op : Operator) (a b : List Piece) → IsDomain (picked op a b).domain
picked-domain op a b = (normal-domain (spans op a b) (spans-proper op a b)).domain

pub result-domain : (op : Operator) (a b : List Piece) → IsDomain (result_of op a b).domain
result-domain add a b = reach_domain add a b
result-domain subtract a b = reach_domain subtract a b
result-domain multiply a b = reach_domain multiply a b
result-domain divide a b = reach_domain divide a b
result-domain least a b = picked-domain least a b
result-domain greatest a b = picked-domain greatest a b

-- and covers what it gives for raws that are held
pub operator-covers : (op : Operator) (a b : List Piece) (x y : ℤ) → AreProper a → AreProper b → Held x a → Held y b
    → Covers (result_of op a b) (calculated op x y)
operator-covers add a b x y h k e f = operators-sound add a b x y h k (λ q. cc) e f
operator-covers subtract a b x y h k e f = operators-sound subtract a b x y h k (λ q. cc) e f
operator-covers multiply a b x y h k e f = operators-sound multiply a b x y h k (λ q. cc) e f
operator-covers divide a b x y h k e f = operators-sound divide a b x y h k (λ q. cc) e f
operator-covers least a b x y h k e f =
    normal_keeps (spans least a b) (spans-proper least a b) (int_min x y) (spans-held least a b x y (plain-suit least refl b) e f)
operator-covers greatest a b x y h k e f =
    normal_keeps (spans greatest a b) (spans-proper greatest a b) (int_max x y) (spans-held greatest a b x y (plain-suit greatest refl b) e f)

-- within the limit, and the lesser and the greater of two that are
abbrev IsIn : ℤ → Type 0
IsIn z = (lowest ≤ℤ z) × (z ≤ℤ highest)

min-in : (a b : ℤ) → IsIn a → IsIn b → IsIn (int_min a b)
min-in a b h k = elim (less_cases b a) [
  | inl hit ↦ rw hit.0 k
  | inr miss ↦ rw miss.0 h
]

max-in : (a b : ℤ) → IsIn a → IsIn b → IsIn (int_max a b)
max-in a b h k = elim (less_cases b a) [
  | inl hit ↦ rw hit.0 h
  | inr miss ↦ rw miss.0 k
]

least-in : (a b c d : ℤ) → IsIn a → IsIn b → IsIn c → IsIn d → IsIn (least_of_four a b c d)
least-in a b c d h k l m = min-in (int_min a b) (int_min c d) (min-in a b h k) (min-in c d l m)

greatest-in : (a b c d : ℤ) → IsIn a → IsIn b → IsIn c → IsIn d → IsIn (greatest_of_four a b c d)
greatest-in a b c d h k l m = max-in (int_max a b) (int_max c d) (max-in a b h k) (max-in c d l m)

-- an operator that picks one of two raws within the limit stays there
abbrev Picks : Operator → Type 0
Picks op = (a b : ℤ) → IsIn a → IsIn b → IsIn (exact op a b)

-- both ends of each piece are within the limit
abbrev AreIn : List Piece → Type 0
AreIn [] = Unit {0}
AreIn (p ∷ rest) = (IsIn p.low × IsIn p.high × (p.low ≤ℤ p.high)) × AreIn rest

raws-in : (a : List Piece) → AreProper a → AreRaws a → AreIn a
raws-in [] h k = tt
raws-in (p ∷ rest) h k =
    (((k.0, omega (arith, ints, h.0, k.1)), (omega (arith, ints, h.0, k.0), k.1), h.0), raws-in rest h.1 k.2)

both-in : (a b : List Piece) → AreIn a → AreIn b → AreIn (a ++ b)
both-in [] b h k = k
both-in (p ∷ rest) b h k = (h.0, both-in rest b h.1 k)

row-in : (op : Operator) → Picks op → (p : Piece) (qs : List Piece) → IsIn p.low → IsIn p.high → AreIn qs → AreIn (map (span op p) qs)
row-in op f p [] h k l = tt
row-in op f p (q ∷ rest) h k l = (
  (
    least-in (exact op p.low q.low) (exact op p.low q.high) (exact op p.high q.low) (exact op p.high q.high)
        (f p.low q.low h l.0.0) (f p.low q.high h l.0.1) (f p.high q.low k l.0.0) (f p.high q.high k l.0.1),
    greatest-in (exact op p.low q.low) (exact op p.low q.high) (exact op p.high q.low) (exact op p.high q.high)
        (f p.low q.low h l.0.0) (f p.low q.high h l.0.1) (f p.high q.low k l.0.0) (f p.high q.high k l.0.1),
    span-proper op p q,
  ),
  row-in op f p rest h k l.1,
)

spans-in : (op : Operator) → Picks op → (a b : List Piece) → AreIn a → AreIn b → AreIn (spans op a b)
spans-in op f [] b h k = tt
spans-in op f (p ∷ rest) b h k = both-in (map (span op p) b) (spans op rest b) (row-in op f p b h.0.0 h.0.1 k) (spans-in op f rest b h.1 k)

-- pieces within the limit are what is left of them there
clipped-same : (p : Piece) → IsIn p.low → IsIn p.high → p.low ≤ℤ p.high → clipped p ≡ p ∷ []
clipped-same p h k order =
    ap (λ q. unless_empty q) (λ i. from_to (low p.low h.0 i) (high p.high k.1 i)) ∙ rw (at_most_is p.low p.high order) refl
  where
    low : (z : ℤ) → lowest ≤ℤ z → int_max z lowest ≡ z
    low z h = omega (arith, ints, clamps)

    high : (z : ℤ) → z ≤ℤ highest → int_min z highest ≡ z
    high z h = omega (arith, ints, clamps)

all-clipped : (ps : List Piece) → AreIn ps → flat_map clipped ps ≡ ps
all-clipped [] h = refl
all-clipped (p ∷ rest) h =
    ap (λ c. c ++ flat_map clipped rest) (clipped-same p h.0.0 h.0.1 h.0.2) ∙ ap (λ c. p ∷ c) (all-clipped rest h.1)

none-beyond : (ps : List Piece) → AreIn ps → list_any is_beyond ps ≡ false
none-beyond [] h = refl
none-beyond (p ∷ rest) h = rw (not-less p.low lowest h.0.0.0, not-less highest p.high h.0.1.1) (none-beyond rest h.1)
  where
    not-less : (a b : ℤ) → b ≤ℤ a → int_lt a b ≡ false
    not-less a b h = grind (arith, ints)

picked-is : (op : Operator) → Picks op → is_quotient op ≡ false → (a b : List Piece) → AreProper a → AreProper b → AreRaws a → AreRaws b
    → reach op a b ≡ picked op a b
unfolding reach
picked-is op f plain a b h k l m =
    let inside : AreIn (spans op a b) = spans-in op f a b (raws-in a h l) (raws-in b k m) in
    let right : right_pieces op b ≡ b = rw plain refl in
    let domain : normal (flat_map clipped (spans op a (right_pieces op b))) ≡ normal (spans op a b) =
    ap (λ c. normal (flat_map clipped (spans op a c))) right ∙ ap normal (all-clipped (spans op a b) inside) in
    let overflow : list_any is_beyond (spans op a (right_pieces op b)) ≡ false =
    ap (λ c. list_any is_beyond (spans op a c)) right ∙ none-beyond (spans op a b) inside in
    let zero : (is_quotient op && has_pieces a && list_any holds_zero b) ≡ false = rw plain refl in
    λ i. record { domain = domain i; flags = record { overflow = overflow i; zero = zero i; missing = false } }

pub reach-is-result : ReachIsResult
reach-is-result add a b h k l m = refl
reach-is-result subtract a b h k l m = refl
reach-is-result multiply a b h k l m = refl
reach-is-result divide a b h k l m = refl
reach-is-result least a b h k l m = picked-is least min-in refl a b h k l m
reach-is-result greatest a b h k l m = picked-is greatest max-in refl a b h k l m
